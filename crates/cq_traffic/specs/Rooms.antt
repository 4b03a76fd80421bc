-- How much room a run needs.
use Rattle.std.specs.Prelude.{ℕ, Bool, List, map}
use Rattle.std.specs.List.{range_with_len}
use Rattle.cq_base.specs.Arriving.{Arrival}
use Rattle.cq_cells.specs.Traffic.{number_of}

-- how many cells there are of each of the first so many ports, by what tells whether a cell is of a port
abbrev pub rooms_of : (ℕ → Arrival → Bool) → List Arrival → ℕ → List ℕ
rooms_of is_of came ports = map (λ port. number_of (is_of port) came) (range_with_len 0 ports)
