-- The machines of a switch, by the disciplines of its outputs.
use Rattle.std.specs.Prelude.{ℕ, List, [], map}
use Rattle.cq_base.specs.declared.setup.ClassRow.{ClassRow}
use Rattle.cq_base.specs.declared.setup.Kind.{Kind}
use Rattle.cq_base.specs.declared.setup.Kind.TheVariants.{FirstCome, Priority, Fair}
use Rattle.cq_base.specs.declared.setup.Setup.{Setup}
use Rattle.cq_rank.specs.Machine.{Machine, first_come, priority}
use Rattle.cq_scfq.specs.Fair.{fair, all_zero}

-- the machine of an output with this discipline
abbrev pub machine_of : Kind → List ClassRow → Machine
machine_of FirstCome rows = first_come rows
machine_of Priority rows = priority rows
machine_of Fair rows = fair rows

-- the state in which it begins
abbrev pub opening_of : Kind → List ClassRow → List ℕ
opening_of FirstCome rows = []
opening_of Priority rows = []
opening_of Fair rows = all_zero rows

-- the machine of each output of a switch
abbrev pub machines_of : Setup → List Machine
machines_of setup = map (λ kind. machine_of kind setup.classes) setup.kinds

-- the states in which they begin
abbrev pub openings_of : Setup → List (List ℕ)
openings_of setup = map (λ kind. opening_of kind setup.classes) setup.kinds
