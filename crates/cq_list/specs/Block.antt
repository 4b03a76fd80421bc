-- Only proofs use this.
-- The counts of a block of places.
use Rattle.std.specs.Prelude.{◌≡◌, ℕ, ◌<◌, ◌≤◌, List, length, slice_index}
use Rattle.std.specs.List.{AllByRecursion}
use Rattle.cq_base.specs.Limits.{most_ports}
use Rattle.cq_list.specs.Split.{count_of}

-- the most places of a block
abbrev pub most_places : ℕ
most_places = 64

-- the places of each half of a full block
abbrev pub half_places : ℕ
half_places = 32

-- each output has as many of the places as its count says, and there are at most 64 places, of the first 64 outputs
pub record AreCounts (places counts : List ℕ) : Type 0 where
  pub counted : (j : ℕ) → j < most_ports → slice_index counts j ≡ count_of j places
  pub in_range : AllByRecursion (λ j. j < most_ports) places
  pub short : length places ≤ most_places
  pub each : length counts ≡ most_ports
