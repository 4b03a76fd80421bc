-- The machines of the outputs of one switch.
use Rattle.std.specs.Prelude.{◌≡◌, ℕ, ◌<◌, ◌≤◌, List, [], length, slice_index_or}
use Rattle.std.specs.List.{AllByRecursion}
use Rattle.cq_base.specs.Limits.{most_ports}
use Rattle.cq_rank.specs.Machine.{Machine, machine_at}

-- how many classes the machines know, which is the same for all
abbrev pub class_count : List Machine → ℕ
class_count ms = (machine_at ms 0).classes

-- there are machines, for no more ports than there may be, and all know the same number of classes
pub record AreForOneSwitch (ms : List Machine) : Type 0 where
  pub some : 0 < length ms
  pub few : length ms ≤ most_ports
  pub same : AllByRecursion (λ m. m.classes ≡ class_count ms) ms

-- each state has as many numbers as its machine asks for
abbrev pub AreSized : List Machine → List (List ℕ) → Type 0
AreSized ms states = (j : ℕ) → j < length states → length (slice_index_or states j []) ≡ (machine_at ms j).size
