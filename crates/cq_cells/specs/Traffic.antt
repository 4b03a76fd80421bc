-- What is known of the cells that arrive at a switch.
use Rattle.std.specs.Prelude.{ℕ, ◌≡◌, ◌+◌, ◌^◌, ◌<◌, ◌≤◌, ◌==◌, Bool, List, length, filter}
use Rattle.std.specs.List.{AllByRecursion, AllPairs}
use Rattle.cq_base.specs.Arriving.{Arrival, enough}
use Rattle.cq_base.specs.Limits.{longest_file}
use Rattle.cq_pcap.specs.Captured.{Captured, file_length}

-- the cell arrives at one of so many ports, goes to one of them, and is of one of so many classes
pub record IsInRange (ports classes : ℕ) (a : Arrival) : Type 0 where
  pub input : a.cell.id.input < ports
  pub output : a.cell.output < ports
  pub class : a.cell.class < classes

-- the second arrival is of another input or of a later slot
abbrev pub IsLater : Arrival → Arrival → Type 0
IsLater a b = a.cell.id.input ≡ b.cell.id.input → a.slot < b.slot

-- the cells that arrive at a switch of so many ports and classes: each is in range, and those of one input arrive one
-- after another, in the order of the list
pub record IsTraffic (ports classes : ℕ) (came : List Arrival) : Type 0 where
  pub in_range : AllByRecursion (IsInRange ports classes) came
  pub one_by_one : AllPairs IsLater came

-- a run of these arrivals has few slots: a number of 64 bits counts them
abbrev pub IsShort : List Arrival → Type 0
IsShort came = enough came ≤ 2 ^ 63 + 2 ^ 35

-- packets as a capture has them: their stamps are below 2^63, and they fill a file that is not too long
pub record IsRecorded (ps : List Captured) : Type 0 where
  pub stamps : AllByRecursion (λ p. p.stamp < 2 ^ 63) ps
  pub small : file_length ps ≤ longest_file

-- whether the cell arrives at this input
abbrev pub is_from : ℕ → Arrival → Bool
is_from input a = a.cell.id.input == input

-- whether it goes to this output
abbrev pub is_to : ℕ → Arrival → Bool
is_to output a = a.cell.output == output

-- how many of these arrivals pass a test
abbrev pub number_of : (Arrival → Bool) → List Arrival → ℕ
number_of test came = length (filter test came)
