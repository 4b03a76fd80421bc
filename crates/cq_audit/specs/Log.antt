-- The log of a run: its transfers, one line each, in order.
use Rattle.std.specs.Prelude.{◌≡◌, ℕ, ◌<◌, ◌≤◌, ◌^◌, List, [], ◌∷◌, Option, None, Some, IfSome, ⊤}
use Rattle.std.specs.List.{AllByRecursion}
use Rattle.cq_base.specs.declared.cell.Transfer.{Transfer}
use Rattle.cq_base.specs.Texts.{log_line}
use Rattle.cq_lines.specs.Texts.{IsText, IsFirstFault, IsExact}
use Rattle.cq_lines.specs.Transfers.{IsTransferBefore}

-- what a transfer can hold; its cell is one of the input that it leaves
pub record IsTransfer (t : Transfer) : Type 0 where
  pub slot : t.slot < 2 ^ 64
  pub phase : t.phase < 2 ^ 8
  pub input : t.input < 2 ^ 16
  pub output : t.output < 2 ^ 16
  pub packet : t.id.packet < 2 ^ 32
  pub index : t.id.index < 2 ^ 32
  pub own : t.id.input ≡ t.input

-- it crosses a switch of so many ports, in one of the two phases
pub record IsOf (ports : ℕ) (t : Transfer) : Type 0 where
  pub phase : (1 ≤ t.phase) × (t.phase ≤ 2)
  pub input : t.input < ports
  pub output : t.output < ports

-- the numbers of a line behind its slot
abbrev pub numbers_behind : Transfer → List (Option ℕ)
numbers_behind t = Some t.phase ∷ Some t.input ∷ Some t.output ∷ Some t.id.packet ∷ Some t.id.index ∷ []

-- the transfers cross a switch of so many ports, each behind those before it
abbrev pub AreInOrder : ℕ → List Transfer → Type 0
AreInOrder ports [] = Unit {0}
AreInOrder ports (t ∷ note) = IsOf ports t × AllByRecursion (IsTransferBefore t) note × AreInOrder ports note

-- where a line comes is told by the transfer of the line before it, if there is one: a later transfer may come
abbrev pub Comes : ℕ → Option Transfer → Transfer → Option Transfer → Type 0
Comes ports last t next = IsTransfer t × IsOf ports t × IfSome last (λ u. IsTransferBefore u t) × (next ≡ Some t)

-- the bytes are the log text of these transfers
abbrev pub IsLog : ℕ → List Transfer → List ℕ → Type 0
IsLog ports note log = IsText log_line (Comes ports) None (λ _. ⊤) note log

-- line n of the log, from 1, is the first that is none, or is not after the line before it
abbrev pub IsLogFault : ℕ → List ℕ → ℕ → Type 0
IsLogFault ports log n = IsFirstFault log_line (Comes ports) None (λ _. ⊤) log n

-- a log is read in one way at most, or refused at one line at most, and never both
abbrev pub IsLogExact : ℕ → Type 0
IsLogExact ports = IsExact log_line (Comes ports) None (λ _. ⊤)
