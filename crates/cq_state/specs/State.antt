-- The state of a stopped run: the ranges of its numbers, and the lines of its text.
use Rattle.std.specs.Prelude.{◌≡◌, ℕ, ◌+◌, ◌-◌, ◌^◌, ◌<◌, ◌≤◌, List, [], ◌∷◌, length, map, Option, Some, IfSome}
use Rattle.std.specs.List.{AllByRecursion, flat_map}
use Rattle.cq_base.specs.Limits.{level_count, most_classes, most_ports}
use Rattle.cq_base.specs.declared.cell.Transfer.{Transfer}
use Rattle.cq_state.specs.declared.kind.Kind.{Kind}
use Rattle.cq_state.specs.declared.kind.Kind.TheVariants as kind
use Rattle.cq_state.specs.declared.state.Head.{Head}
use Rattle.cq_state.specs.declared.state.Seen.{Seen}
use Rattle.cq_state.specs.declared.state.Named.{Named}
use Rattle.cq_state.specs.declared.state.Sent.{Sent}
use Rattle.cq_state.specs.declared.state.State.{State}
use Rattle.cq_state.specs.StateText.{Line, spelled}

-- ## Ranges

-- slots, and what is counted in a run
abbrev pub IsCount : ℕ → Type 0
IsCount n = n < 2 ^ 63

-- the numbers of the lines that are there once
pub record IsHead (h : Head) : Type 0 where
  pub next : IsCount h.next
  pub ports : (1 ≤ h.ports) × (h.ports ≤ most_ports)
  pub classes : (1 ≤ h.classes) × (h.classes ≤ most_classes)
  pub t0 : IsCount h.t0
  pub total : IsCount h.total
  pub proposals : IsCount h.proposals
  pub most : IsCount h.most

-- the numbers of the line of an input
abbrev pub IsSeen : Seen → Type 0
IsSeen x = IsCount x.longest × IfSome x.slack IsCount

-- the numbers of a rank state: at most one for each class and one for each level
abbrev pub AreRankNumbers : List ℕ → Type 0
AreRankNumbers ns = (length ns ≤ most_classes + level_count) × AllByRecursion (λ n. n < 2 ^ 128) ns

-- a cell of a switch of so many ports
pub record IsNamed (ports : ℕ) (c : Named) : Type 0 where
  pub level : c.level ≤ level_count - 1
  pub rank : c.rank < 2 ^ 128
  pub slot : IsCount c.slot
  pub input : c.input < ports

-- a departure from a switch of so many ports
abbrev pub IsSent : ℕ → Sent → Type 0
IsSent ports d = IsCount d.slot × IsNamed ports d.cell

-- its cell is one of the input that it leaves
pub record IsMoved (ports : ℕ) (t : Transfer) : Type 0 where
  pub slot : IsCount t.slot
  pub phase : (1 ≤ t.phase) × (t.phase ≤ 2)
  pub input : t.input < ports
  pub output : t.output < ports
  pub packet : t.id.packet < 2 ^ 32
  pub index : t.id.index < 2 ^ 32
  pub own : t.id.input ≡ t.input

-- the numbers of a state are in their ranges, and each port has what is told of it
pub record IsInRange (s : State) : Type 0 where
  pub head : IsHead s.head
  pub inputs_told : length s.inputs ≡ s.head.ports
  pub outputs_told : length s.ranks ≡ s.head.ports
  pub inputs : AllByRecursion IsSeen s.inputs
  pub ranks : AllByRecursion AreRankNumbers s.ranks
  pub listed : AllByRecursion (IsNamed s.head.ports) s.listed
  pub buffered : AllByRecursion (IsNamed s.head.ports) s.buffered
  pub sent : AllByRecursion (IsSent s.head.ports) s.sent
  pub moved : AllByRecursion (IsMoved s.head.ports) s.moved

-- ## Lines

-- a line of numbers
abbrev pub numbers : Kind → List ℕ → Line
numbers k ns = record { kind = k; fields = map Some ns }

-- the lines that are there once, in front of all others
abbrev pub head_lines : Head → List Line
head_lines h =
    numbers kind.Version (1 ∷ [])
    ∷ numbers kind.Next (h.next ∷ [])
    ∷ numbers kind.Shape (h.ports ∷ h.classes ∷ h.t0 ∷ h.total ∷ [])
    ∷ numbers kind.Sum (h.proposals ∷ h.most ∷ [])
    ∷ []

-- the line of a thing with these fields
abbrev pub line_by : {X : Type 0} → Kind → (X → List (Option ℕ)) → X → Line
line_by k fields x = record { kind = k; fields = fields x }

-- the line of input i
abbrev pub input_line : ℕ → Seen → Line
input_line i x = record { kind = kind.Input; fields = Some i ∷ Some x.longest ∷ x.slack ∷ [] }

-- and that of the rank machine of output j
abbrev pub rank_line : ℕ → List ℕ → Line
rank_line j ns = numbers kind.Rank (j ∷ ns)

-- the numbers that name a cell
abbrev pub cell_numbers : Named → List ℕ
cell_numbers c = c.level ∷ c.rank ∷ c.slot ∷ c.input ∷ []

-- the line of a cell that waits
abbrev pub cell_line : Kind → Named → Line
cell_line k c = numbers k (cell_numbers c)

-- the line of a departure
abbrev pub sent_line : Sent → Line
sent_line d = numbers kind.Sent (d.slot ∷ cell_numbers d.cell)

-- and that of a transfer
abbrev pub moved_line : Transfer → Line
moved_line t = numbers kind.Moved (t.slot ∷ t.phase ∷ t.input ∷ t.output ∷ t.id.packet ∷ t.id.index ∷ [])

-- one line each, numbered in order from a first number on
abbrev pub numbered : {X : Type 0} → (ℕ → X → Line) → ℕ → List X → List Line
numbered line n [] = []
numbered line n (x ∷ xs) = line n x ∷ numbered line (n + 1) xs

-- the parts of a state's text, in order
abbrev pub parts : State → List (List Line)
parts s =
    head_lines s.head
    ∷ numbered input_line 0 s.inputs
    ∷ numbered rank_line 0 s.ranks
    ∷ map (cell_line kind.Listed) s.listed
    ∷ map (cell_line kind.Buffered) s.buffered
    ∷ map sent_line s.sent
    ∷ map moved_line s.moved
    ∷ (numbers kind.End [] ∷ [])
    ∷ []

-- all lines of a state, in order
unfoldable pub state_lines : State → List Line
state_lines s = flat_map (λ part. part) (parts s)

-- the text of a state
abbrev pub state_text : State → List ℕ
state_text s = flat_map spelled (state_lines s)
