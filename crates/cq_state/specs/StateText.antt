-- The text of a state: which kinds of line it has, in which order, how many of each, and what stands in them.
use Rattle.std.specs.Prelude.{◌≡◌, ℕ, ◌+◌, ◌-◌, ◌^◌, ◌<◌, ◌≤◌, ◌⊎◌, Bool, true, false, List, [], ◌∷◌, Option, None, IsTrue, codes, get_or, unwrap_or, ⊤}
use Rattle.cq_base.specs.Limits.{level_count, most_classes, most_ports}
use Rattle.cq_lines.specs.declared.range.Range.{Range}
use Rattle.cq_lines.specs.Lines.{line}
use Rattle.cq_lines.specs.Ranges.{Within, any_number}
use Rattle.cq_lines.specs.Texts.{IsText, IsFirstFault, IsExact}
use Rattle.cq_state.specs.declared.kind.Kind.{Kind}
use Rattle.cq_state.specs.declared.kind.Kind.TheVariants.{Version, Next, Shape, Sum, Input, Rank, Listed, Buffered, Sent, Moved, End}

-- ## The table of kinds

-- the kinds, in the order in which their lines stand
abbrev pub kinds : List Kind
kinds = Version ∷ Next ∷ Shape ∷ Sum ∷ Input ∷ Rank ∷ Listed ∷ Buffered ∷ Sent ∷ Moved ∷ End ∷ []

-- the word of a line
abbrev pub word : Kind → List ℕ
word Version = codes "cq-state"
word Next = codes "next"
word Shape = codes "shape"
word Sum = codes "sum"
word Input = codes "input"
word Rank = codes "rank"
word Listed = codes "list"
word Buffered = codes "buffer"
word Sent = codes "sent"
word Moved = codes "moved"
word End = codes "end"

-- how many lines of a kind there are in a switch of so many ports: so many, and more where that is free
abbrev pub needed : ℕ → Kind → ℕ
needed ports Input = ports
needed ports Rank = ports
needed ports Listed = 0
needed ports Buffered = 0
needed ports Sent = 0
needed ports Moved = 0
needed ports k = 1

-- whether there may be more of a kind than are needed
abbrev pub is_free : Kind → Bool
is_free Listed = true
is_free Buffered = true
is_free Sent = true
is_free Moved = true
is_free k = false

-- ranges of numbers
abbrev pub between : ℕ → ℕ → Range
between least most = record { least = least; most = most; or_none = false }

-- slots, and what is counted in a run
abbrev pub count : Range
count = between 0 (2 ^ 63 - 1)

-- and the same where there may be none
abbrev pub count_or_none : Range
count_or_none = record { least = 0; most = 2 ^ 63 - 1; or_none = true }

-- a port of so many
abbrev pub port : ℕ → Range
port ports = between 0 (ports - 1)

-- a level, a rank, the slot of arrival, and the input: a cell with its key
abbrev pub cell : ℕ → List Range
cell ports = between 0 (level_count - 1) ∷ any_number ∷ count ∷ port ports ∷ []

-- the ranges of the fields of a line, behind so many lines of its kind
abbrev pub ranges : ℕ → ℕ → Kind → List Range
ranges ports index Version = between 1 1 ∷ []
ranges ports index Next = count ∷ []
ranges ports index Shape = between 1 most_ports ∷ between 1 most_classes ∷ count ∷ count ∷ []
ranges ports index Sum = count ∷ count ∷ []
ranges ports index Input = between index index ∷ count ∷ count_or_none ∷ []
ranges ports index Rank = between index index ∷ []
ranges ports index Listed = cell ports
ranges ports index Buffered = cell ports
ranges ports index Sent = count ∷ cell ports
ranges ports index Moved = count ∷ between 1 2 ∷ port ports ∷ port ports ∷ between 0 (2 ^ 32 - 1) ∷ between 0 (2 ^ 32
    - 1) ∷ []
ranges ports index End = []

-- how many further numbers there may be behind them: of a rank state one for each class and one for each level
abbrev pub further : Kind → ℕ
further Rank = most_classes + level_count
further k = 0

-- ## The text

-- a line, by its kind and its fields
pub record Line : Type 0 where
  pub kind : Kind
  pub fields : List (Option ℕ)

-- the text of a line
abbrev pub spelled : Line → List ℕ
spelled x = line (word x.kind) x.fields

-- where a line comes: the kinds whose lines are still due, how many lines of the first of them stand there, and the
-- ports
pub record Place : Type 0 where
  pub due : List Kind
  pub seen : ℕ
  pub ports : ℕ

-- there may be one line more of the kind
abbrev pub HasRoom : ℕ → Kind → ℕ → Type 0
HasRoom ports k seen = IsTrue (is_free k) ⊎ (seen < needed ports k)

-- the ports, which one kind of line tells
abbrev pub ports_behind : ℕ → Kind → List (Option ℕ) → ℕ
ports_behind ports Shape fs = unwrap_or (get_or fs 0 None) 0
ports_behind ports k fs = ports

-- one line more of the kind that is due first
pub record IsOneMore (k : Kind) (due : List Kind) (seen ports : ℕ) (x : Line) (next : Place) : Type 0 where
  pub kind : x.kind ≡ k
  pub room : HasRoom ports k seen
  pub within : Within (ranges ports seen k) (further k) x.fields
  pub leads : next ≡ record { due = k ∷ due; seen = seen + 1; ports = ports_behind ports k x.fields }

-- a line that comes is one more of the kind that is due first, or, where that has all its lines, comes where the next
-- is due
abbrev pub ComesAt : List Kind → ℕ → ℕ → Line → Place → Type 0
ComesAt [] seen ports x next = ⊥
ComesAt (k ∷ due) seen ports x next = IsOneMore k due seen ports x next ⊎ ((needed ports k ≤ seen) × ComesAt due 0
    ports x next)

-- a line comes at a place, and leads to the next one
abbrev pub Comes : Place → Line → Place → Type 0
Comes p x next = ComesAt p.due p.seen p.ports x next

-- the text may end where each kind has all its lines
abbrev pub HasAll : List Kind → ℕ → ℕ → Type 0
HasAll [] seen ports = ⊤
HasAll (k ∷ due) seen ports = (needed ports k ≤ seen) × HasAll due 0 ports

-- the text may end at a place
abbrev pub MayEnd : Place → Type 0
MayEnd p = HasAll p.due p.seen p.ports

-- where a text begins
abbrev pub start : Place
start = record { due = kinds; seen = 0; ports = 0 }

-- the text is that of a state with these lines
abbrev pub IsStateText : List Line → List ℕ → Type 0
IsStateText xs text = IsText spelled Comes start MayEnd xs text

-- line n of the text, from 1, is the first that is not allowed there, or is missing
abbrev pub IsStateFault : List ℕ → ℕ → Type 0
IsStateFault text n = IsFirstFault spelled Comes start MayEnd text n

-- a state's text is read in one way at most, or refused at one line at most, and never both
abbrev pub IsStateExact : Type 0
IsStateExact = IsExact spelled Comes start MayEnd
