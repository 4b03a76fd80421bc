-- The lines of a phase, held against the lists of the inputs as they stand when it begins. They are right where each
-- names its input's first cell for an output that no other line names. Then they tell a matching, and it is stable
-- where no pair blocks it (Gale and Shapley 1962).
use Rattle.std.specs.Prelude.{◌≡◌, ◌≢◌, ℕ, ◌<◌, ◌≤◌, ◌==◌, ◌&&◌, ◌⊎◌, Bool, List, [], ◌∷◌, ◌++◌, length, map, filter, find, Option, Some}
use Rattle.std.specs.List.{AllByRecursion, range_with_len}
use Rattle.std.specs.Option.{option_map}
use Rattle.cq_base.specs.declared.cell.CellId.{CellId}
use Rattle.cq_base.specs.declared.cell.Queued.{Queued}
use Rattle.cq_base.specs.declared.cell.Transfer.{Transfer}
use Rattle.cq_base.specs.Cells.{first_for}
use Rattle.cq_prefs.specs.FirstCells.{list_of, orders_of}
use Rattle.cq_prefs.specs.Moves.{transfers_of}
use Rattle.cq_prefs.specs.Orders.{Orders, IsOffered}
use Rattle.cq_prefs.specs.Pairing.{Partners, partner_of, IsStable, HasBetterOutput, HasBetterInput}
use Rattle.cq_audit.specs.Log.{AreInOrder, IsOf}
use Rattle.cq_audit.specs.declared.phase.PhaseFault.{PhaseFault}
use Rattle.cq_audit.specs.declared.phase.PhaseFault.TheVariants.{WrongLine, Blocking}

-- each comes behind those of lesser inputs
abbrev pub RiseByInput : List Transfer → Type 0
RiseByInput [] = Unit {0}
RiseByInput (t ∷ lines) = AllByRecursion (λ u. t.input < u.input) lines × RiseByInput lines

-- they are lines of this slot and phase of a switch of so many ports, in order of input
pub record AreOfPhase (ports slot phase : ℕ) (lines : List Transfer) : Type 0 where
  pub of : AllByRecursion (IsOf ports) lines
  pub now : AllByRecursion (λ t. (t.slot ≡ slot) × (t.phase ≡ phase)) lines
  pub rise : RiseByInput lines

-- whether a line is of a phase
abbrev pub is_at : ℕ → ℕ → Transfer → Bool
is_at slot phase t = t.slot == slot && t.phase == phase

-- the lines of a phase
abbrev pub in_phase : ℕ → ℕ → List Transfer → List Transfer
in_phase slot phase note = filter (is_at slot phase) note

-- no line is of an earlier phase than this one
abbrev pub NoneBefore : ℕ → ℕ → List Transfer → Type 0
NoneBefore slot phase note = AllByRecursion (λ t. (slot < t.slot) ⊎ ((slot ≡ t.slot) × (phase ≤ t.phase))) note

-- every line is of a later phase than this one
abbrev pub AllBehind : ℕ → ℕ → List Transfer → Type 0
AllBehind slot phase note = AllByRecursion (λ t. (slot < t.slot) ⊎ ((slot ≡ t.slot) × (phase < t.phase))) note

-- lines of which none is earlier than a phase are its own, and those behind it
pub record AreParted (ports slot phase : ℕ) (note lines rest : List Transfer) : Type 0 where
  pub own : lines ≡ in_phase slot phase note
  pub whole : note ≡ lines ++ rest
  pub of_phase : AreOfPhase ports slot phase lines
  pub in_order : AreInOrder ports rest
  pub behind : AllBehind slot phase rest

-- the line of an input, if it has one
abbrev pub line_of_input : ℕ → List Transfer → Option Transfer
line_of_input i lines = find (λ t. t.input == i) lines

-- the output that it names
abbrev pub output_told : List Transfer → ℕ → Option ℕ
output_told lines i = option_map (λ t. t.output) (line_of_input i lines)

-- the pairs that the lines tell
unfoldable pub told : ℕ → List Transfer → Partners
told ports lines = map (output_told lines) (range_with_len 0 ports)

-- the id of the first cell for output j, if there is one
abbrev pub first_id : ℕ → List Queued → Option CellId
first_id j cells = option_map (λ c. c.cell.id) (first_for j cells)

-- an input with a lesser number has a line for this output
abbrev pub IsTakenBelow : List Transfer → ℕ → ℕ → Type 0
IsTakenBelow lines i j = (k : ℕ) × (k < i) × (output_told lines k ≡ Some j)

-- the line of this input does not name its first cell for an output, or names an output that a lesser input's line
-- names
pub record IsWrongLine (lists : List (List Queued)) (lines : List Transfer) (i : ℕ) : Type 0 where
  pub line : Transfer
  pub stands : line_of_input i lines ≡ Some line
  pub wrong : (first_id line.output (list_of lists i) ≢ Some line.id) ⊎ IsTakenBelow lines i line.output

-- no line is wrong
abbrev pub AreRight : List (List Queued) → List Transfer → Type 0
AreRight lists lines = (i : ℕ) → IsWrongLine lists lines i → ⊥

-- an offered pair outside the matching of which neither end has a partner that it prefers
pub record IsBlocking (o : Orders) (m : Partners) (i j : ℕ) : Type 0 where
  pub offered : IsOffered o i j
  pub outside : partner_of m i ≢ Some j
  pub no_better_output : HasBetterOutput o m i j → ⊥
  pub no_better_input : HasBetterInput o m i j → ⊥

-- it is the first of these pairs, by input and then output
pub record IsFirstBlocking (o : Orders) (m : Partners) (i j : ℕ) : Type 0 where
  pub blocks : IsBlocking o m i j
  pub first : (k l : ℕ) → IsBlocking o m k l → (i < k) ⊎ ((i ≡ k) × (j ≤ l))

-- it is the least input whose line is wrong
pub record IsFirstWrong (lists : List (List Queued)) (lines : List Transfer) (i : ℕ) : Type 0 where
  pub wrong : IsWrongLine lists lines i
  pub least : (k : ℕ) → k < i → IsWrongLine lists lines k → ⊥

-- no line is wrong, and this is the first pair that blocks their matching
pub record IsFirstUnsettled (lists : List (List Queued)) (lines : List Transfer) (i j : ℕ) : Type 0 where
  pub right : AreRight lists lines
  pub blocking : IsFirstBlocking (orders_of lists) (told (length lists) lines) i j

-- what is wrong with the lines of a phase
abbrev pub IsPhaseFault : List (List Queued) → List Transfer → PhaseFault → Type 0
IsPhaseFault lists lines (WrongLine i) = IsFirstWrong lists lines i
IsPhaseFault lists lines (Blocking i j) = IsFirstUnsettled lists lines i j

-- ## What holds of the lines of every phase

-- the matching is stable, and its transfers are the lines
pub record IsStableTold (lists : List (List Queued)) (slot phase : ℕ) (lines : List Transfer) (m : Partners) : Type 0
  where
    pub stable : IsStable (orders_of lists) m
    pub moved : transfers_of m lists slot phase ≡ lines

-- they are the transfers of one stable matching or have one fault, and never both
pub record IsPhaseExact : Type 0 where
  pub one_matching : (lists : List (List Queued)) (slot phase : ℕ) (lines : List Transfer) (m n : Partners) →
      IsStableTold lists slot phase lines m → IsStableTold lists slot phase lines n → m ≡ n
  pub one_fault : (lists : List (List Queued)) (lines : List Transfer) (f g : PhaseFault) →
      IsPhaseFault lists lines f → IsPhaseFault lists lines g → f ≡ g
  pub never_both : (lists : List (List Queued)) (slot phase : ℕ) (lines : List Transfer) (m : Partners)
      (f : PhaseFault) →
      IsStableTold lists slot phase lines m → IsPhaseFault lists lines f → ⊥
