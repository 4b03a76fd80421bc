-- Deferred acceptance (Gale and Shapley 1962): each free input proposes to the outputs of its order, one after another,
-- and an output keeps the best input that proposed to it.
use Rattle.std.specs.Prelude.{ℕ, ◌≡◌, ◌⊎◌, ◌+◌, ◌<◌, ◌≤◌, ◌&&◌, ◌==◌, Bool, nat_lt, is_none, if◌then◌else◌, List, [], ◌∷◌, length, map, filter, find, Option, slice_index, slice_set, replicate, min}
use Rattle.std.specs.List.{range_with_len}
use Rattle.cq_prefs.specs.Orders.{Orders, ports, outputs_of, inputs_of, place_of, position_of}
use Rattle.cq_prefs.specs.Pairing.{Partners}
use Rattle.cq_prefs.specs.declared.outcome.Outcome.{Outcome}
use Rattle.cq_prefs.specs.declared.outcome.Outcome.TheVariants.{Held, Displaced, Rejected}

-- per output the position of the input that it holds, or the number of ports where it holds nobody; per input the place
-- where it proposes next
pub record State : Type 0 where
  pub positions : List ℕ
  pub places : List ℕ

-- the position that output j holds
abbrev pub position_held : State → ℕ → ℕ
position_held s j = slice_index s.positions j

-- the place where input i proposes next
abbrev pub next_place : State → ℕ → ℕ
next_place s i = slice_index s.places i

-- no output holds anybody, and nobody has proposed
unfoldable pub start : Orders → State
start o = record { positions = replicate (ports o) (ports o); places = replicate (ports o) 0 }

-- output j holds input i
abbrev pub Holds : Orders → State → ℕ → ℕ → Type 0
Holds o s j i = (position_held s j ≡ position_of o j i) × (position_of o j i < length (inputs_of o j))

-- an input is free while nobody holds it and somebody in its order has not been asked
pub record IsFree (o : Orders) (s : State) (i : ℕ) : Type 0 where
  pub left : next_place s i < length (outputs_of o i)
  pub unheld : (j : ℕ) → Holds o s j i → ⊥

-- nobody is free
abbrev pub IsQuiescent : Orders → State → Type 0
IsQuiescent o s = (i : ℕ) → IsFree o s i → ⊥

-- the output at place p of the order of input i
abbrev pub output_at : Orders → ℕ → ℕ → ℕ
output_at o i p = slice_index (outputs_of o i) p

-- the output to which input i proposes next
abbrev pub next_output : Orders → State → ℕ → ℕ
next_output o s i = output_at o i (next_place s i)

-- the one event, input i proposes: the output takes it where it holds nobody or a greater position, and the input goes
-- on to its next place
unfoldable pub propose : Orders → State → ℕ → State
propose o s i =
    record {
      positions =
          slice_set s.positions (next_output o s i) (min (position_held s (next_output o s i))
          (position_of o (next_output o s i) i));
      places = slice_set s.places i (next_place s i + 1);
    }

-- the input that output j holds
abbrev pub holder : Orders → State → ℕ → ℕ
holder o s j = slice_index (inputs_of o j) (position_held s j)

-- what a proposal of input i at place p comes to where the output held this position: it held nobody, it held one that
-- it prefers less, or it keeps one that it prefers more
unfoldable pub answer_of : Orders → ℕ → ℕ → ℕ → Outcome
answer_of o i p held =
    if held == ports o then Held
    else if nat_lt (position_of o (output_at o i p) i) held then Displaced
    (slice_index (inputs_of o (output_at o i p)) held)
    else Rejected

-- what the proposal of input i comes to
abbrev pub outcome_of : Orders → State → ℕ → Outcome
outcome_of o s i = answer_of o i (next_place s i) (position_held s (next_output o s i))

-- the state after these events, of which the latest stands first
abbrev pub state_after : Orders → List ℕ → State
state_after o [] = start o
state_after o (i ∷ events) = propose o (state_after o events) i

-- each event is the proposal of an input that was free
abbrev pub AreEvents : Orders → List ℕ → Type 0
AreEvents o [] = Unit {0}
AreEvents o (i ∷ events) = AreEvents o events × IsFree o (state_after o events) i

-- whether output j holds input i
abbrev pub holds : Orders → State → ℕ → ℕ → Bool
holds o s i j = position_held s j == position_of o j i && nat_lt (position_of o j i) (length (inputs_of o j))

-- the output that holds input i, if one does
unfoldable pub keeper : Orders → State → ℕ → Option ℕ
keeper o s i = find (holds o s i) (range_with_len 0 (ports o))

-- the pairs of each output and the input that it holds
unfoldable pub matching_of : Orders → State → Partners
matching_of o s = map (keeper o s) (range_with_len 0 (ports o))

-- whether input i is free
unfoldable pub is_free : Orders → State → ℕ → Bool
is_free o s i = nat_lt (next_place s i) (length (outputs_of o i)) && is_none (keeper o s i)

-- the free inputs in order of number
unfoldable pub free_inputs : Orders → State → List ℕ
free_inputs o s = filter (is_free o s) (range_with_len 0 (ports o))

-- what holds in every state that events reach
pub record IsSound (o : Orders) (s : State) : Type 0 where
  pub outputs : length s.positions ≡ ports o
  pub inputs : length s.places ≡ ports o
  -- no input proposes past its order
  pub within : (i : ℕ) → next_place s i ≤ length (outputs_of o i)
  -- an output to which an input has proposed holds it or a better one
  pub asked_before : (i j : ℕ) → place_of o i j < next_place s i → position_held s j ≤ position_of o j i
  -- an output holds only an input that proposed to it last
  pub last : (i j : ℕ) → Holds o s j i → next_place s i ≡ place_of o i j + 1
  -- an output holds nobody or somebody
  pub held_in : (j : ℕ) → j < ports o → (position_held s j ≡ ports o) ⊎ (position_held s j < length (inputs_of o j))
