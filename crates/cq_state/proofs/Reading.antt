-- Reading a state's text line by line. What is gathered is what the lines that were read tell, and one line more adds
-- what it tells: its numbers are within what the state keeps of them, since they are within the ranges of its kind.
use Rattle.cq_state.proofs.Terms.{rules, ◌≡◌, ◌≢◌, ℕ, ◌+◌, ◌^◌, ◌<◌, ◌≤◌, List, [], ◌∷◌, ◌++◌, length, refl, arith, length-append, common_steps, one_line_more, Kind, State, AreLow, added, gathered, nothing, place_of, Line, Place, ComesAt, Comes, MayEnd, spelled, IsStateFault, Option, Within, ranges, further, SoFar, start}
use Rattle.cq_lines.proofs.Going.{ends_well}
use Rattle.cq_state.specs.declared.next.Place as kept

-- the lines that were read stand at the front, lead to the place where the next one comes, and told this
pub record ReadSoFar (text : List ℕ) (told : State) (line : ℕ) (place : kept.Place) (rest : List ℕ) : Type 0 where
  pub lines : List Line
  pub so_far : SoFar spelled Comes start text lines (place_of place) rest
  pub gives : told ≡ gathered nothing lines
  pub number : line ≡ length lines + 1
  pub low : line + length rest ≤ length text + 1
  pub seen : place.seen + length rest ≤ length text
  pub few : place.ports < 2 ^ 16

-- ## The numbers of a line

are_low : (k : Kind) (fs : List (Option ℕ)) (ports index : ℕ) → ports < 2 ^ 16 →
    Within (ranges ports index k) (further k) fs → AreLow k fs
are_low k fs ports index few w = grind (arith, common_steps, w.each)

-- the numbers of a line that comes are no greater than what is kept of them
pub low_line : (due : List Kind) (seen ports : ℕ) (x : Line) (next : Place) → ports < 2 ^ 16 →
    ComesAt due seen ports x next → AreLow x.kind x.fields
low_line [] seen ports x next few c = absurd c
low_line (k ∷ due) seen ports x next few c = grind (arith, common_steps, are_low, low_line due 0 ports x next few)

gathered_more : (s : State) (xs : List Line) (x : Line) → gathered s (xs ++ x ∷ []) ≡ added x.kind x.fields (gathered s
    xs)
gathered_more s [] x = refl
gathered_more s (y ∷ xs) x = gathered_more (added y.kind y.fields s) xs x

pub line_told : (text : List ℕ) (told after : State) (line : ℕ) (place next : kept.Place) (rest behind : List ℕ) (x :
    Line) → ReadSoFar text told line place rest → Comes (place_of place) x (place_of next) →
    rest ≡ spelled x ++ behind → after ≡ added x.kind x.fields told → length behind < length rest →
    next.seen + length behind ≤ place.seen + length rest → next.ports < 2 ^ 16 →
    ReadSoFar text after (line + 1) next behind
line_told text told after line place next rest behind x had comes e adds shorter seen few =
    let so_far : SoFar spelled Comes start text (had.lines ++ x ∷ []) (place_of next) behind =
    search (arith, rules, one_line_more, had.lines) in
    search (arith, rules, so_far, length-append, gathered_more)

pub fault_told : (text : List ℕ) (told : State) (line : ℕ) (place : kept.Place) (rest : List ℕ) →
    ReadSoFar text told line place rest → ((x : Line) (next : Place) (more : List ℕ) →
    Comes (place_of place) x next → rest ≢ spelled x ++ more) → (rest ≡ [] → MayEnd (place_of place) → ⊥) →
    IsStateFault text line
fault_told text told line place rest had no_line no_end = grind (arith, common_steps)

pub ruleset reading_steps = (fault_told, line_told, low_line, ends_well)
