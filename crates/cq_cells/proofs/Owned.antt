-- Each line's cells arrive at its own input, so what is asked of an input is found in its line.
-- The places of a slot's arrivals are filled input by input. Those before the next input have what arrives there, and
-- the others have what stood there before. No cell stood behind the last line, and none arrives there. So in the end
-- each place has what arrives.
use Rattle.cq_cells.proofs.Terms.{rules, ◌≡◌, ◌≢◌, ℕ, IfSome, and_right, cond_both, eqb-true, zero, suc, ◌+◌, ◌<◌, ◌≤◌, max, Bool, ◌&&◌, List, [], ◌∷◌, ◌++◌, length, filter, take, slice_index_or, None, option_map, refl, arith, common_steps, AllByRecursion, find, ne_eqb, append-nil, take_more, flat_map-append, filter-append, Arrival, arriving_at, end_of, AreOwn, all_of, is_from, filter_all, filter_none, all_weaker, eq-eqb, get_or, Option, cases_lt, fill_by_all, unwrap_or-slice_get, no_arrivals, arriving, Cell, arrival_at-no_arrivals, StandBelow, fold, map}
use Rattle.cq_cells.proofs.Looked.{is_in}

abbrev pub AllFrom : ℕ → List Arrival → Type 0
AllFrom input line = AllByRecursion (λ (a : Arrival). a.cell.id.input ≡ input) line

-- ## The cells of an input

-- a line has no cell of another input
other_line : (input i : ℕ) (line : List Arrival) → AllFrom i line → i ≢ input → filter (is_from input) line ≡ []
other_line input i line own other = search (rules, filter_none, all_weaker, ne_eqb)

-- lines of other inputs have none
none_from : (input i : ℕ) (lines : List (List Arrival)) → AreOwn i lines →
    ((k : ℕ) → k < length lines → i + k ≢ input) → filter (is_from input) (all_of lines) ≡ []
none_from input i [] own others = refl
none_from input i (line ∷ lines) own others =
    let here = other_line input i line own.0 (λ same. others 0 (omega arith) (omega arith)) in
    let rest = none_from input (i + 1) lines own.1 (λ k h same. others (suc k) (omega arith) (omega arith)) in
    rw (filter-append, here) rest

pub counted : (input i k : ℕ) (lines : List (List Arrival)) → AreOwn i lines → i + k ≡ input → k < length lines →
    filter (is_from input) (all_of lines) ≡ slice_index_or lines k []
counted input i k [] own at h = absurd (omega arith)
counted input i zero (line ∷ lines) own at h =
    search (arith, rules, filter-append, none_from i (i + 1) lines, append-nil, filter_all, all_weaker, eq-eqb)
counted input i (suc k) (line ∷ lines) own at h =
    grind (arith, common_steps, filter-append, other_line input i line own.0, counted input (i + 1) k lines own.1)

-- ## The cell of a slot

-- what both tests find is what the one finds among what the other lets pass
find_filter : (p q : Arrival → Bool) (came : List Arrival) → find (λ a. p a && q a) came ≡ find p (filter q came)
find_filter p q [] = refl
find_filter p q (a ∷ came) = grind (arith, common_steps, find_filter p q came)

-- the cell that arrives at an input is one of those of the input
pub arriving_of_input : (came : List Arrival) (slot input : ℕ) →
    arriving_at came slot input ≡ option_map (λ a. a.cell) (find (is_in slot) (filter (is_from input) came))
arriving_of_input came slot input = simp (option_map, find_filter, is_in)

-- it is found in its line
pub arriving_at_line : (slot k : ℕ) (lines : List (List Arrival)) → AreOwn 0 lines → k < length lines →
    arriving_at (all_of lines) slot k ≡ option_map (λ a. a.cell) (find (is_in slot) (slice_index_or lines k []))
arriving_at_line slot k lines own h = grind (arith, common_steps, arriving_of_input, option_map, is_in, counted)

-- past the lines none arrives
pub none_arrives_past : (slot k : ℕ) (lines : List (List Arrival)) → AreOwn 0 lines → length lines ≤ k →
    arriving_at (all_of lines) slot k ≡ None
none_arrives_past slot k lines own h = grind (arith, common_steps, arriving_of_input, option_map, is_in, none_from)

-- ## One line more

pub all_of_more : (lines : List (List Arrival)) (i : ℕ) (line : List Arrival) → i < length lines →
    line ≡ slice_index_or lines i line → all_of (take (i + 1) lines) ≡ all_of (take i lines) ++ line
all_of_more lines i line h is = grind (arith, common_steps, take_more, flat_map-append, slice_index_or, append-nil)

-- the end of two lists
pub end_of-append : (xs ys : List Arrival) → end_of (xs ++ ys) ≡ max (end_of xs) (end_of ys)
end_of-append [] ys = omega arith
end_of-append (x ∷ xs) ys = omega (arith, end_of-append xs ys)

ends_later : (e : ℕ) (lines : List (List Arrival)) → fold max e (map end_of lines) ≡ max e (end_of (all_of lines))
ends_later e [] = omega arith
ends_later e (line ∷ lines) = grind (arith, common_steps, end_of-append, ends_later (max e (end_of line)) lines)

-- the end of all lines
pub end_of_all : (lines : List (List Arrival)) → fold max 0 (map end_of lines) ≡ end_of (all_of lines)
end_of_all lines = omega (arith, ends_later 0 lines)

-- what arrives at an input is its own
pub arrives_own : (came : List Arrival) (slot input : ℕ) →
    IfSome (arriving_at came slot input) (λ cell. cell.id.input ≡ input)
arrives_own [] slot input = tt
arrives_own (a ∷ came) slot input = search (rules, cond_both, and_right, eqb-true, arrives_own came slot input)

-- ## The places of a slot's arrivals

-- no cell stands anywhere
pub none_stand : (ports : ℕ) (cells : List (Option Cell)) → cells ≡ no_arrivals → StandBelow ports cells
none_stand ports cells e = rw e (search (rules, arrival_at-no_arrivals))

-- the places of the inputs before n are filled
pub record Filling (came : List Arrival) (slot n : ℕ) (old now : List (Option Cell)) : Type 0 where
  pub places : length now ≡ length old
  pub done : (i : ℕ) → i < n → get_or now i None ≡ arriving_at came slot i
  pub left : (i : ℕ) → n ≤ i → get_or now i None ≡ get_or old i None

-- ## All inputs

module _ (lines : List (List Arrival)) (slot n : ℕ) (old now : List (Option Cell)) (own : AreOwn 0 lines)
    (past : length lines ≤ n) (stand : StandBelow (length lines) old) (f : Filling (all_of lines) slot n old now) where
  each_place : (i : ℕ) → get_or now i None ≡ arriving_at (all_of lines) slot i
  each_place i = grind (arith, common_steps, unwrap_or-slice_get old, none_arrives_past slot, cases_lt)

  pub all_filled : now ≡ arriving (all_of lines) slot
  unfolding arriving
  all_filled = search (arith, rules, fill_by_all (arriving_at (all_of lines) slot) now 64 None, each_place)

  pub still_stand : StandBelow (length lines) now
  still_stand = grind (arith, common_steps, unwrap_or-slice_get, each_place, none_arrives_past)
