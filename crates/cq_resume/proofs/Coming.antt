-- The cells that arrive at one input, from a slot on. They rise by slot, so the next slot with an arrival is that of
-- the first of them, and behind it are those from the slot after that on.
-- So a walk goes over the cells of one input, cell by cell: the mark so far with the cells that are left gives the mark
-- in the end, and so do the counts. Each step takes the first of the cells that are left.
use Rattle.cq_resume.proofs.Terms.{common_steps, rules, ◌≡◌, ℕ, ◌+◌, ◌<◌, ◌≤◌, leb, ltb, Bool, List, [], ◌∷◌, None, Some, refl, inl, inr, arith, ◌&&◌, filter, AllByRecursion, and_parts, eqb-true, and_from, and_left, eq-eqb, le-leb, lt-leb, lt-ltb, Arrival, arriving_at, Cell, is_from, ComeBehind, IsLine, coming, ArrivesIn, IsNextArrival, all_of_has, has_kept, Has, EachPair, filter_none, all_weaker, suc, eqb, true, false, cond, length, map, Option, ap, ◌==◌, not, list_any, Refused, CanCount, with_refused, all_counted_both, counts_fit, fewer_left, none_counted, has_limit, has_name, mark_on, may_come, unnamed, Name, kept_has}
use Rattle.std.proofs.lemmas.Map.Views.{any-filter_same}

-- ## What arrives in a slot at an input

-- the arrival that gives a cell its place
pub record FoundAt (came : List Arrival) (t i : ℕ) (cell : Cell) : Type 0 where
  pub arrival : Arrival
  pub has : Has came arrival
  pub slot : arrival.slot ≡ t
  pub input : arrival.cell.id.input ≡ i
  pub own : arrival.cell ≡ cell

pub found_at : (came : List Arrival) (t i : ℕ) (cell : Cell) → arriving_at came t i ≡ Some cell → FoundAt came t i cell
found_at [] t i cell is = absurd (let P : ⊥ = cc in P)
found_at (a ∷ came) t i cell is = grind (arith, common_steps, and_parts, eqb-true, found_at came t i cell)

-- one that arrives there is found
pub found_there : (slot input : ℕ) (came : List Arrival) → ArrivesIn slot (filter (is_from input) came) →
    arriving_at came slot input ≡ None → ⊥
found_there slot input [] arrives none = arrives
found_there slot input (a ∷ came) arrives none = grind (arith, common_steps, eq-eqb, found_there slot input came)

-- ## Rising slots

abbrev pub IsEarlier : Arrival → Arrival → Type 0
IsEarlier a b = a.slot < b.slot

behind_rising : (a : Arrival) (line : List Arrival) → ComeBehind a line → EachPair IsEarlier (a ∷ line)
behind_rising a [] behind = (tt, tt)
behind_rising a (b ∷ line) behind = search (arith, rules, all_weaker (IsEarlier b), behind_rising b line behind.1)

line_rising : (line : List Arrival) → IsLine line → EachPair IsEarlier line
line_rising [] is = tt
line_rising (a ∷ line) is = behind_rising a line is.1

-- ## From a slot on

abbrev pub is_between : ℕ → ℕ → Arrival → Bool
is_between from next a = leb from a.slot && ltb a.slot next

-- those behind a slot are those from the next one on
behind_same : (from next slot : ℕ) (line : List Arrival) → from ≤ slot → AllByRecursion (λ b. slot < b.slot) line →
    filter (is_between from next) line ≡ filter (is_between (slot + 1) next) line
behind_same from next slot [] le all = refl
behind_same from next slot (b ∷ line) le all = search (rules, le-leb, behind_same from next slot line le all.1)

-- the first of them, and what is left behind it
next_in : (from next slot : ℕ) (x : Arrival) (line : List Arrival) → EachPair IsEarlier line → Has line x →
    x.slot ≡ slot → from ≤ slot → slot < next → AllByRecursion (λ a. from ≤ a.slot → slot ≤ a.slot) line →
    filter (is_between from next) line ≡ x ∷ filter (is_between (slot + 1) next) line
next_in from next slot x [] rising has at le lt all = absurd has
next_in from next slot x (a ∷ line) rising (inl same) at le lt all =
    let here : a.slot ≡ slot = cc in
    let rest = behind_same from next slot line le (rw here at rising.0) in
    grind (arith, common_steps, and_from, le-leb, lt-ltb, and_left, lt-leb)
next_in from next slot x (a ∷ line) rising (inr has) at le lt all =
    grind (arith, common_steps, all_of_has (IsEarlier a), and_left, lt-leb, next_in from next slot x line)

-- ## At an input

module _ (input from next : ℕ) (came : List Arrival) where
  pub none_comes : IsNextArrival (filter (is_from input) came) from None → coming input from next came ≡ []
  none_comes none = search (arith, rules, filter_none, all_weaker, and_left, lt-leb)

  module _ (slot : ℕ) (is : IsNextArrival (filter (is_from input) came) from (Some slot)) (lt : slot < next)
      (whole : IsLine (filter (is_from input) came)) where
    pub one_comes : (cell : Cell) → arriving_at came slot input ≡ Some cell →
        coming input from next came ≡ record { slot = slot; cell = cell } ∷ coming input (slot + 1) next came
    one_comes cell found =
        let it = found_at came slot input cell found in
        search (arith, rules, has_kept, next_in from next slot it.arrival (filter (is_from input) came), line_rising)

pub ruleset coming_steps = (none_comes, one_comes, found_there)

-- ## The walk

abbrev pub cells_in : List Arrival → List Cell
cells_in line = map (λ a. a.cell) line

-- what is known before the cells that are left
pub record Walked (names : List Name) (limits : List (Option ℕ)) (all left : List Arrival) (mark : Bool)
    (first now : List Refused) : Type 0 where
  pub marks : mark_on (has_name names) (has_limit limits) mark left
      ≡ mark_on (has_name names) (has_limit limits) false all
  pub counted : with_refused (cells_in (unnamed names left)) now ≡ with_refused (cells_in (unnamed names all)) first
  pub few : CanCount (length left) now

-- a cell that comes is one of those that arrive at the input
pub comes_from : (input from next : ℕ) (came : List Arrival) (a : Arrival) (rest : List Arrival) →
    coming input from next came ≡ a ∷ rest → Has came a × (a.cell.id.input ≡ input)
comes_from input from next came a rest splits =
    let among : Has (coming input from next came) a = rw splits (inl refl) in search (rules, kept_has, eqb-true)

module _ (input from next : ℕ) (came : List Arrival) {names : List Name} {limits : List (Option ℕ)}
    {all rest : List Arrival} {mark : Bool} {first now : List Refused}
    (known : Walked names limits all (coming input from next came) mark first now) {slot : ℕ} {cell : Cell}
    (splits : coming input from next came ≡ record { slot = slot; cell = cell } ∷ rest) {is_told limited may : Bool}
    {own : List Name} (at_input : own ≡ filter (λ n. eqb n.queued.key.input input) names)
    (name : is_told ≡ list_any (λ n. eqb n.queued.key.slot slot && eqb n.queued.key.input input) own)
    (limit : limited ≡ has_limit limits cell.output)
    (test : may ≡ may_come (cell.id.index == 0) is_told limited mark) where
  abbrev its : Arrival
  its = record { slot = slot; cell = cell }

  its_name : is_told ≡ has_name names its
  its_name =
      let alike = any-filter_same (λ n. eqb n.queued.key.slot slot && eqb n.queued.key.input input)
      (λ n. eqb n.queued.key.input input) true (search (arith, rules, and_parts)) names in
      grind (arith, common_steps, comes_from input from next came its rest splits)

  step : mark_on (has_name names) (has_limit limits) mark (coming input from next came)
      ≡ cond may (mark_on (has_name names) (has_limit limits) (not is_told) rest) None
  step = let name = its_name in rw (splits, test, limit, name) refl

  -- it may not come
  pub walk_stops : may ≡ false → None ≡ mark_on (has_name names) (has_limit limits) false all
  walk_stops is =
      let on = step in
      let marks = known.marks in grind (arith, common_steps)

  size : length (coming input from next came) ≡ suc (length rest)
  size = ap (λ (l : List Arrival). length l) splits

  fits : (left : Bool) → CanCount (length rest) (with_refused (cond left (cell ∷ []) []) now)
  fits false = grind (arith, common_steps, none_counted, fewer_left, known.few, size)
  fits true = counts_fit (cell ∷ []) (length rest) 1 now (grind (arith, common_steps, known.few, size)) (omega arith)

  -- it may, and is counted where it is not named
  pub walk_goes_on : (left : Bool) (after : List Refused) → may ≡ true → left ≡ not is_told →
      after ≡ with_refused (cond left (cell ∷ []) []) now → Walked names limits all rest left first after
  walk_goes_on left after is not_told counted =
      let both = all_counted_both (cond left (cell ∷ []) []) in grind (arith, common_steps, its_name, step, fits, both)
