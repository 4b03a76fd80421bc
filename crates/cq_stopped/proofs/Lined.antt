-- What stands in the state of a stopped run, list by list. First lists that are joined, sifted and mapped: what they
-- have, and what holds of each of their items and each that stands behind it. Then the departures and the transfers of
-- a run: what a slot adds to the departures, at each output the cell that it sent, if it sent one; that those of a slot
-- stand in order, by output; what is asked of transfers; and the figures that are read off the departures. Last the
-- arrivals at one input, which tell the marks.
use Rattle.cq_stopped.proofs.Terms.{list_any, filter_none, ◌≡◌, ℕ, zero, suc, ◌+◌, ◌<◌, List, [], ◌∷◌, ◌++◌, Option, Some, None, refl, arith, rules, length, map, ◌-◌, Bool, eq-eqb, ne_eqb, and_parts, cases_lt, eqb-true, common_steps, map-append, get_or_past, length-map, filter-append, sum_by-cons, AllByRecursion, range_with_len, cons_option, enumerate_from, ◌==◌, filter, slice_index_or, count_by, filter_map, is_some, option_map, Departure, Queued, Transfer, option_to_list, departures_of, departures_from, departures_in, SlotRecord, LimitedRecord, slots_in, output_figures, sent_by, wait_at, came_to, gone_in, EachPair, Differ, all_from_has, Has, has_image, has_kept, kept_has, AreApart, no_more, pairs_kept, input_told, output_told, seen_as, IsTransferBefore, Named, State, has_number, AreNumbered, IsMoved, range_rises, any_has, has_any, InputFigures, Seen, true, ⊎_elim, AllPairs, flat_map, append-nil, all_pairs, pairs_with, has_left, has_right, has_cases, sym, fill_by_all, pairs_joined, pairs_mapped, all_give, filter_all, fits_ok, after_input_ok, only_ok, Ok, ranking, Ranking, Machine, sum_by, eqb, false, length-append, and_right, cases_Bool, le-ltb, lt-leb, not, arrival_at, Arrival, arriving, arriving_at, Cell, is_from, admitted_at, marks_kept, Marked, admission, held_after, mark_after, mark_at, marks_after, arriving_from, cells_refused, packets_refused, with_refused, Fabric, fabric_held, admissions_in, found_at, ComeBehind, IsLine, coming, has_limit, mark_on, Runs, Switch, ArrivesIn, refused_here, where_up, Refused, is_between, one_comes, whole, cells_in, most_ports}
use Rattle.cq_stopped.proofs.Ran.{DepartsBefore, left_at, came_in, came_of, is_name_at}
use Rattle.cq_ideal.proofs.AtInput.{is_shown}

module _ {X : Type 0} where
  -- ## Lists end on end

  abbrev pub list_at : List (List X) → ℕ → List X
  list_at xss i = slice_index_or xss i []

  -- all items of all lists, one list after another
  abbrev pub all_of : List (List X) → List X
  all_of xss = flat_map (λ xs. xs) xss

  pub is_at : (xss : List (List X)) (x : X) → Has (all_of xss) x → (i : ℕ) × Has (list_at xss i) x
  is_at [] x has = absurd has
  is_at (xs ∷ xss) x has = ⊎_elim (λ here. (zero, here)) (λ later. let it = is_at xss x later in (suc it.0, it.1))
      (has_cases xs (all_of xss) x has)

  pub has_at_place : (xss : List (List X)) (i : ℕ) (x : X) → Has (list_at xss i) x → Has (all_of xss) x
  has_at_place [] i x has = absurd has
  has_at_place (xs ∷ xss) i x has = grind (arith, common_steps, has_left, has_right, has_at_place xss)

  -- what each pair of items tells
  pub pairs_in : (R S : X → X → Type 0) (xs : List X) → ((x y : X) → Has xs x → Has xs y → R x y → S x y) →
      EachPair R xs → EachPair S xs
  pairs_in R S xs tells pairs = pairs_with R S (Has xs) tells xs (all_from_has (Has xs) xs (λ x has. has)) pairs

  module _ (R : X → X → Type 0) where
    -- within each list, and from each list to each later one
    pub pairs_of_all : (xss : List (List X)) → ((i : ℕ) → EachPair R (list_at xss i)) →
        ((i k : ℕ) (x y : X) → i < k → Has (list_at xss i) x → Has (list_at xss k) y → R x y) → EachPair R (all_of xss)
    pairs_of_all [] within across = tt
    pairs_of_all (xs ∷ xss) within across = pairs_joined R xs (all_of xss) (within zero) (pairs_of_all xss
        (λ i. within (suc i)) (λ i k x y lt one two. across (suc i) (suc k) x y (omega arith) one two))
        (λ x y one two. let it = is_at xss y two in across zero (suc it.0) x y (omega arith) one it.1)

  pub pairs_both : (R S : X → X → Type 0) (xs : List X) → EachPair R xs → EachPair S xs →
      EachPair (λ x y. R x y × S x y) xs
  pairs_both R S [] first second = tt
  pairs_both R S (x ∷ xs) first second = grind (arith, common_steps, all_give, pairs_both R S xs first.1 second.1)

module _ {X Y : Type 0} (f : X → Y) where
  pub image_pairs : (R : Y → Y → Type 0) (xs : List X) → EachPair (λ x y. R (f x) (f y)) xs → AllPairs R (map f xs)
  image_pairs R xs pairs = search (rules, all_pairs, pairs_mapped)

  -- what is told of each and read again is what it was
  pub told_again : (g : Y → Option X) (xs : List X) → ((x : X) → Has xs x → g (f x) ≡ Some x) →
      filter_map g (map f xs) ≡ xs
  told_again g [] each = refl
  told_again g (x ∷ xs) each = grind (arith, common_steps, told_again g xs)

-- ## Sifting lists that stand end on end

module _ {X : Type 0} (number : X → ℕ) where
  abbrev is_numbered : ℕ → X → Bool
  is_numbered i x = number x == i

  -- the items of each list have its number, from a on
  abbrev HaveNumbers : ℕ → List (List X) → Type 0
  HaveNumbers a xss = (k : ℕ) (x : X) → Has (list_at xss k) x → number x ≡ a + k

  sifted : (a i : ℕ) (xss : List (List X)) → HaveNumbers a xss → (k : ℕ) → a + k ≡ i →
      filter (is_numbered i) (all_of xss) ≡ list_at xss k
  sifted a i [] own k is = refl
  sifted a i (xs ∷ xss) own zero is =
      let here = filter_all (is_numbered i) xs (all_from_has _ xs (search (arith, rules, own zero, eq-eqb))) in
      search (arith, rules, filter_none, all_from_has, is_at, ne_eqb, λ (k : ℕ). own (suc k), filter-append, append-nil)
  sifted a i (xs ∷ xss) own (suc k) is =
      let none = filter_none (is_numbered i) xs (all_from_has _ xs (search (arith, rules, own zero, ne_eqb))) in
      simp (filter-append, none) (sifted (a + 1) i xss (λ k x has. omega (arith, own (suc k) x has)) k (omega arith))

  pub sift : (xss : List (List X)) → ((k : ℕ) (x : X) → Has (list_at xss k) x → number x ≡ k) → (i : ℕ) →
      filter (is_numbered i) (all_of xss) ≡ list_at xss i
  sift xss own i = sifted 0 i xss (search (arith, rules, own)) i (omega arith)

-- lists by their places
pub by_places : {X : Type 0} (f : ℕ → X) (d : X) (xs : List X) →
    ((k : ℕ) → k < length xs → f k ≡ slice_index_or xs k d) → map f (range_with_len 0 (length xs)) ≡ xs
by_places f d xs each = sym (fill_by_all f xs (length xs) d refl (λ k lt. sym (each k lt)))

-- ## What a slot adds to the departures

abbrev departure : ℕ → ℕ → Queued → Departure
departure slot j q = record { slot = slot; output = j; queued = q }

-- what holds of each cell that was sent, at its output, holds of each departure
pub each_departs : (slot : ℕ) (P : Departure → Type 0) (gone : List (Option Queued)) (a : ℕ) →
    ((k j : ℕ) (q : Queued) → j ≡ a + k → slice_index_or gone k None ≡ Some q → P (departure slot j q)) →
    AllByRecursion P (departures_from slot a gone)
each_departs slot P [] a each = tt
each_departs slot P (o ∷ gone) a each =
    grind (arith, each zero a, each_departs slot P gone (a + 1) (λ k j q is at. each (suc k) j q (omega arith) at))

module _ (j : ℕ) where
  abbrev is_its : Departure → Bool
  is_its d = d.output == j

  none_its : (slot a : ℕ) (gone : List (Option Queued)) → j < a → filter is_its (departures_from slot a gone) ≡ []
  none_its slot a gone past = filter_none is_its _ (each_departs slot _ gone a (search (arith, rules, ne_eqb)))

  -- of a slot's departures the output's
  its_one : (slot a k : ℕ) (gone : List (Option Queued)) → a + k ≡ j → filter is_its (departures_from slot a gone)
      ≡ cons_option (option_map (departure slot j) (slice_index_or gone k None)) []
  its_one slot a k [] is = refl
  its_one slot a zero gone is = grind (arith, common_steps, eq-eqb, none_its)
  its_one slot a (suc k) (o ∷ gone) is = grind (arith, common_steps, ne_eqb, its_one slot (a + 1) k gone)

  -- what left an output with this slot
  pub left_more : (slot : ℕ) (sent : List Departure) (gone : List (Option Queued)) →
      left_at j (sent ++ departures_in slot gone) ≡ left_at j sent ++ option_to_list (slice_index_or gone j None)
  unfolding departures_in
  left_more slot sent gone = grind (arith, common_steps, filter-append, map-append, its_one slot 0 j)

-- and what is sent is among it
pub left_has : (sent : List Departure) (d : Departure) (j : ℕ) → d.output ≡ j → Has sent d →
    Has (left_at j sent) d.queued
left_has sent d j own has = search (rules, has_image (λ (e : Departure). e.queued), has_kept, eq-eqb)

-- ## Departures in order

pub slot_in_order : (slot a : ℕ) (gone : List (Option Queued)) → EachPair DepartsBefore (departures_from slot a gone)
slot_in_order slot a [] = tt
slot_in_order slot a (None ∷ gone) = slot_in_order slot (a + 1) gone
slot_in_order slot a (Some q ∷ gone) =
    search (arith, rules, slot_in_order slot (a + 1) gone, each_departs slot (DepartsBefore (departure slot a q)))

-- ## Transfers

-- those of the slots before one stand in order and are in range
pub record AreMoved (ports end : ℕ) (note : List Transfer) : Type 0 where
  pub pairs : EachPair IsTransferBefore note
  pub all : AllByRecursion (IsMoved ports) note
  pub times : AllByRecursion (λ t. t.slot < end) note

-- ## The figures. What an output sent and how long it kept a cell are read off its departures, one for each slot in
-- which it sent. And as many names are of an input as cells came to it: names of one input have different slots, and
-- they are just those in which a cell came.

module _ (j : ℕ) where
  -- the departure of a record
  abbrev its_departure : SlotRecord → Option Departure
  its_departure r = option_map (departure r.slot j) (sent_by r j)

  its_all : (slot : ℕ) (rs : List SlotRecord) → AreNumbered slot rs →
      filter (is_its j) (departures_of slot (gone_in rs)) ≡ filter_map its_departure rs
  unfolding departures_of departures_in
  its_all slot [] are = refl
  its_all slot (r ∷ rs) are = grind (arith, common_steps, its_one j slot 0 j, filter-append, its_all (slot + 1) rs)

  -- how long it kept them, and how many they are
  sent_waits : (rs : List SlotRecord) →
      (map (λ (d : Departure). d.slot - d.queued.key.slot) (filter_map its_departure rs) ≡ filter_map (wait_at j) rs) ×
      (length (filter_map its_departure rs) ≡ count_by (λ (r : SlotRecord). is_some (sent_by r j)) rs)
  sent_waits [] = (refl, refl)
  sent_waits (r ∷ rs) = grind (arith, common_steps, sum_by-cons, sent_waits rs)

  -- what is told of an output
  pub output_same : (rs : List SlotRecord) (sent : List Departure) → AreNumbered 0 rs →
      sent ≡ departures_of 0 (gone_in rs) → output_told sent j ≡ output_figures rs j
  unfolding output_figures
  output_same rs sent are is = grind (arith, common_steps, its_all, sent_waits)

-- ## Names of an input

came_count : (cs : List (List (Option Queued))) (i a : ℕ) (rs : List LimitedRecord) →
    ((t k : ℕ) → t ≡ a + k → came_in cs t i ≡ came_in (came_of rs) k i) →
    length (filter (λ (t : ℕ). is_some (came_in cs t i)) (range_with_len a (length rs)))
    ≡ count_by (λ (r : SlotRecord). is_some (came_to r.came i)) (slots_in rs)
came_count cs i a [] known = refl
came_count cs i a (r ∷ rs) known =
    let here = known a zero (omega arith) in
    grind (arith, common_steps, sum_by-cons, came_count cs i (a + 1) rs (λ t k e. known t (suc k) (omega arith)))

module _ (names : List Named) (rs : List LimitedRecord) (differ : EachPair Differ names)
    (named_at : (t k : ℕ) → list_any (is_name_at t k) names ≡ is_some (came_in (came_of rs) t k)) (i : ℕ) where
  abbrev own : Named → Bool
  own c = c.input == i

  abbrev comes : ℕ → Bool
  comes t = is_some (came_in (came_of rs) t i)

  abbrev slots : List ℕ
  slots = filter comes (range_with_len 0 (length rs))

  abbrev IsSlotOf : ℕ → Named → Type 0
  IsSlotOf t c = c.slot ≡ t

  pub names_counted : length (filter own names)
      ≡ count_by (λ (r : SlotRecord). is_some (came_to r.came i)) (slots_in rs)
  names_counted =
      let mine = filter own names in
      -- none comes past the last record
      let low : (t : ℕ) → comes t ≡ true → t < length rs = search (arith, rules, length-map, get_or_past, cases_lt) in
      let few = no_more (λ (c : Named) (t : ℕ). c.slot ≡ t) mine slots
      (search (arith, rules, pairs_in, Differ, AreApart, kept_has, eqb-true, pairs_kept))
      (search (arith, rules, all_from_has, kept_has, any_has, eq-eqb, eqb-true, low, has_kept, has_number)) in
      let most = no_more IsSlotOf slots mine (search (arith, rules, pairs_in, AreApart, pairs_kept, range_rises))
      (search (arith, rules, all_from_has, has_any, named_at, kept_has comes, and_parts, has_kept, eqb-true)) in
      omega (arith, came_count (came_of rs) i 0 rs (λ t k e. let same : t ≡ k = omega arith in rw same refl))

-- ## All inputs

pub inputs_same : (st : State) (f : ℕ → InputFigures) (a n : ℕ) → ((i : ℕ) → input_told st i (seen_as (f i)) ≡ f i) →
    map (λ (x : ℕ × Seen). input_told st x.0 x.1) (enumerate_from a (map seen_as (map f (range_with_len a n))))
    ≡ map f (range_with_len a n)
inputs_same st f a zero each = refl
inputs_same st f a (suc n) each = grind (arith, common_steps, inputs_same st f (a + 1) n each)

-- The fourth clause and the marks: the arrivals at one input, slot by slot. The mark of the input after a slot says
-- whether its arrival was admitted, and so whether it is named. Only the first cell of a packet moves the mark, up only
-- where its output has a limit, and the other cells of the packet are for the same output. So a walk over the arrivals
-- that compares each with the mark before it ends, with the mark of the run: each packet is named whole or not at all,
-- and the mark is that of the packet that began last. And what was refused slot by slot is what is not named.

-- ## A cell came just where one arrives

came_where : (ms : List Machine) (slot i : ℕ) (cells : List (Option Cell)) (ranks : List (List ℕ)) (r : Ranking) →
    ranking ms slot i cells ranks ≡ Ok r → (k : ℕ) → is_some (came_to r.came k) ≡ is_some (arrival_at cells k)
came_where ms slot i [] ranks r h k = grind (arith, common_steps, only_ok)
came_where ms slot i (cell ∷ cells) ranks r h k =
    search (arith, rules, after_input_ok, fits_ok, came_where ms slot (i + 1) cells)

-- ## The mark of an input over one slot

-- it moves as the rule says, whatever the outputs hold at the input's turn
mark_moves : (limits : List (Option ℕ)) (held : List ℕ) (marks : List Bool) (cells : List (Option Cell)) (i : ℕ) →
    i < length marks →
    (h : List ℕ) × (mark_at (marks_after limits held marks cells) i ≡ mark_after limits h (mark_at marks i) (arrival_at
    cells i))
mark_moves limits held [] cells i inside = absurd (omega arith)
mark_moves limits held (mark ∷ marks) (cell ∷ cells) (suc i) inside =
    mark_moves limits (held_after (mark_after limits held mark cell) held cell) marks cells i (omega arith)
mark_moves limits held marks cells i inside = (held, refl)

-- ## The arrivals at an input from a slot on

module _ (i slot end : ℕ) where
  -- where none arrives in the slot nothing is lost
  none_comes_now : (came : List Arrival) → arriving_at came slot i ≡ None →
      coming i slot end came ≡ coming i (slot + 1) end came
  none_comes_now [] none = refl
  none_comes_now (a ∷ came) none = grind (arith, common_steps, none_comes_now came)

  -- where one arrives it arrives at the input
  some_at : (came : List Arrival) (cell : Cell) → arriving_at came slot i ≡ Some cell →
      ArrivesIn slot (filter (is_from i) came)
  some_at [] cell is = absurd (let P : ⊥ = cc in P)
  some_at (a ∷ came) cell is = grind (arith, common_steps, and_parts, eqb-true, some_at came cell)

  one_comes_now : (came : List Arrival) (cell : Cell) → slot < end → IsLine (filter (is_from i) came) →
      arriving_at came slot i ≡ Some cell →
      coming i slot end came ≡ record { slot = slot; cell = cell } ∷ coming i (slot + 1) end came
  one_comes_now came cell lt whole found = search (rules, one_comes, some_at, all_from_has)

-- ## What follows a mark

module _ (limits : List (Option ℕ)) where
  -- cells of packets one after another, after a mark: the first goes on with a packet that was refused only where its
  -- output has a limit
  abbrev pub Follow : Bool → List Arrival → Type 0
  Follow mark [] = Unit {0}
  Follow mark (a ∷ line) =
      ComeBehind a line × (eqb a.cell.id.index 0 ≡ false → mark ≡ true → has_limit limits a.cell.output ≡ true)

-- ## Slot by slot

-- a walk over the arrivals of an input from a slot on ends with this mark, and this was lost
pub record Walks (w : Switch) (i : ℕ) (named : Arrival → Bool) (end slot : ℕ) (mark last : Bool) (lost : List Cell) :
    Type 0 where
  pub ends : mark_on named (has_limit w.limits) mark (coming i slot end w.came) ≡ Some last
  pub lost_are : lost ≡ cells_in (filter (λ a. not (named a)) (coming i slot end w.came))

module _ (w : Switch) (i : ℕ) (few : i < most_ports) (whole : IsLine (filter (is_from i) w.came))
    (named : Arrival → Bool)
    (cs : List (List (Option Queued))) (end : ℕ)
    (named_is : (a : Arrival) → named a ≡ is_some (came_in cs a.slot a.cell.id.input)) where
  module _ (slot : ℕ) (f g : Marked Fabric) (r : LimitedRecord) (many : i < length f.marks)
      (admits : r.admission ≡ admission w.limits (fabric_held f.state) f.marks (arriving w.came slot))
      (marks : g.marks ≡ r.admission.marks) where
    mark_is : (h : List ℕ) ×
        (mark_at r.admission.marks i ≡ mark_after w.limits h (mark_at f.marks i) (arriving_at w.came slot i))
    unfolding admission
    mark_is = search (rules, mark_moves w.limits (fabric_held f.state) f.marks (arriving w.came slot) i many, is_shown)

    -- one slot more, whose arrival is this or none
    slot_more : (o : Option Cell) → arriving_at w.came slot i ≡ o → slot < end → (lost : List Cell) (last : Bool) →
        Follow w.limits (mark_at f.marks i) (coming i slot end w.came) →
        is_some (came_in cs slot i) ≡ is_some (arrival_at r.admission.cells i) →
        (Follow w.limits (mark_at g.marks i) (coming i (slot + 1) end w.came) →
        Walks w i named end (slot + 1) (mark_at g.marks i) last lost) →
        Walks w i named end slot (mark_at f.marks i) last
        (cons_option (where_up (mark_at r.admission.marks i) (arrival_at (arriving w.came slot) i)) lost)
    unfolding admission
    slot_more None none lt lost last follow here rest = search (arith, rules, is_shown, none_comes_now, mark_is)
    slot_more (Some cell) some lt lost last follow here rest =
        let same = one_comes_now i slot end w.came cell lt whole some in
        let at = found_at w.came slot i cell some in
        let moved = mark_is.1 in search (arith, rules, admitted_at, is_shown, cases_Bool, eq-eqb)

  pub walked : (slot n : ℕ) (f g : Marked Fabric) (rs : List LimitedRecord) →
      Runs w slot (arriving_from w.came slot n) f rs g → slot + n ≡ end → i < length f.marks →
      ((t k : ℕ) → t ≡ slot + k → came_in cs t i ≡ came_in (came_of rs) k i) →
      Follow w.limits (mark_at f.marks i) (coming i slot end w.came) →
      Walks w i named end slot (mark_at f.marks i) (mark_at g.marks i)
      (refused_here w.limits i (arriving_from w.came slot n) (admissions_in rs))
  unfolding arriving_from admission
  walked slot zero f g [] run all many known follow =
      search (rules, filter_none, is_between, all_from_has, lt-leb, and_right, le-ltb, cases_lt)
  walked slot (suc n) f g (r ∷ rs) run all many known follow =
      let step = run.1 in
      let here = came_where w.machines slot 0 r.admission.cells f.state.ranks _ step.runs.arrive.ranked i in
      slot_more slot f run.0 r many step.admits step.marks (arriving_at w.came slot i) refl (omega arith) _ _ follow
      (rw (known slot zero (omega arith)) here) (walked (slot + 1) n run.0 g rs run.2 (omega arith)
      (grind (arith, common_steps, marks_kept)) (λ t k e. known t (suc k) (omega arith)))
  walked slot _ f g _ run all many known follow = absurd run

-- ## Cells, counted by input

-- of lists of arrivals, one list after another, list by list
pub counted_flat : (p : Cell → Bool) (f : ℕ → List Arrival) (is : List ℕ) →
    length (filter p (cells_in (flat_map f is))) ≡ sum_by (λ i. length (filter p (cells_in (f i)))) is
counted_flat p f [] = refl
counted_flat p f (i ∷ is) = search (rules, map-append, filter-append, length-append, sum_by-cons, counted_flat p f is)

-- counts of cells of which each test passes as many are the same
pub same_counts : (xs ys : List Cell) → ((p : Cell → Bool) → length (filter p xs) ≡ length (filter p ys)) →
    (counts : List Refused) → with_refused xs counts ≡ with_refused ys counts
unfolding cells_refused packets_refused
same_counts xs ys same counts = grind (arith, common_steps, same)
