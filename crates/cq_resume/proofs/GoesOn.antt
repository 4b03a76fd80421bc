-- What a run goes on from. The cells that a sound state names are different arrivals before its next slot. So the
-- fabric that it tells of stands in order, no key is in it twice, and in each list, for each output and in each count
-- there are no more cells than came, and none has more than there were slots. The lists, input by input, are all cells
-- that wait at inputs, since these stand by input.
-- What was read is told again: what a sound state comes to tells that state, so its text is the text that was read.
-- The cells of the lists stand in order of their inputs and those of the buffers in order of their outputs, and all of
-- these are ports, so taken port by port they are the same. Each name arrives, so its cell is told by it, and a
-- departure by the slot and the name of its cell.
use Rattle.cq_resume.proofs.Terms.{common_steps, rules, ◌≡◌, ◌≢◌, ℕ, ◌+◌, ◌<◌, ◌≤◌, ◌^◌, Bool, true, List, [], ◌∷◌, length, get_or, map, Option, Some, refl, ap, ◌∙◌, arith, length-append, ◌==◌, IsSome, filter, flat_map, flat_same, IsNamed, nat_lt, slice_get, AllByRecursion, enumerate_from, filter_map, range_with_len, option_map, cases_lt, eq-eqb, eqb-true, lt-ltb, length-map, filter-append, get_or-map-range_with_len, length-enumerate_from, length-map-range_with_len, Arrival, IsBefore, is_for, Cell, Departure, Queued, OutputFigures, IsTraffic, is_from, is_to, number_of, cells_refused, packets_refused, refused_at, refused_counts, Refused, Fabric, buffer, input, AreCountsOf, AreOwn, HasPorts, IsSoundFabric, fabric_in, departure_of, figures_told, frozen_told, sent_told, IsSound, HasShape, Switch, arriving_cell, buffer_told, fabric_told, is_ahead, key_of, list_told, named_in, output_in, output_of, queued_in, queued_of, IsInRange, Named, Sent, State, few_kept, InputFigures, Key, held_for, waiting_for, Apart, Early, all_before, differ_from, IsFabric, ListsKeepOrder, Frozen, AreSized, all_of_has, all_from_has, all_has, has_left, has_right, has_kept, kept_has, Has, AreApart, no_more, each_pair, pairs_left, pairs_cross, pairs_kept_with, looked_up, pairs_looked_up, kept_few, looked_few, image_at, numbers_few, EachPair, input_told, named_as, Seen, has_image}
use Rattle.std.proofs.lemmas.List.{Elements.filter_map-append, Folds.flat_map-map}
use Rattle.cq_resume.proofs.Cut.{ordered, rising_kept}
pub use Rattle.cq_resume.proofs.Coming.{FoundAt, found_at}
pub use Rattle.cq_resume.proofs.Zipped.{Differ, is_cell_of, sifted}
use Rattle.cq_resume.specs.Sound.{IsBufferedBefore, IsSentBefore}
use Rattle.cq_resume.specs.Finding.{IsBufferedBefore as IsFoundBefore}
use Rattle.cq_resume.specs.Reading.{seen_as, sent_as}
unfoldable use Rattle.cq_resume.specs.Reading.{state_of}

-- the arrivals before this slot
abbrev pub came_before : ℕ → List Arrival → List Arrival
came_before next came = filter (λ a. nat_lt a.slot next) came

-- what a run of this switch goes on from
pub record GoesOn (w : Switch) (x : Frozen) : Type 0 where
  pub early : x.next < 2 ^ 63
  pub proposals : x.figures.proposals < 2 ^ 63
  pub ports : HasPorts (length w.machines) x
  pub sound : IsSoundFabric x.next (fabric_in x)
  pub own : AreOwn (length w.machines) w.classes (fabric_in x)
  pub sized : AreSized w.machines x.ranks
  pub refused : AreCountsOf w.limits x.refused
  pub lost : AllByRecursion (λ r. (r.packets ≤ length w.came) × (r.cells ≤ length w.came)) x.refused
  pub inputs : (i : ℕ) (y : InputFigures) → slice_get x.figures.inputs i ≡ Some y → y.cells ≤ x.next
  pub outputs : (j : ℕ) (y : OutputFigures) → slice_get x.figures.outputs j ≡ Some y → y.cells ≤ x.next
  pub lists : (i : ℕ) → length (input (fabric_in x) i) ≤ number_of (is_from i) (came_before x.next w.came)
  pub buffers : (j : ℕ) → held_for j (fabric_in x) ≤ number_of (is_to j) (came_before x.next w.came)

-- ## What is told for each number

module _ (told : ℕ → List Queued) (many : ℕ) where
  of_told : (P : List Queued → Type 0) → P [] → (i : ℕ) → P (told i) →
      P (get_or (map told (range_with_len 0 many)) i [])
  of_told P none i here = grind (arith, common_steps, get_or-map-range_with_len, length-map-range_with_len, cases_lt)

-- ## A name and its arrival

pub some_cell : (o : Option Cell) → IsSome o → (cell : Cell) × (o ≡ Some cell)
some_cell o some = search (arith, rules)

-- a cell with the key of a name
abbrev pub cell_with : Named → Cell → Queued
cell_with c cell = record { cell = cell; key = key_of c }

-- a name is of an arrival
abbrev IsOfArrival : Named → Arrival → Type 0
IsOfArrival c a = (a.slot ≡ c.slot) × (a.cell.id.input ≡ c.input)

-- different names, of which each arrives before the slot: those that pass a test are no more than the arrivals that do
names_few : (test : Arrival → Bool) (next : ℕ) (came : List Arrival) (p : Named → Bool) (names : List Named) →
    EachPair Differ names → ((c : Named) → Has names c → (c.slot < next) × IsSome (arriving_cell came c)) →
    ((c : Named) (a : Arrival) → p c ≡ true → arriving_cell came c ≡ Some a.cell → a.cell.id.input ≡ c.input →
    test a ≡ true) → length (filter p names) ≤ number_of test (came_before next came)
names_few test next came p names pairs arrive passes =
    let apart = pairs_kept_with Differ (AreApart IsOfArrival) p (search (arith, rules)) names pairs in
    no_more IsOfArrival (filter p names) (filter test (came_before next came)) apart
    (all_from_has _ _ (λ c has. let kept = kept_has p names c has in
    let some = some_cell (arriving_cell came c) (arrive c kept.0).1 in
    search (arith, rules, arrive c, found_at came c.slot c.input some.0, lt-ltb, has_kept)))

-- ## Counts of what was refused

same_outputs : (limits : List (Option ℕ)) (cells : List Cell) (j : ℕ) →
    map {B = ℕ × ℕ} (λ (r : Refused). (r.output, r.limit))
    (filter_map (λ (at : ℕ × Option ℕ). option_map (refused_at cells at.0) at.1) (enumerate_from j limits))
    ≡ filter_map (λ (at : ℕ × Option ℕ). option_map (λ (n : ℕ). (at.0, n)) at.1) (enumerate_from j limits)
same_outputs [] cells j = refl
same_outputs (limit ∷ limits) cells j = grind (arith, common_steps, same_outputs limits cells (j + 1))

counts_few : (limits : List (Option ℕ)) (cells : List Cell) (j n : ℕ) → length cells ≤ n →
    AllByRecursion (λ (r : Refused). (r.packets ≤ n) × (r.cells ≤ n))
    (filter_map (λ (at : ℕ × Option ℕ). option_map (refused_at cells at.0) at.1) (enumerate_from j limits))
unfolding cells_refused packets_refused
counts_few [] cells j n le = tt
counts_few (limit ∷ limits) cells j n le = grind (arith, common_steps, few_kept, counts_few limits cells (j + 1) n le)

-- ## Cells that wait for an output

-- those of all lists are those of the lists laid end on end
waiting_all : (j : ℕ) (lists : List (List Queued)) →
    waiting_for j lists ≡ length (filter (is_for j) (flat_map (λ l. l) lists))
waiting_all j [] = refl
waiting_all j (cells ∷ lists) = grind (arith, common_steps, filter-append, length-append, waiting_all j lists)

-- ## What is looked up and told again

told_again : {X Y : Type 0} (f : X → Option Y) (g : Y → X) (xs : List X) →
    ((x : X) → Has xs x → option_map g (f x) ≡ Some x) → map g (filter_map f xs) ≡ xs
told_again f g [] each = refl
told_again f g (x ∷ xs) each = grind (arith, common_steps, told_again f g xs)

seen_again : (s : State) (xs : List Seen) (a : ℕ) →
    map seen_as (map (λ (at : ℕ × Seen). input_told s at.0 at.1) (enumerate_from a xs)) ≡ xs
seen_again s [] a = refl
seen_again s (x ∷ xs) a = grind (arith, common_steps, seen_again s xs (a + 1))

-- ## The fabric that is told of

module _ (w : Switch) (s : State) (in_range : IsInRange s) (shape : HasShape w s) (sound : IsSound w s)
    (traffic : IsTraffic (length w.machines) w.classes w.came) where
  abbrev pub t : Named → Option Queued
  t c = queued_of w.came c

  abbrev pub f : Fabric
  f = fabric_told w.came s

  abbrev at_input : ℕ → Named → Bool
  at_input i c = c.input == i

  pub ports_are : s.head.ports ≡ length w.machines
  ports_are = shape.head.ports

  abbrev pub Comes : Named → Type 0
  Comes c = (c.slot < s.head.next) × IsSome (arriving_cell w.came c)

  pub comes : (c : Named) → Has (named_in s) c → Comes c
  comes c has = all_has Comes (named_in s) c sound.arrivals.arrive has

  differ : EachPair Differ (named_in s)
  differ = each_pair Differ (named_in s) sound.arrivals.once

  pub queued_differ : EachPair Differ (queued_in s)
  queued_differ = pairs_left Differ (queued_in s) _ differ

  pub queued_named : (c : Named) → Has (queued_in s) c → Has (named_in s) c
  queued_named c has = has_left (queued_in s) _ c has

  -- what the traffic says of a cell
  pub record OfTraffic (c : Named) (q : Queued) : Type 0 where
    pub input : q.cell.id.input ≡ c.input
    pub within : c.input < length w.machines
    pub output : q.cell.output < length w.machines
    pub class : q.cell.class < w.classes

  pub of_traffic : (c : Named) (q : Queued) → t c ≡ Some q → OfTraffic c q
  of_traffic c q is =
      search (arith, rules, all_of_has, found_at w.came c.slot c.input q.cell (is_cell_of w.came c q is).arrives)

  pub its_output : (c : Named) (q : Queued) → t c ≡ Some q → output_of w.came c ≡ q.cell.output
  its_output c q is = ap output_in (is_cell_of w.came c q is).arrives

  pub its_slot : (c : Named) (q : Queued) → t c ≡ Some q → q.key.slot ≡ c.slot
  its_slot c q is = ap (λ (k : Key). k.slot) (is_cell_of w.came c q is).key

  -- cells of one key are of one name's arrival
  one_arrival : (c d : Named) (q r : Queued) → t c ≡ Some q → t d ≡ Some r → q.key ≡ r.key → Differ c d → ⊥
  one_arrival c d q r first second same differ = grind (arith, common_steps, differ, is_cell_of)

  pub in_order : (c d : Named) (q r : Queued) → t c ≡ Some q → t d ≡ Some r → is_ahead c d ≡ true → IsBefore q r
  in_order c d q r first second ahead = grind (arith, common_steps, is_cell_of)

  -- the list of an input and the buffer of an output
  pub list_is : (i : ℕ) → i < s.head.ports → input f i ≡ list_told w.came s i
  unfolding fabric_told
  list_is = search (arith, rules, get_or-map-range_with_len)

  pub buffer_is : (j : ℕ) → j < s.head.ports → buffer f j ≡ buffer_told w.came s j
  unfolding fabric_told
  buffer_is = search (arith, rules, get_or-map-range_with_len)

  -- what holds of the one that is told, and of none, holds of each
  of_list : (P : List Queued → Type 0) → P [] → (i : ℕ) → P (list_told w.came s i) → P (input f i)
  unfolding fabric_told
  of_list = of_told (list_told w.came s) s.head.ports

  of_buffer : (P : List Queued → Type 0) → P [] → (j : ℕ) → P (buffer_told w.came s j) → P (buffer f j)
  unfolding fabric_told
  of_buffer = of_told (buffer_told w.came s) s.head.ports

  -- a cell of a list, and one of a buffer
  pub record InList (i : ℕ) (q : Queued) : Type 0 where
    pub name : Named
    pub has : Has s.listed name
    pub here : name.input ≡ i
    pub is : t name ≡ Some q

  pub record InBuffer (j : ℕ) (q : Queued) : Type 0 where
    pub name : Named
    pub has : Has s.buffered name
    pub is : t name ≡ Some q
    pub here : q.cell.output ≡ j

  pub in_list : (i : ℕ) (q : Queued) → Has (input f i) q → InList i q
  in_list i q = of_list (λ l. Has l q → InList i q) absurd i (search (arith, rules, looked_up, kept_has, eqb-true))

  pub in_buffer : (j : ℕ) (q : Queued) → Has (buffer f j) q → InBuffer j q
  in_buffer j q = of_buffer (λ l. Has l q → InBuffer j q) absurd j (search (rules, kept_has, looked_up, eqb-true))

  -- ## It is sound

  -- of two names for one output the first is ahead
  abbrev IsFirst : Named → Named → Type 0
  IsFirst c d = output_of w.came c ≡ output_of w.came d → is_ahead c d ≡ true

  -- and of two cells
  abbrev Leads : Queued → Queued → Type 0
  Leads a b = a.cell.output ≡ b.cell.output → IsBefore a b

  buffer_stands : (j : ℕ) → EachPair IsBefore (buffer_told w.came s j)
  buffer_stands j = rising_kept j (filter_map t s.buffered)
      (search (arith, rules, pairs_looked_up t (IsBufferedBefore w.came) IsFoundBefore, each_pair))

  apart : Apart f
  apart = search (rules, in_list, is_cell_of, in_buffer, one_arrival, pairs_cross, Differ, queued_differ)

  early : Early s.head.next f
  early =
      let all_come = λ (c : Named) (has : Has (queued_in s) c). comes c (queued_named c has) in
      search (arith, rules, its_slot, all_come, has_left, has_right, in_list, in_buffer)

  sides : (length f.inputs ≡ length w.machines) × (length f.buffers ≡ length f.inputs)
  unfolding fabric_told
  sides = grind (arith, common_steps, length-map-range_with_len, ports_are)

  is_fabric : IsFabric f
  is_fabric = search (arith, rules, sides, of_traffic, in_list, in_buffer, of_buffer (EachPair IsBefore), buffer_stands)

  keep_order : ListsKeepOrder f
  keep_order i =
      let kept = pairs_kept_with (λ (c d : Named). c.input ≡ d.input → IsFirst c d) IsFirst (at_input i) in
      let ahead = pairs_looked_up t IsFirst Leads in
      of_list (EachPair Leads) tt i (search (arith, rules, ahead, in_order, its_output, kept, each_pair, eqb-true))

  is_sound : IsSoundFabric s.head.next f
  is_sound = search (rules, is_fabric, keep_order, sound.slack, differ_from, apart, all_before, early)

  are_own : AreOwn (length w.machines) w.classes f
  are_own = search (rules, in_list, of_traffic, is_cell_of, in_buffer)

  -- ## No more wait than came

  lists_few : (i : ℕ) → length (input f i) ≤ number_of (is_from i) (came_before s.head.next w.came)
  lists_few i =
      let few = names_few (is_from i) s.head.next w.came (at_input i) s.listed (pairs_left _ _ _ queued_differ)
      (search (arith, rules, comes, has_left)) (search (arith, rules, eq-eqb, eqb-true)) in
      of_list (λ l. length l ≤ number_of (is_from i) (came_before s.head.next w.came)) (omega arith) i
      (omega (arith, looked_few t (filter (at_input i) s.listed)))

  -- the lists, input by input, are all cells that wait at inputs
  pub lists_joined :
      flat_map (λ l. l) (map (list_told w.came s) (range_with_len 0 s.head.ports)) ≡ filter_map t s.listed
  lists_joined =
      let all = ordered (λ (q : Queued). q.key.input) (filter_map t s.listed) s.head.ports
      (pairs_looked_up t (λ c d. c.input ≤ d.input) (λ q r. q.key.input ≤ r.key.input)
      (search (arith, rules, is_cell_of)) s.listed (each_pair _ s.listed sound.order.lists))
      (all_from_has _ _ (search (arith, rules, looked_up, all_of_has (IsNamed s.head.ports) s.listed, is_cell_of))) in
      rw flat_map-map (flat_same _ _ 0 s.head.ports (λ i _ _. sifted w.came i s.listed) ∙ all)

  module _ (j : ℕ) where
    abbrev for_it : Named → Bool
    for_it c = output_of w.came c == j

    held_few : held_for j f ≤ number_of (is_to j) (came_before s.head.next w.came)
    unfolding fabric_told
    held_few =
        let few = names_few (is_to j) s.head.next w.came for_it (queued_in s) queued_differ
        (search (rules, comes, queued_named)) (search (arith, rules, eq-eqb, eqb-true)) in
        let kept = kept_few t (is_for j) for_it (search (arith, rules, eq-eqb, its_output, eqb-true)) (queued_in s) in
        let buffered = of_buffer (λ (l : List Queued). length l ≤ length (buffer_told w.came s j)) (omega arith) j in
        grind (arith, common_steps, waiting_all, filter-append, length-append, lists_joined, filter_map-append)

  -- ## No more were counted than there were slots

  input_counts : (i : ℕ) → length (filter (at_input i) (named_in s)) ≤ s.head.next
  input_counts i = numbers_few (λ (c : Named). c.slot) _ s.head.next
      (pairs_kept_with Differ (λ c d. c.slot ≢ d.slot) (at_input i) (search (arith, rules, eqb-true)) _ differ)
      (search (arith, rules, all_from_has, comes, kept_has (at_input i)))

  -- a departure's output
  abbrev sent_to : ℕ → Sent → Bool
  sent_to j d = output_of w.came d.cell == j

  output_counts : (j : ℕ) → length (filter (λ (d : Departure). d.output == j) (sent_told w.came s)) ≤ s.head.next
  output_counts j =
      let timely = all_has (λ (d : Sent). (d.cell.slot ≤ d.slot) × (d.slot < s.head.next)) s.sent in
      let few = numbers_few (λ (d : Sent). d.slot) (filter (sent_to j) s.sent) s.head.next in
      let apart = pairs_kept_with (IsSentBefore w.came) (λ d e. d.slot ≢ e.slot) (sent_to j) in
      search (arith, rules, few, apart, each_pair, all_from_has, timely, kept_has, eqb-true, eq-eqb, kept_few)

  -- ## Together

  ruleset its_parts = (is_sound, are_own, input_counts, output_counts, lists_few, held_few, counts_few)

  ruleset its_lengths = (length-map, length-map-range_with_len, length-enumerate_from, ports_are)

  pub goes_on : GoesOn w (frozen_told w s)
  unfolding frozen_told fabric_told figures_told refused_counts
  goes_on = search (arith, rules, its_parts, in_range.head, shape.ranks, same_outputs, its_lengths, few_kept, image_at)

  -- ## Told again

  arrives : (c : Named) → Has (named_in s) c → (cell : Cell) × (arriving_cell w.came c ≡ Some cell)
  arrives c has = some_cell (arriving_cell w.came c) (comes c has).1

  sent_again : map sent_as (sent_told w.came s) ≡ s.sent
  sent_again = told_again (departure_of w.came) sent_as s.sent (λ d has.
      grind (arith, common_steps, arrives d.cell, has_right, has_image (λ (e : Sent). e.cell) s.sent d))

  names_again : (xs : List Named) → ((c : Named) → Has xs c → Has (named_in s) c) → map named_as (filter_map t xs) ≡ xs
  names_again xs named = told_again t named_as xs (search (arith, rules, arrives, named))

  buffers_again : map named_as (flat_map (λ l. l) (map (buffer_told w.came s) (range_with_len 0 s.head.ports)))
      ≡ s.buffered
  buffers_again =
      let rising = pairs_looked_up t (IsBufferedBefore w.came) (λ q r. q.cell.output ≤ r.cell.output)
      (search (arith, rules, its_output)) s.buffered (each_pair _ s.buffered sound.order.buffers) in
      let all = ordered (λ (q : Queued). q.cell.output) (filter_map t s.buffered) s.head.ports rising
      (all_from_has _ _ (search (arith, rules, looked_up, of_traffic, shape.head.ports))) in
      search (arith, rules, names_again, has_left, has_right, flat_map-map)

  pub state_again : state_of (frozen_told w s) (sent_told w.came s) s.moved w.t0 w.classes (length w.came) ≡ s
  unfolding state_of frozen_told fabric_told figures_told
  state_again =
      let lists = names_again s.listed in
      search (rules, lists_joined, lists, has_left, buffers_again, sent_again, seen_again, length-map-range_with_len)
