-- The straight way is the slot. No cell waits, and no two of the cells that come are for one output. So after the
-- arrivals each of them stands alone in the list of its input, and is all that the input offers. The matching that has
-- all these pairs gives each input its first and only choice: no offered pair is left out, so that it is stable, and no
-- input could have a better partner, so that it is the best for the inputs. Each of its inputs proposes once. Its
-- transfer empties the lists and puts each cell alone into the buffer of its output, which sends it. After that nothing
-- waits and nothing is offered, and the second matching is empty. The lists and buffers in between are made here for
-- the proof alone.
use Rattle.cq_engine.proofs.Terms.{common_steps, rules, ◌≡◌, ℕ, ◌<◌, ◌≤◌, List, [], ◌∷◌, length, map, drop, get_or, replicate, Option, Some, None, refl, sym, ap, ◌∙◌, arith, All, IfSome, enumerate_from, filter_map, range_with_len, sum_by, option_map, cases_lt, cond_both, eq-eqb, same_Some, append-nil, ext_get_or, get_or_past, length-map, get_or-map-range_with_len, length-map-range_with_len, sum-map, sum_by-cons, Cell, Queued, Figures, Machine, all_told, fronts, rests, LimiterView, list_of, orders_of, output_order, Moves, list_taken, transfers_of, ports, IsListed, Partners, partner_of, partner_place, proposals, IsFreeOutput, IsInputBest, IsStable, slacks, came_to, Queues, fabric_of, HaveArrived, HaveSent, fits_lists, held_before, keyed, arriving_slack, input_counted, slack_seen, GoStraight, crossings, input_passed, Look, among, place_head, none_unless, outputs_at, kept_more, append_assoc, length-append, admitted, HasReleased}
use Rattle.std.proofs.Math.ListN.{get_or-map}
use Rattle.cq_engine.specs.Crossing.{HaveMovedBest}
use Rattle.cq_engine.proofs.NoOffers.{none_best, none_proposed, nothing_moves, nothing_noted}
use Rattle.cq_engine.proofs.Shown.{Taken}
use Rattle.cq_engine.proofs.Slot.{AreCounted, Whole, moved_of, whole_slot, by_place_same}

-- ## A cell alone

-- a list or a buffer with this cell, or with none
abbrev alone : Option Queued → List Queued
alone None = []
alone (Some c) = c ∷ []

-- the output that it is for
abbrev wanted : Option Queued → Option ℕ
wanted q = option_map (λ c. c.cell.output) q

left_alone : (q : Option Queued) → [] ≡ list_taken (wanted q) (alone q)
left_alone q = grind (arith, common_steps, cond_both, eq-eqb)

wants_offered : (q : Option Queued) (j : ℕ) → IsListed (output_order (alone q)) j → wanted q ≡ Some j
wants_offered q j h = grind (arith, common_steps, among (output_order (alone q)) j h)

-- the cell that is for it
cell_of : (q : Option Queued) (j : ℕ) → wanted q ≡ Some j → (c : Queued) × (q ≡ Some c) × (c.cell.output ≡ j)
cell_of q j h = grind (arith, common_steps, same_Some)

-- ## Lists of such cells

same_kept : {X Y : Type 0} (f g : X → Option Y) (xs : List X) → ((x : X) → f x ≡ g x) →
    filter_map f xs ≡ filter_map g xs
same_kept f g xs same = λ k. filter_map (λ x. same x k) xs

abbrev size : {Y : Type 0} → Option Y → ℕ
size None = 0
size (Some y) = 1

sum_sizes : {X Y : Type 0} (f : X → ℕ) (h : X → Option Y) (xs : List X) → ((x : X) → f x ≡ size (h x)) →
    sum_by f xs ≡ length (filter_map h xs)
sum_sizes f h [] same = refl
sum_sizes f h (x ∷ xs) same = grind (arith, common_steps, sum_by-cons, sum_sizes f h xs same)

fronts_alone : (gone : List (Option Queued)) → fronts (map alone gone) ≡ gone
fronts_alone [] = refl
fronts_alone (q ∷ gone) = grind (arith, common_steps, fronts_alone gone)

no_cell : (lists : List (List Queued)) → All (λ cells. cells ≡ []) lists → (i : ℕ) → list_of lists i ≡ []
no_cell lists empty i = grind (arith, common_steps, get_or_past, cases_lt)

rests_alone : (buffers : List (List Queued)) (gone : List (Option Queued)) → length gone ≡ length buffers →
    All (λ cells. cells ≡ []) buffers → buffers ≡ rests (map alone gone)
rests_alone buffers gone long empty =
    ext_get_or [] buffers (rests (map alone gone)) (grind (arith, common_steps, length-map)) (λ j below.
    let rest = get_or-map {B = List Queued} (λ xs. drop 1 xs) (map alone gone) j [] in
    search (rules, no_cell buffers empty, rest, get_or-map alone gone j None))

-- ## The slot

module _ {ms : List Machine} {slot : ℕ} {arrivals : List (Option Cell)} {q : Queues} {ranks0 : List (List ℕ)}
    {l : LimiterView} {looks : Look} {x : Figures} {came : List (Option Queued)} {ranks1 : List (List ℕ)}
    {judged : LimiterView} (known : Taken ms slot arrivals q ranks0 l looks x came ranks1 judged)
    {gone : List (Option Queued)} (straight : GoStraight q came gone) where
  -- how many inputs there are
  abbrev n : ℕ
  n = length q.inputs

  none_past : (i : ℕ) → n ≤ i → came_to came i ≡ None
  none_past i past = grind (arith, common_steps, fits_lists known.ranked known.list_room i)

  no_list : (i : ℕ) → list_of q.inputs i ≡ []
  no_list = no_cell q.inputs straight.lists

  no_buffer : (j : ℕ) → list_of q.buffers j ≡ []
  no_buffer = no_cell q.buffers straight.buffers

  -- the cells that came, each alone in the list of its input, and their pairs
  abbrev lists : List (List Queued)
  lists = map (λ i. alone (came_to came i)) (range_with_len 0 n)

  abbrev pairs : Partners
  pairs = map (λ i. wanted (came_to came i)) (range_with_len 0 n)

  -- once they have arrived, and once they have crossed
  abbrev listed : Queues
  listed = record { inputs = lists; buffers = q.buffers; from_inputs = q.from_inputs; to_outputs = q.to_outputs }

  abbrev filled : Queues
  filled =
      record { inputs = q.inputs; buffers = map alone gone; from_inputs = q.from_inputs; to_outputs = q.to_outputs }

  ruleset by_input = (get_or-map-range_with_len, get_or_past, length-map-range_with_len, none_past, cases_lt)

  list_is : (i : ℕ) → list_of lists i ≡ alone (came_to came i)
  list_is i = grind (arith, common_steps, by_input)

  partner_is : (i : ℕ) → partner_of pairs i ≡ wanted (came_to came i)
  partner_is i = grind (arith, common_steps, by_input)

  ruleset listed_facts = (length-map, length-map-range_with_len, outputs_at, list_is, partner_is)

  -- the cell of a pair
  pair_cell : (i j : ℕ) → partner_of pairs i ≡ Some j →
      (c : Queued) × (came_to came i ≡ Some c) × (c.cell.output ≡ j)
  pair_cell i j h = cell_of (came_to came i) j (sym (partner_is i) ∙ h)

  pair_of : (i : ℕ) (c : Queued) → came_to came i ≡ Some c → partner_of pairs i ≡ Some c.cell.output
  pair_of i c is = partner_is i ∙ ap wanted is

  pair_gone : (i : ℕ) (c : Queued) → came_to came i ≡ Some c → came_to gone c.cell.output ≡ Some c
  pair_gone i c is = straight.sent.each i c (fits_lists known.ranked known.list_room i c is).inside is

  -- ## The first matching

  at_best : (i : ℕ) → partner_place (orders_of lists) pairs i ≡ 0
  at_best i = search (arith, rules, listed_facts, place_head)

  once : (i k j : ℕ) → partner_of pairs i ≡ Some j → partner_of pairs k ≡ Some j → i ≡ k
  once i k j h g = search (arith, rules, keyed known.ranked, pair_cell, pair_gone)

  pairs_stable : IsStable (orders_of lists) pairs
  pairs_stable = search (rules, listed_facts, place_head, same_Some, wants_offered, once)

  pairs_best : IsInputBest (orders_of lists) pairs
  pairs_best = record { stable = pairs_stable; best = λ m stable i. let first = at_best i in omega arith }

  all_proposed : length (crossings slot n came) ≡ proposals (orders_of lists) pairs
  unfolding crossings
  all_proposed = search (rules, listed_facts, sum-map, sum_sizes, place_head)

  all_noted : transfers_of pairs lists slot 1 ≡ crossings slot n came
  unfolding crossings transfers_of
  all_noted = search (rules, listed_facts, same_kept, cond_both, eq-eqb)

  -- ## The phases

  arrived : HaveArrived q came listed
  arrived = grind (arith, common_steps, length-map-range_with_len, list_is, no_list)

  buffer_is : (j : ℕ) → list_of (map alone gone) j ≡ alone (came_to gone j)
  buffer_is j = let none : Option Queued = None in get_or-map alone gone j none

  -- an output to which nobody crosses sends nothing
  none_sent : (j : ℕ) → IsFreeOutput pairs j → came_to gone j ≡ None
  none_sent j free =
      none_unless (came_to gone j) (λ c is.
      grind (arith, common_steps, straight.sent.only j c, free, pair_of, get_or_past))

  ruleset pair_facts = (listed_facts, pair_cell, buffer_is, pair_gone, none_sent)

  moves : Moves pairs lists q.buffers q.inputs (map alone gone)
  moves = search (arith, rules, pair_facts, no_list, left_alone, cond_both, eq-eqb, no_buffer)

  crossed : HaveMovedBest pairs (length (crossings slot n came)) listed filled
  crossed = record { best = pairs_best; counted = all_proposed; moves = moves }

  sent : (ranks2 : List (List ℕ)) → ranks2 ≡ all_told ms gone ranks1 → HaveSent ms listed ranks1 filled ranks2 q
  sent ranks2 told = grind (arith, common_steps, rests_alone, fronts_alone)

  -- nothing is offered then
  abbrev nobody : Partners
  nobody = replicate (ports (orders_of q.inputs)) None

  crossed_again : HaveMovedBest nobody 0 q q
  crossed_again = search (rules, none_best, outputs_at, no_list, none_proposed, nothing_moves)

  -- ## The figures

  -- each of the cells had no cell before it
  abbrev least : Option Queued → Option ℕ
  least o = option_map (λ c. 0) o

  arriving_least : (i : ℕ) (o : Option Queued) → arriving_slack listed i o ≡ least o
  arriving_least i o = grind (arith, common_steps, no_buffer)

  seen_least : (i : ℕ) → slack_seen looks listed i (came_to came i) ≡ least (came_to came i)
  unfolding slacks
  seen_least i = grind (arith, common_steps, arriving_least, list_is, no_buffer)

  counted_passed : map (λ at. input_passed (came_to came at.0) at.1) (enumerate_from 0 x.inputs)
      ≡ map (λ at. input_counted looks listed at.0 (came_to came at.0) at.1) (enumerate_from 0 x.inputs)
  unfolding input_counted
  counted_passed = search (arith, rules, by_place_same, list_is, seen_least)

  -- ## All of it

  -- what each output holds before it sends
  pub held_straight : (j : ℕ) → IfSome (came_to gone j) (λ _. 0 < get_or judged.held j 0)
  held_straight j = rw (← fronts_alone gone)
      (held_before known.ranked arrived known.buffer_room (moved_of crossed) known.running.holds known.judged j)

  pub whole_straight : (ranks2 : List (List ℕ)) → ranks2 ≡ all_told ms gone ranks1 → {after : LimiterView} →
      HasReleased gone judged after → (y : Figures) →
      AreCounted (λ i. input_passed (came_to came i)) slot gone (length (crossings slot n came)) 0 x y →
      Whole ms slot (admitted judged.marks arrivals) x y (fabric_of q ranks0) (fabric_of q ranks2) judged after gone
      (crossings slot n came)
  whole_straight ranks2 told {after} releases y counts =
      let released : HasReleased (fronts (map alone gone)) judged after = rw (fronts_alone gone) releases in
      let long = whole_slot known arrived crossed (sent ranks2 told) crossed_again released y
      (search (arith, rules, fronts_alone, counted_passed)) in
      rw (fronts_alone gone, nothing_noted, append-nil, all_noted) at long

-- what is noted of one input more
pub ruleset note_steps = (kept_more, append_assoc, append-nil, length-append)
