-- A run at one output, slot by slot. After the arrivals of a slot the output sends the first cell of its list, and a
-- sending lowers no floor; where it sends nothing its list is empty. So what is known of the list stays known, and
-- what it showed of a flow, and then what arrived of it, is what the output sent of it, and then what the list shows
-- afterwards. So it is over a run: what the list shows of a flow, and then what is still to come of it, is what the
-- output still sends of it, and then what its list shows at the end. What is no port sends nothing.
use Rattle.cq_ideal.proofs.Terms.{rules, option_to_list, ◌≡◌, ℕ, ◌+◌, ◌<◌, ◌≤◌, List, [], ◌∷◌, ◌++◌, length, Option, None, Ok, refl, arith, common_steps, slice_index_or, AllByRecursion, filter, eq-eqb, ne_eqb, and_left, cond-false, append-nil, append_assoc, map-append, get_or_past, filter-append, Cell, Departure, Queued, Machine, KeepsLaws, machine_at, IdealState, Sent, ideal_slot, departures_from, departures_in, Ran, ideal_run, departures_of, leaves_in_flow, left_in_flow, get_or-map, length-map, ranking, all_weaker}
use Rattle.cq_ideal.proofs.FlowStands.{Stands, is_kind, shown, of_flow, present, only_ok, AreOfClasses, filled_from}
use Rattle.cq_ideal.proofs.Sending.{length-told, told_at}
use Rattle.cq_ideal.proofs.Waiting.{filled_at, length-filled, sends_ok}

-- ## What stands at one output after the slot

module _ (ms : List Machine) (j slot : ℕ) (laws : KeepsLaws (machine_at ms j)) (i c : ℕ) where
  -- what a slot made of the output's list, where these cells came to the switch
  pub record Served (come : List Cell) (old : IdealState) (sent : Sent) : Type 0 where
    pub stands : Stands (machine_at ms j) (slice_index_or sent.after.ranks j []) (slot + 1) 0
        (slice_index_or sent.after.lists j [])
    pub states : length sent.after.ranks ≡ length old.ranks
    pub ports : length sent.after.lists ≡ length old.lists
    pub shows : shown i c (slice_index_or old.lists j []) ++ of_flow i c j come
        ≡ shown i c (option_to_list (slice_index_or sent.gone j None))
        ++ shown i c (slice_index_or sent.after.lists j [])

  pub served : (cells : List (Option Cell)) (old : IdealState) (sent : Sent) →
      ideal_slot ms slot cells old ≡ Ok sent → j < length old.lists → j < length old.ranks →
      Stands (machine_at ms j) (slice_index_or old.ranks j []) slot 0 (slice_index_or old.lists j []) →
      AreOfClasses (machine_at ms j) j (present cells) → Served (present cells) old sent
  unfolding ideal_slot
  served cells old sent h in_lists in_ranks stands are = sends_ok (λ s. Served (present cells) old s) ms old
      (ranking ms slot 0 cells old.ranks) sent h (λ r is.
      let list = slice_index_or old.lists j [] in
      let f = filled_from ms j slot laws i c cells 0 old.ranks list r is in_ranks stands are in
      let here = filled_at r.came old.lists j in_lists in
      search (arith, rules, get_or-map, told_at, all_weaker, length-told, length-map, length-filled))

-- ## What an output sends

module _ (i c j slot : ℕ) where
  none_left : (gone : List (Option Queued)) (a : ℕ) → j < a →
      filter (leaves_in_flow i c j) (departures_from slot a gone) ≡ []
  none_left [] a l = refl
  none_left (o ∷ gone) a l = grind (arith, common_steps, ne_eqb, and_left, is_kind, cond-false, none_left gone (a + 1))

  left_from : (gone : List (Option Queued)) (a k : ℕ) → a + k ≡ j →
      left_in_flow i c j (departures_from slot a gone) ≡ shown i c (option_to_list (slice_index_or gone k None))
  left_from [] a k e = refl
  left_from (o ∷ gone) a k e =
      grind (arith, common_steps, none_left, eq-eqb, ne_eqb, and_left, is_kind, cond-false, left_from gone (a + 1))

  left_later : (gone : List (Option Queued)) (ds : List Departure) →
      left_in_flow i c j (departures_in slot gone ++ ds)
      ≡ shown i c (option_to_list (slice_index_or gone j None)) ++ left_in_flow i c j ds
  unfolding departures_in
  left_later gone ds = grind (arith, common_steps, filter-append, map-append, left_from)

-- ## What is to come

-- what comes of the flow in these slots
unfoldable pub flow_came : ℕ → ℕ → ℕ → List (List (Option Cell)) → List Cell
flow_came i c j [] = []
flow_came i c j (cells ∷ traffic) = of_flow i c j (present cells) ++ flow_came i c j traffic

-- how many cells come in these slots
unfoldable pub come_count : List (List (Option Cell)) → ℕ
come_count [] = 0
come_count (cells ∷ traffic) = length (present cells) + come_count traffic

-- ## The first slot of a run, and the run behind it

pub record FirstSlot (ms : List Machine) (slot : ℕ) (cells : List (Option Cell)) (traffic : List (List (Option Cell)))
    (s : IdealState) (ran : Ran) : Type 0 where
  pub sent : Sent
  pub second : Ran
  pub ran_slot : ideal_slot ms slot cells s ≡ Ok sent
  pub ran_second : ideal_run ms (slot + 1) traffic sent.after ≡ Ok second
  pub both : ran ≡ record { gone = sent.gone ∷ second.gone; after = second.after }

pub first_slot : (ms : List Machine) (slot : ℕ) (cells : List (Option Cell)) (traffic : List (List (Option Cell)))
    (s : IdealState) (ran : Ran) → ideal_run ms slot (cells ∷ traffic) s ≡ Ok ran →
    FirstSlot ms slot cells traffic s ran
unfolding ideal_run
first_slot ms slot cells traffic s ran e = grind (arith, common_steps, only_ok)

module _ (ms : List Machine) (j : ℕ) (laws : KeepsLaws (machine_at ms j)) (i c : ℕ) where
  -- what a run over these slots made of the flow and of the output's list
  pub passed : (traffic : List (List (Option Cell))) (slot : ℕ) (state : IdealState) (ran : Ran) →
      ideal_run ms slot traffic state ≡ Ok ran → j < length state.lists → j < length state.ranks →
      Stands (machine_at ms j) (slice_index_or state.ranks j []) slot 0 (slice_index_or state.lists j []) →
      AllByRecursion (λ cells. AreOfClasses (machine_at ms j) j (present cells)) traffic →
      shown i c (slice_index_or state.lists j []) ++ flow_came i c j traffic
      ≡ left_in_flow i c j (departures_of slot ran.gone) ++ shown i c (slice_index_or ran.after.lists j [])
  unfolding ideal_run flow_came departures_of
  passed [] slot state ran h in_lists in_ranks stands are = grind (arith, common_steps, append-nil, only_ok)
  passed (cells ∷ traffic) slot state ran h in_lists in_ranks stands are =
      let p = first_slot ms slot cells traffic state ran h in
      let s = served ms j slot laws i c cells state p.sent p.ran_slot in_lists in_ranks stands are.0 in
      let later = passed traffic (slot + 1) in
      search (arith, rules, shown, of_flow, present, option_to_list, append_assoc, left_later, later)

-- where there is no such port nothing leaves it
pub no_port : (ms : List Machine) (i c j : ℕ) (traffic : List (List (Option Cell))) (slot : ℕ) (state : IdealState)
    (ran : Ran) → ideal_run ms slot traffic state ≡ Ok ran → length state.lists ≤ j →
    left_in_flow i c j (departures_of slot ran.gone) ≡ []
unfolding ideal_run departures_of ideal_slot
no_port ms i c j [] slot state ran h outside = cc ((only_ok refl h))
no_port ms i c j (cells ∷ traffic) slot state ran h outside =
    search (rules, sends_ok, length-filled, length-map, left_later, get_or_past, no_port ms i c j traffic (slot + 1))
