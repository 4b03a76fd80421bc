-- The last slot of a run. No departure of a run is behind its slots, and in the slot of the last arrival a cell comes.
-- The slots of a run with limits are those up to the last arrival, or up to the last departure where that is later.
-- Behind the last arrival the run goes on only while a cell waits. So a cell waits as the last such slot begins, and
-- one departs in it. Without limits a cell departs in the slot of the last arrival too, so the last departure is in the
-- last slot.
use Rattle.cq_ideal.proofs.Terms.{rules, ◌≡◌, ℕ, ◌+◌, ◌<◌, ◌≤◌, List, [], ◌∷◌, ◌++◌, length, Option, Some, ⊎_elim, arith, common_steps, max, AllByRecursion, cases_eq, cases_lt, eq-eqb, Arrival, arriving, end_of, Cell, Departure, Queued, Machine, slots_of, IsForSwitch, count_for, departures_of, departures_from, departures_in, arrival_at, most_ports, zero, suc, ◌-◌, Ok, ◌∙◌, length-replicate, arriving_from, first_slots, slots_of_run, whole_ideal_run, Ran, empty_ideal, ideal_run, IdealState, slots_of_limited_run, whole_limited_run, LimitedRan, empty_limited}
use Rattle.cq_ideal.proofs.AtInput.{is_shown}
use Rattle.cq_ideal.proofs.FlowCount.{found, found_here, listed_same, other_slot}
use Rattle.cq_ideal.proofs.Parted.{nothing_left, arriving_length, departures_append, first_slot}
use Rattle.cq_ideal.proofs.FlowStands.{only_ok}
use Rattle.cq_ideal.proofs.LimitedEnds.{at_ok, cut_at, gone_long, limited_over_at_end, limited_test, least, slots_as_before, whole_as}
use Rattle.cq_ideal.proofs.LimitedRuns.{is_run_of}
use Rattle.cq_ideal.proofs.Waiting.{counted, waiting}

-- ## The slots of departures

pub slots_of-append : (a b : List Departure) → slots_of (a ++ b) ≡ max (slots_of a) (slots_of b)
slots_of-append [] b = omega arith
slots_of-append (d ∷ a) b = let rest = slots_of-append a b in omega arith

-- it is that slot where one sends
pub slots_in : (slot j : ℕ) (gone : List (Option Queued)) → let sent = departures_from slot j gone in
    (slots_of sent ≤ slot + 1) × (0 < length sent → slots_of sent ≡ slot + 1)
slots_in slot j [] = (omega arith, λ some. absurd (omega arith))
slots_in slot j (o ∷ gone) = grind (arith, common_steps, slots_in slot (j + 1) gone)

-- no departure is behind the slots of a run
pub slots_within : (slot : ℕ) (gone : List (List (Option Queued))) →
    slots_of (departures_of slot gone) ≤ slot + length gone
unfolding departures_of departures_in
slots_within slot [] = omega arith
slots_within slot (g ∷ gone) = search (rules, slots_in, slots_of-append, slots_within (slot + 1) gone)

-- ## A cell that comes in the last slot

-- some cell arrives in this slot, for one of the ports
pub record Comes (ports : ℕ) (came : List Arrival) (slot : ℕ) : Type 0 where
  pub input : ℕ
  pub cell : Cell
  pub inside : input < most_ports
  pub output : cell.output < ports
  pub found_is : found came slot input ≡ cell ∷ []

pub comes : (ms : List Machine) (ports : ℕ) (came : List Arrival) (slot : ℕ) →
    AllByRecursion (IsForSwitch ms ports) came → end_of came ≡ slot + 1 → Comes ports came slot
comes ms ports [] slot all e = absurd (omega arith)
comes ms ports (a ∷ came) slot all e = ⊎_elim (λ (is : a.slot ≡ slot). search (arith, rules, found_here))
    (search (arith, rules, cases_lt, other_slot, comes ms ports came slot all.1)) (cases_eq a.slot slot)

counted_at : (cells : List (Option Cell)) (i : ℕ) (cell : Cell) → arrival_at cells i ≡ Some cell →
    1 ≤ count_for cell.output cells
counted_at [] i cell at = absurd (let P : ⊥ = cc in P)
counted_at (o ∷ cells) i cell at = grind (arith, common_steps, eq-eqb, counted_at cells)

-- ## One slot

-- where a cell waits one departs
one_of_waiting : (ms : List Machine) (slot : ℕ) (traffic : List (List (Option Cell))) (s : IdealState) (ran : Ran) →
    0 < length ran.gone → 0 < waiting s.lists → ideal_run ms slot traffic s ≡ Ok ran →
    slot + 1 ≤ slots_of (departures_of slot ran.gone)
unfolding ideal_run departures_of departures_in
one_of_waiting ms slot [] s ran one some is = grind (arith, common_steps, only_ok)
one_of_waiting ms slot (cells ∷ traffic) s ran one some is =
    search (arith, rules, slots_of-append, slots_in slot 0, first_slot, counted ms slot cells s)

-- ## The whole run

module _ (limits : List (Option ℕ)) (ms : List Machine) (ports : ℕ) (ranks : List (List ℕ)) (came : List Arrival)
    (ran : LimitedRan) (whole : whole_limited_run limits ms came (empty_limited ports ranks) ≡ Ok ran) where
  abbrev slots : ℕ
  slots = slots_of_limited_run limits ms came (empty_limited ports ranks)

  -- behind the last arrival it goes on only while a cell waits
  late : (slot : ℕ) → slots ≡ slot + 1 → end_of came ≤ slot → slot + 1 ≤ slots_of (departures_of 0 ran.gone)
  unfolding whole_limited_run
  late slot e le =
      let cut = cut_at limits ms ports ranks came slot slots ran (omega arith) whole in
      let long = gone_long limits ms 0 _ _ cut.first cut.ran_first ∙ arriving_length came 0 slot in
      let more = gone_long limits ms slot _ _ cut.second cut.ran_second ∙ arriving_length came slot (slots - slot) in
      let first = cut.first.after in
      let over = limited_test came slot _ first (at_ok limits ms ports ranks came _ cut.first cut.ran_first) le in
      let least = least limits ms ports ranks came slot in
      let waits : 0 < waiting first.state.lists = grind (arith, common_steps, nothing_left first.state.lists) in
      let here = one_of_waiting ms slot _ _ _ (omega arith) waits (is_run_of limits ms slot _ _ _ cut.ran_second) in
      search (arith, rules, departures_append, slots_of-append (departures_of 0 cut.first.gone))

  pub limited_slots : slots ≡ max (end_of came) (slots_of (departures_of 0 ran.gone))
  unfolding whole_limited_run
  limited_slots =
      let come = (limited_over_at_end limits ms ports ranks came ran whole).0 in
      let long = gone_long limits ms 0 (first_slots came slots) _ ran whole ∙ arriving_length came 0 slots in
      search (arith, rules, late (slots - 1), cases_lt, slots_within 0)

-- ## The switch without limits

module _ (ms : List Machine) (ports : ℕ) (came : List Arrival) (all : AllByRecursion (IsForSwitch ms ports) came) where
  -- a cell comes in the slot of the last arrival, so one departs in it
  departs_at_end : (n k slot : ℕ) (s : IdealState) (ran : Ran) → length s.lists ≡ ports → end_of came ≡ slot + k + 1 →
      k < n → ideal_run ms slot (arriving_from came slot n) s ≡ Ok ran →
      end_of came ≤ slots_of (departures_of slot ran.gone)
  unfolding departures_of departures_in arriving_from found
  departs_at_end zero k slot s ran many e lt is = absurd (omega arith)
  departs_at_end (suc n) k slot s ran many e lt is =
      let p = first_slot ms slot (arriving came slot) (arriving_from came (slot + 1) n) s ran is in
      let count = counted ms slot (arriving came slot) s p.sent p.ran_slot in
      ⊎_elim (λ some. search (arith, rules, departs_at_end n (k - 1) (slot + 1) p.sent.after p.second, slots_of-append))
      (λ now. let c = comes ms ports came slot all (omega arith) in
      let some : 1 ≤ count_for c.cell.output (arriving came slot) =
      search (arith, rules, counted_at, is_shown c.input, listed_same) in
      search (arith, rules, slots_of-append, slots_in slot 0, count.departs c.cell.output, some))
      (cases_lt 0 k)

pub last_departs : (ms : List Machine) (ports : ℕ) (ranks : List (List ℕ)) (came : List Arrival) →
    AllByRecursion (IsForSwitch ms ports) came → (ran : Ran) →
    whole_ideal_run ms came (empty_ideal ports ranks) ≡ Ok ran →
    slots_of (departures_of 0 ran.gone) ≡ slots_of_run ms came (empty_ideal ports ranks)
unfolding whole_ideal_run
last_departs ms ports ranks came all ran whole =
    let nil : List Queued = [] in
    let slots = limited_slots [] ms ports ranks came _ (whole_as ms ports ranks came ran whole) in
    search (arith, rules, length-replicate ports nil, departs_at_end ms ports, slots_as_before [] ms)
