-- What stands at the place of an input in the slots of a run. Each cell stands at the place of the input that its id
-- names, among the admitted cells too. So of the cells that are refused in a slot only the one at the place of an
-- input is of that input, and it is refused where the mark is up. In a slot the place shows what is found there, and
-- the arrivals at one input rise in their slots, so where the first is taken off the list every later slot shows the
-- same: from a slot on the cells that come to an input are its arrivals of these slots in their order. And all cells
-- of a flow stand at the place of its input, so what comes of a flow is what was to come of it, in its order.
use Rattle.cq_ideal.proofs.Terms.{◌-◌, option_to_list, cond, cond-false, filter_all, all_from_has, le-ltb, rules, common_steps, ◌≡◌, ℕ, zero, suc, ◌+◌, ◌<◌, List, [], ◌∷◌, Option, refl, ⊎_elim, arith, AllByRecursion, cases_lt, get_or_past, unwrap_or-slice_get, Cell, Arrival, enough, traffic_of, arrival_at, RiseByInput, came_in_flow, came_at, cells_at, most_ports, all_weaker, IsRunnable, IsForSwitch, Machine, ◌≤◌, not, ◌++◌, Bool, None, map, ◌==◌, nat_lt, filter, cond_both, cases_eq, eq-eqb, lt-ltb, get_or-map-range_with_len, arriving, arriving_at, end_of, all_by, arriving_from, all_made, Some, range_with_len, and_parts, eqb-true, cond-true, filter-append, Admission, admitted, mark_at, refused, where_up, refused_in, AreJudged}
use Rattle.cq_ideal.proofs.Parted.{all_slots}
use Rattle.cq_ideal.proofs.FlowCount.{found, found_none, length-arriving, listed_same, before_end, found_here, listed, other_input, other_slot}
use Rattle.cq_ideal.proofs.FlowStands.{present, is_of_flow, of_flow}
use Rattle.cq_ideal.proofs.FlowRun.{flow_came}
use Rattle.cq_ideal.proofs.Admitted.{its_marks}
use Rattle.cq_ideal.proofs.Packets.{refused_here}

-- each cell stands at the place of its input, from this input on
abbrev pub StandAt : ℕ → List (Option Cell) → Type 0
StandAt a [] = Unit {0}
StandAt a (None ∷ cells) = StandAt (a + 1) cells
StandAt a (Some cell ∷ cells) = (cell.id.input ≡ a) × StandAt (a + 1) cells

pub still_stand : (a : ℕ) (marks : List Bool) (cells : List (Option Cell)) → StandAt a cells →
    StandAt a (admitted marks cells)
still_stand a [] cells at = at
still_stand a (mark ∷ marks) cells at = grind (arith, common_steps, still_stand (a + 1) marks)

-- ## What arrives stands at its place

own_place : (t a : ℕ) (cells : List (Option Cell)) (came : List Arrival) → StandAt (a + 1) cells →
    StandAt a (arriving_at came t a ∷ cells)
own_place t a cells [] at = at
own_place t a cells (x ∷ came) at = grind (arith, common_steps, eqb-true, and_parts, own_place t a cells came at)

stand_arriving : (came : List Arrival) (t a n : ℕ) → StandAt a (map (arriving_at came t) (range_with_len a n))
stand_arriving came t a zero = tt
stand_arriving came t a (suc n) = own_place t a _ came (stand_arriving came t (a + 1) n)

pub stand_in : (came : List Arrival) (a n : ℕ) → AllByRecursion (StandAt 0) (map (arriving came) (range_with_len a n))
unfolding arriving
stand_in came a n = all_made _ (arriving came) a n (λ t _ _. stand_arriving came t 0 most_ports)

pub all_stand : (came : List Arrival) → AllByRecursion (StandAt 0) (traffic_of came)
unfolding traffic_of
all_stand came = stand_in came 0 (enough came)

-- ## What is refused at an input

module _ (i : ℕ) where
  -- the cells of this input
  abbrev pub of_input : List Cell → List Cell
  of_input cells = filter (λ cell. cell.id.input == i) cells

  -- what is refused of it from this input on is the cell at its place, and nothing where that place is before
  refused_at_place : (a : ℕ) (marks : List Bool) (cells : List (Option Cell)) → StandAt a cells →
      of_input (refused marks cells)
      ≡ cond (nat_lt i a) [] (option_to_list (where_up (mark_at marks (i - a)) (arrival_at cells (i - a))))
  refused_at_place a (mark ∷ marks) (cell ∷ cells) at =
      search (arith, rules, cond-true, cond-false, of_input, refused, eq-eqb, refused_at_place (a + 1) marks)
  refused_at_place a marks cells at = search (arith, rules)

  pub refused_are : (limits : List (Option ℕ)) (marks : List Bool) (traffic : List (List (Option Cell)))
      (admissions : List Admission) → AreJudged limits marks traffic admissions → AllByRecursion (StandAt 0) traffic →
      of_input (refused_in admissions) ≡ refused_here limits i traffic admissions
  refused_are limits marks (cells ∷ traffic) (a ∷ admissions) judged at =
      let is = its_marks limits marks cells a judged.0 in
      let rest = refused_are limits a.marks traffic admissions judged.1 at.1 in
      grind (arith, common_steps, filter-append, refused_at_place 0 a.marks cells, listed, rest)
  refused_are limits marks traffic admissions judged at = grind (arith, common_steps)

-- ## The arrivals at an input

-- the arrivals at input i
abbrev pub line_at : ℕ → List Arrival → List Arrival
line_at i came = filter (λ a. a.cell.id.input == i) came

-- whether the arrival is not before this slot
abbrev pub is_from_on : ℕ → Arrival → Bool
is_from_on from a = not (nat_lt a.slot from)

abbrev pub rest_of : ℕ → List Arrival → List Arrival
rest_of from line = filter (is_from_on from) line

abbrev pub cells_of : List Arrival → List Cell
cells_of line = map (λ (a : Arrival). a.cell) line

-- where all that is still to come at the input is later, nothing is found earlier
no_earlier : (i t : ℕ) (a : Arrival) (came : List Arrival) → RiseByInput (a ∷ came) → a.cell.id.input ≡ i →
    t < a.slot + 1 → found came t i ≡ []
no_earlier i t a came rise same l =
    let later = λ (s : ℕ). rise zero (suc s) a in search (arith, rules, found_none, all_by, later)

-- of the line of an input, what is found in a slot stands in front of what is later
found_first : (i t : ℕ) (came : List Arrival) → RiseByInput came →
    cells_of (rest_of t (line_at i came)) ≡ found came t i ++ cells_of (rest_of (t + 1) (line_at i came))
unfolding found
found_first i t [] rise = refl
found_first i t (a ∷ came) rise =
    let rest = found_first i t came (λ s t x y at_s at_t l. rise (suc s) (suc t) x y at_s at_t (omega arith)) in
    let none = no_earlier i t a came rise in
    grind (arith, common_steps, other_input, other_slot, found_here, cases_lt, cases_eq, eq-eqb, lt-ltb, le-ltb, none)

all_past : (i t : ℕ) (came : List Arrival) → AllByRecursion (λ a. a.slot < t) came → rest_of t (line_at i came) ≡ []
all_past i t [] before = refl
all_past i t (a ∷ came) before = grind (arith, common_steps, cond_both, lt-ltb, all_past i t came before.1)

-- the place of the input shows what arrives there, in each slot
abbrev pub IsShown : List Arrival → ℕ → Type 0
IsShown came i = (t : ℕ) → arrival_at (arriving came t) i ≡ arriving_at came t i

pub is_shown : (i : ℕ) → i < most_ports → (came : List Arrival) → IsShown came i
unfolding arriving
is_shown i inside came t =
    let at = get_or-map-range_with_len (arriving_at came t) 0 most_ports i i None inside (omega arith) in
    search (rules, unwrap_or-slice_get, at)

pub comes_shown : (i : ℕ) (came : List Arrival) → IsShown came i → (from slots : ℕ) → RiseByInput came →
    end_of came ≤ from + slots → cells_at i (arriving_from came from slots) ≡ cells_of (rest_of from (line_at i came))
unfolding arriving_from found
comes_shown i came shown from zero rise all = grind (arith, common_steps, all_past i, before_end came, all_weaker)
comes_shown i came shown from (suc n) rise all =
    search (arith, rules, found_first, listed, option_to_list, comes_shown i came shown (from + 1) n rise)

pub comes_from : (i : ℕ) → i < most_ports → (came : List Arrival) (from slots : ℕ) → RiseByInput came →
    end_of came ≤ from + slots → cells_at i (arriving_from came from slots) ≡ cells_of (rest_of from (line_at i came))
comes_from i inside came = comes_shown i came (is_shown i inside came)

-- ## The cells that come to an input

all_shown : (i : ℕ) (came : List Arrival) → IsShown came i → RiseByInput came →
    cells_at i (traffic_of came) ≡ came_at i came
unfolding enough
all_shown i came shown rise =
    search (arith, rules, all_slots came, comes_shown i came shown 0, filter_all, all_from_has, le-ltb)

pub come_in_order : (i : ℕ) → i < most_ports → (came : List Arrival) → RiseByInput came →
    cells_at i (traffic_of came) ≡ came_at i came
come_in_order i inside came rise = all_shown i came (is_shown i inside came) rise

-- ## A flow comes at its input

module _ (i c j : ℕ) where
  -- what comes of it from this input on stands at the place of its input, and is nothing where that place is before
  at_place : (a : ℕ) (cells : List (Option Cell)) → StandAt a cells → of_flow i c j (present cells)
      ≡ cond (nat_lt i a) [] (of_flow i c j (option_to_list (arrival_at cells (i - a))))
  unfolding of_flow
  at_place a [] at = grind (arith, common_steps)
  at_place a (cell ∷ cells) at = grind (arith, common_steps, is_of_flow, at_place (a + 1) cells)

  pub comes_at_input : (traffic : List (List (Option Cell))) → AllByRecursion (StandAt 0) traffic →
      flow_came i c j traffic ≡ of_flow i c j (cells_at i traffic)
  unfolding flow_came of_flow
  comes_at_input [] at = refl
  comes_at_input (cells ∷ traffic) at = grind (arith, common_steps, at_place 0 cells at.0, comes_at_input traffic at.1)

  -- the flow's arrivals are among those at the input
  of_line : (came : List Arrival) → of_flow i c j (came_at i came) ≡ came_in_flow i c j came
  unfolding of_flow
  of_line [] = refl
  of_line (a ∷ came) = grind (arith, common_steps, of_line came)

-- ## In a run

module _ {ms : List Machine} {ports : ℕ} {openings : List (List ℕ)} {came : List Arrival}
    (runs : IsRunnable ms ports openings came) where
  -- the cells that come to an input are its arrivals, and so it is of any number, since what is no input shows nothing
  pub all_in_order : (i : ℕ) → cells_at i (traffic_of came) ≡ came_at i came
  unfolding found
  all_in_order i = ⊎_elim (λ inside. come_in_order i inside came runs.rise)
      (λ past. all_shown i came (λ t.
      let nobody = found_none came t i (search (arith, rules, all_weaker (IsForSwitch ms ports))) in
      let long = length-arriving came t most_ports refl in
      search (arith, rules, unwrap_or-slice_get, get_or_past, listed_same, nobody)) runs.rise) (cases_lt i most_ports)

  pub came_in_order : (i c j : ℕ) → flow_came i c j (traffic_of came) ≡ came_in_flow i c j came
  came_in_order i c j = search (arith, rules, comes_at_input, all_stand, all_in_order, of_line)
