-- What arrives in a slot is for the ports and of the classes, and each cell comes at its own input. It is found among
-- all cells that come, and what holds of each of these holds of it. And stretches of slots in which no cell arrives: no
-- cell comes before the next arrival, so up to it there is nothing that comes at any input.
use Rattle.cq_traffic.proofs.Terms.{is_shown, length-arriving, common_steps, ◌≡◌, ℕ, ◌<◌, List, [], ◌∷◌, rules, Some, arith, AllByRecursion, cases_lt, get_or_past, unwrap_or-slice_get, Cell, arrival_at, Arrival, arriving, arriving_at, IsInRange, IsTraffic, arriving_from, option_to_list, found, most_ports, fill_by_all, sym, length-replicate, get_or-replicate, zero, suc, ◌+◌, ◌≤◌, replicate, Option, None, refl, ◌∙◌, min, unwrap_or, ne_eqb, no_arrivals, end_of, arriving_is, all_weaker}
use Rattle.cq_ideal.proofs.FlowLaw.{all_in_range}
use Rattle.cq_ideal.specs.Ranking.{AreForPorts}
use Rattle.cq_cells.specs.NextArrival.{ArrivesIn, IsNextArrival}
use Rattle.cq_traffic.specs.Stretch.{IsQuiet, IsQuietUntil}

-- ## In a slot

-- what is known of the cells that arrive
record Fits (ports classes k : ℕ) (cell : Cell) : Type 0 where
  pub input : k < ports
  pub output : cell.output < ports
  pub class : cell.class < classes

pub one_found : (P : Cell → Type 0) (came : List Arrival) (t k : ℕ) (cell : Cell) →
    AllByRecursion P (found came t k) → arriving_at came t k ≡ Some cell → P cell
unfolding found
one_found P came t k cell all is = grind (arith, common_steps, option_to_list)

arriving_fits : (ports classes : ℕ) (came : List Arrival) (t k : ℕ) (cell : Cell) →
    AllByRecursion (IsInRange ports classes) came → arriving_at came t k ≡ Some cell → Fits ports classes k cell
arriving_fits ports classes [] t k cell all is = absurd (let P : ⊥ = cc in P)
arriving_fits ports classes (a ∷ came) t k cell all is =
    grind (arith, common_steps, arriving_fits ports classes came t k cell all.1)

pub place_of : (came : List Arrival) (t input inputs : ℕ) (cell : Cell) → inputs ≡ most_ports →
    arrival_at (arriving came t) input ≡ Some cell → arriving_at came t input ≡ Some cell
place_of came t input inputs cell are at =
    search (arith, rules, cases_lt input inputs, is_shown input, get_or_past, unwrap_or-slice_get, length-arriving)

pub arrivals_for : (ports classes : ℕ) (came : List Arrival) (t : ℕ) → IsTraffic ports classes came →
    AreForPorts ports classes (arriving came t)
arrivals_for ports classes came t traffic = grind (arith, common_steps, arriving_fits, place_of)

-- and so is what arrives in so many slots
pub slots_fit : (ports classes : ℕ) (came : List Arrival) (slot n : ℕ) → IsTraffic ports classes came →
    AllByRecursion (AreForPorts ports classes) (arriving_from came slot n)
unfolding arriving_from
slots_fit ports classes came slot n traffic = search (rules, all_in_range, arrivals_for)

-- ## Up to the next arrival

not_at : (came : List Arrival) (t i : ℕ) → AllByRecursion (λ a. a.slot ≡ t → ⊥) came → arriving_at came t i ≡ None
not_at [] t i all = refl
not_at (a ∷ came) t i all = grind (arith, common_steps, ne_eqb, not_at came t i)

none_arrive : (came : List Arrival) (t inputs : ℕ) → inputs ≡ most_ports → AllByRecursion (λ a. a.slot ≡ t → ⊥) came →
    arriving came t ≡ replicate inputs None
none_arrive came t inputs are all =
    arriving_is came t inputs are ∙ sym (fill_by_all (arriving_at came t) (replicate inputs None) inputs None
    (length-replicate inputs None) (search (arith, rules, not_at, get_or-replicate)))

pub before_end : (came : List Arrival) (slot : ℕ) → ArrivesIn slot came → slot < end_of came
before_end [] slot at = absurd at
before_end (a ∷ came) slot at = grind (arith, common_steps, before_end came slot)

-- none arrives up to the next arrival, or up to the slot itself
pub quiet_of : {came : List Arrival} {slot next : ℕ} → IsQuietUntil came slot next → IsQuiet came slot next
quiet_of {came} {slot} {next} is = search (arith, rules, cases_lt, none_arrive, all_weaker, before_end)

pub ends_before : (came : List Arrival) (slot : ℕ) → AllByRecursion (λ a. a.slot < slot) came → end_of came ≤ slot
ends_before [] slot all = omega arith
ends_before (a ∷ came) slot all = grind (arith, common_steps, ends_before came slot)

-- what says up to which slot none arrives, where the next arrival is known
pub ruleset next_steps = (ends_before, before_end)

-- up to the next arrival, but no later than the last slot, none arrives
pub none_up_to : (came : List Arrival) (slot last n : ℕ) (next : Option ℕ) → IsNextArrival came slot next →
    n ≡ min (unwrap_or next last) last → (t : ℕ) → slot ≤ t → t < n → arriving came t ≡ no_arrivals
none_up_to came slot last n next at is t from to = search (arith, rules, none_arrive, all_weaker)

pub within_both : (came : List Arrival) (slot last n : ℕ) (next : Option ℕ) → IsNextArrival came slot next →
    slot ≤ last → n ≡ min (unwrap_or next last) last → (slot ≤ n) × (n ≤ last)
within_both came slot last n next at le is = grind (arith, common_steps)

-- and where it is before the last, a cell arrives in it
pub arrives_before : (came : List Arrival) (slot last n : ℕ) (next : Option ℕ) → IsNextArrival came slot next →
    n ≡ min (unwrap_or next last) last → n < last → ArrivesIn n came
arrives_before came slot last n next at is before = grind (arith, common_steps)

-- ## What comes in a stretch

pub quiet_slots : (came : List Arrival) (slot k : ℕ) →
    ((t : ℕ) → slot ≤ t → t < slot + k → arriving came t ≡ no_arrivals) →
    arriving_from came slot k ≡ replicate k no_arrivals
unfolding arriving_from
quiet_slots came slot zero quiet = refl
quiet_slots came slot (suc k) quiet = search (arith, rules, quiet slot, quiet_slots came (slot + 1) k)
