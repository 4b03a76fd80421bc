-- The slots of a run are enough. Count the cells that wait, in all lists together, and those that are still to come.
-- A slot makes the first count greater by no more than the cells that come, and if then any cell waits, one at least
-- is sent. So after the last slot with an arrival no more cells wait than came in all, and each later slot takes one
-- of them. Slots that are enough are enough with limits: no more cells are admitted in a slot than come, and there are
-- as many slots.
use Rattle.cq_ideal.proofs.Terms.{◌≡◌, ℕ, zero, suc, ◌≤◌, Bool, List, [], ◌∷◌, length, drop, Option, refl, ap, arith, ◌+◌, replicate, Ok, common_steps, IfOk, Cell, Arrival, traffic_of, arriving, enough, Machine, Admission, admitted, admitted_in, empty_limited, limited_run, AreJudged, no_arrivals, IdealState, IsEmptyIdeal, Ran, ideal_run, empty_ideal, most_ports, rules, All-replicate, end_of, Result, TagFault}
use Rattle.cq_ideal.proofs.Admitted.{its_marks}
use Rattle.cq_ideal.proofs.Parted.{all_slots, arriving_length, none_waits, nothing_left, first_slot}
use Rattle.cq_ideal.proofs.FlowCount.{none_arrive, come_count-traffic_of, quiet_from}
use Rattle.cq_ideal.proofs.FlowStands.{present, only_ok}
use Rattle.cq_ideal.proofs.FlowRun.{come_count}
use Rattle.cq_ideal.proofs.LimitedRuns.{is_run_of, judged}
use Rattle.cq_ideal.proofs.Waiting.{counted, waiting}

-- Where after some slot nothing comes any more, and as many slots follow as cells came in all, each of these takes
-- one cell that waits, so none is left.
empties : (ms : List Machine) (traffic : List (List (Option Cell))) (slot e : ℕ) (s : IdealState) (ran : Ran) →
    ideal_run ms slot traffic s ≡ Ok ran → come_count (drop e traffic) ≡ 0 →
    waiting s.lists + come_count traffic + e ≤ length traffic → waiting ran.after.lists ≡ 0
unfolding ideal_run come_count
empties ms [] slot e s ran is quiet enough = grind (arith, common_steps, waiting, only_ok)
empties ms (cells ∷ traffic) slot zero s ran is quiet enough =
    search (arith, rules, first_slot, counted ms slot cells s, empties ms traffic (slot + 1) zero)
empties ms (cells ∷ traffic) slot (suc e) s ran is quiet enough =
    search (arith, rules, first_slot, counted ms slot cells s, empties ms traffic (slot + 1) e)

-- ## What is admitted

pub fewer : (marks : List Bool) (cells : List (Option Cell)) →
    length (present (admitted marks cells)) ≤ length (present cells)
fewer [] cells = omega arith
fewer (mark ∷ marks) cells = grind (arith, common_steps, fewer marks)

-- no more comes than in that traffic, from any of as many slots on
pub no_more : (limits : List (Option ℕ)) (marks : List Bool) (traffic : List (List (Option Cell)))
    (admissions : List Admission) → AreJudged limits marks traffic admissions → (e : ℕ) →
    (come_count (drop e (admitted_in admissions)) ≤ come_count (drop e traffic))
    × (length (admitted_in admissions) ≡ length traffic)
unfolding come_count
no_more limits marks (cells ∷ traffic) (a ∷ admissions) judged zero =
    let is = (its_marks limits marks cells a judged.0).1 in
    grind (arith, common_steps, fewer a.marks cells, no_more limits a.marks traffic admissions judged.1 zero)
no_more limits marks (cells ∷ traffic) (a ∷ admissions) judged (suc e) =
    let rest = no_more limits a.marks traffic admissions judged.1 e in (rest.0, ap suc rest.1)
no_more limits marks traffic admissions judged e = grind (arith, common_steps)

-- ## As many slots as are enough

pub waiting-empty : (ports : ℕ) → waiting (replicate ports []) ≡ 0
waiting-empty ports = search (arith, rules, none_waits, All-replicate)

if_ok : {A : Type 0} (P : A → Type 0) (x : Result A TagFault) → ((a : A) → x ≡ Ok a → P a) → IfOk x P
if_ok P fault f = grind (arith, common_steps)

-- where no more comes than these arrivals
emptied : (ms : List Machine) (ports : ℕ) (ranks : List (List ℕ)) (came : List Arrival)
    (traffic : List (List (Option Cell))) (ran : Ran) → ideal_run ms 0 traffic (empty_ideal ports ranks) ≡ Ok ran →
    ((e : ℕ) → (come_count (drop e traffic) ≤ come_count (drop e (traffic_of came)))
    × (length traffic ≡ length (traffic_of came))) → IsEmptyIdeal ran.after
unfolding enough traffic_of
emptied ms ports ranks came traffic ran is less =
    let quiet = quiet_from came (end_of came) 0 (enough came) (omega arith) in
    let few = come_count-traffic_of came in
    let slots = arriving_length came 0 (enough came) in
    search (arith, rules, less zero, less, all_slots came, quiet, nothing_left, empties, waiting-empty)

pub empty_at_end : (ms : List Machine) (ports : ℕ) (ranks : List (List ℕ)) (came : List Arrival) →
    IfOk (ideal_run ms 0 (traffic_of came) (empty_ideal ports ranks)) (λ ran. IsEmptyIdeal ran.after)
empty_at_end ms ports ranks came = search (arith, rules, emptied ms ports ranks came)

pub none_after_end : (came : List Arrival) (t : ℕ) → enough came ≤ t → arriving came t ≡ no_arrivals
unfolding enough
none_after_end came t h = none_arrive came t most_ports refl (omega arith)

pub limited_empty_at_end : (limits : List (Option ℕ)) (ms : List Machine) (ports : ℕ) (ranks : List (List ℕ))
    (came : List Arrival) →
    IfOk (limited_run limits ms 0 (traffic_of came) (empty_limited ports ranks)) (λ ran. IsEmptyIdeal ran.after.state)
limited_empty_at_end limits ms ports ranks came = if_ok _ _ (λ ran is.
    emptied ms ports ranks came _ _ (is_run_of limits ms 0 _ _ ran is)
    (no_more limits _ _ _ (judged limits ms 0 _ _ ran is)))
