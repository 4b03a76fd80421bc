-- A run with limits is the run without limits of the admitted arrivals: both step through the same slots, and end at
-- the same fault. Where no output has a limit all arrivals are admitted, so it is the run without limits of all
-- arrivals.
use Rattle.cq_ideal.proofs.Terms.{common_steps, rules, arith, ◌≡◌, ℕ, ◌+◌, Bool, List, [], ◌∷◌, map, replicate, Option, Result, Ok, Err, refl, AllByRecursion, Cell, no_arrivals, TagFault, Machine, Marked, NoLimits, RefusesNone, admitted_in, marked, marks_down, nothing_refused, IdealState, Ran, ideal_run, nothing_sent, LimitedSent, LimitedRan, limited_slot, in_front, limited_run, nothing_came, admitted_traffic, unlimited, AreJudged, All-replicate, all_from_has, recursion_from_All}
use Rattle.cq_ideal.proofs.Changed.{map-replicate}
use Rattle.cq_ideal.proofs.Admitted.{no_arrivals_refuse_none, no_limits_refuse_none}

-- a run without limits, as one with limits that refuses none of these arrivals
abbrev pub as_limited : List Bool → List (List (Option Cell)) → Ran → LimitedRan
as_limited marks traffic ran =
    record { admissions = map (nothing_refused marks) traffic; gone = ran.gone; after = marked marks ran.after }

abbrev pub none_refused_ran : List Bool → List (List (Option Cell)) → Result Ran TagFault → Result LimitedRan TagFault
none_refused_ran marks traffic (Ok ran) = Ok (as_limited marks traffic ran)
none_refused_ran marks traffic (Err fault) = Err fault

module _ (limits : List (Option ℕ)) (ms : List Machine) where
  pub run_of_admitted : (slot : ℕ) (traffic : List (List (Option Cell))) (old : Marked IdealState) →
      unlimited (limited_run limits ms slot traffic old) ≡ ideal_run ms slot
      (admitted_traffic limits ms slot traffic old) old.state
  unfolding limited_run admitted_traffic limited_slot ideal_run
  run_of_admitted slot [] old = refl
  run_of_admitted slot (cells ∷ traffic) old = search (arith, rules, run_of_admitted (slot + 1) traffic)

  -- ## One slot of a run

  module _ (slot : ℕ) (cells : List (Option Cell)) (traffic : List (List (Option Cell))) (old : Marked IdealState) where
    pub run_fault : (fault : TagFault) → limited_slot limits ms slot cells old ≡ Err fault →
        limited_run limits ms slot (cells ∷ traffic) old ≡ Err fault
    unfolding limited_run
    run_fault fault is = grind (arith, common_steps)

    pub admitted_step : (sent : LimitedSent) → limited_slot limits ms slot cells old ≡ Ok sent →
        admitted_traffic limits ms slot (cells ∷ traffic) old ≡ sent.admission.cells ∷ admitted_traffic limits ms
        (slot + 1) traffic sent.after
    unfolding admitted_traffic limited_slot
    admitted_step sent is = grind (arith, common_steps)

  -- ## A run that ends without a fault

  -- its first slot, and the run behind it
  first : (slot : ℕ) (cells : List (Option Cell)) (traffic : List (List (Option Cell))) (old : Marked IdealState)
      (ran : LimitedRan) → limited_run limits ms slot (cells ∷ traffic) old ≡ Ok ran →
      (sent : LimitedSent) × (rest : LimitedRan) × (limited_slot limits ms slot cells old ≡ Ok sent)
      × (limited_run limits ms (slot + 1) traffic sent.after ≡ Ok rest) × (ran ≡ in_front sent rest)
  unfolding limited_run
  first slot cells traffic old ran h = grind (arith, common_steps)

  -- each slot was judged
  pub judged : (slot : ℕ) (traffic : List (List (Option Cell))) (old : Marked IdealState) (ran : LimitedRan) →
      limited_run limits ms slot traffic old ≡ Ok ran → AreJudged limits old.marks traffic ran.admissions
  unfolding limited_run limited_slot
  judged slot [] old ran h = grind (arith, common_steps)
  judged slot (cells ∷ traffic) old ran h =
      let p = first slot cells traffic old ran h in
      search (arith, rules, p, judged (slot + 1) traffic p.0.after p.1 p.3)

  -- what was admitted is what its admissions say
  pub admitted_are : (slot : ℕ) (traffic : List (List (Option Cell))) (old : Marked IdealState) (ran : LimitedRan) →
      limited_run limits ms slot traffic old ≡ Ok ran →
      admitted_traffic limits ms slot traffic old ≡ admitted_in ran.admissions
  unfolding limited_run admitted_traffic limited_slot
  admitted_are slot [] old ran h = grind (arith, common_steps)
  admitted_are slot (cells ∷ traffic) old ran h = search (arith, rules, admitted_are (slot + 1) traffic)

  -- so it is the run without limits of these
  pub is_run_of : (slot : ℕ) (traffic : List (List (Option Cell))) (old : Marked IdealState) (ran : LimitedRan) →
      limited_run limits ms slot traffic old ≡ Ok ran →
      ideal_run ms slot (admitted_in ran.admissions) old.state ≡ Ok
      (record { gone = ran.gone; after = ran.after.state })
  is_run_of slot traffic old ran h = cc (admitted_are slot traffic old ran h, run_of_admitted slot traffic old)

  -- ## Where nothing is refused

  module _ (marks : List Bool) where
    pub run_of_none : (slot : ℕ) (traffic : List (List (Option Cell))) (s : IdealState) →
        AllByRecursion (RefusesNone limits marks) traffic →
        limited_run limits ms slot traffic (marked marks s)
        ≡ none_refused_ran marks traffic (ideal_run ms slot traffic s)
    unfolding limited_run ideal_run limited_slot
    run_of_none slot [] s none = refl
    run_of_none slot (cells ∷ traffic) s none = search (arith, rules, run_of_none (slot + 1) traffic)

  pub none_refused_in : (ports : ℕ) (traffic : List (List (Option Cell))) → NoLimits limits →
      AllByRecursion (RefusesNone limits (marks_down ports)) traffic
  none_refused_in ports traffic none = search (arith, rules, all_from_has, no_limits_refuse_none)

-- ## Slots without arrivals

pub none_in : (limits : List (Option ℕ)) (marks : List Bool) (slots : ℕ) →
    AllByRecursion (RefusesNone limits marks) (replicate slots no_arrivals)
none_in limits marks slots =
    recursion_from_All _ _ (All-replicate (RefusesNone limits marks) slots _ (no_arrivals_refuse_none limits marks))

-- many slots in which nothing comes refuse nothing
pub rest_refuses_none : (limits : List (Option ℕ)) (ms : List Machine) (slots slot ports : ℕ) (marks : List Bool)
    (s after : IdealState) → ideal_run ms slot (replicate slots no_arrivals) s ≡ Ok (nothing_sent slots ports after) →
    limited_run limits ms slot (replicate slots no_arrivals) (marked marks s)
    ≡ Ok (nothing_came slots ports (marked marks after))
rest_refuses_none limits ms slots slot ports marks s after ran =
    search (rules, run_of_none limits ms marks slot _ s (none_in limits marks slots), map-replicate)

pub ruleset refuse_none_steps =
    (no_limits_refuse_none, no_arrivals_refuse_none, run_of_none, none_refused_in, common_steps)
