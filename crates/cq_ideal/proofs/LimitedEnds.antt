-- Runs with limits, in parts, and where they end. A run is its first slots, and the run that goes on where they end.
-- Once no cell is to come and none waits, it sends nothing, and refuses nothing. As many slots as are enough end with
-- empty lists, so there is a least number of slots after which no cell is to come and none waits. A switch without
-- limits is one with limits that refuses nothing, so its run ends where that one's does.
use Rattle.cq_ideal.proofs.Terms.{rules, ◌≡◌, ℕ, ◌+◌, ◌-◌, ◌≤◌, Bool, true, List, [], ◌∷◌, ◌++◌, length, Option, Result, Ok, Err, refl, sym, ap, ◌∙◌, arith, common_steps, flat_map-append, IsOkAnd, position_or_len, range_with_len, cases_lt, append-nil, get_or-range_with_len, length-range_with_len, fails_before_first, passes_at_first, prefix_len-le-length, Arrival, Cell, end_of, enough, traffic_of, TagFault, Machine, Marked, NoLimits, marked, marks_down, IdealEnds, arriving_from, first_slots, is_over, slots_of_run, whole_ideal_run, IsEmptyIdeal, Ran, departures_of, departures_ran, empty_ideal, ideal_run, IdealState, LimitedIdealEnds, departures_limited, slots_of_limited_run, whole_limited_run, LimitedRan, empty_limited, limited_run, unlimited, refused_in, and_from, le-leb, list_all-from_AllPass, eq-eqb, replicate, zero, suc, None, no_arrivals, Queued, Admission, nothing_refused, departures_from, departures_in, nothing_came}
use Rattle.cq_ideal.proofs.Parted.{all_slots, none_waits, over_from_test, arriving_length, arriving_parts, departures_append, nothing_left, quiet_from}
use Rattle.cq_ideal.proofs.EnoughSlots.{limited_empty_at_end}
use Rattle.cq_ideal.proofs.LimitedRuns.{as_limited, none_refused_in, none_refused_ran, run_of_none, rest_refuses_none}
use Rattle.cq_ideal.proofs.Resting.{all_empty, idle_run}
use Rattle.cq_ideal.proofs.Waiting.{waiting}

-- a run, with what came of the slots before it
abbrev pub behind : List Admission → List (List (Option Queued)) → Result LimitedRan TagFault →
    Result LimitedRan TagFault
behind admissions gone (Ok ran) =
    Ok (record { admissions = admissions ++ ran.admissions; gone = gone ++ ran.gone; after = ran.after })
behind admissions gone (Err fault) = Err fault

pub no_departures : (n slot j : ℕ) → departures_from slot j (replicate n None) ≡ []
no_departures zero slot j = refl
no_departures (suc n) slot j = no_departures n slot (j + 1)

pub none_departs : (ports n slot : ℕ) → departures_of slot (replicate n (replicate ports None)) ≡ []
unfolding departures_of departures_in
none_departs ports zero slot = refl
none_departs ports (suc n) slot =
    grind (arith, common_steps, no_departures ports slot 0, none_departs ports n (slot + 1))

refuse_none : (marks : List Bool) (n : ℕ) → refused_in (replicate n (nothing_refused marks no_arrivals)) ≡ []
refuse_none marks zero = refl
refuse_none marks (suc n) = refuse_none marks n

module _ (limits : List (Option ℕ)) (ms : List Machine) where
  -- a run, and then the slots from this one on
  abbrev pub limited_going_on : ℕ → List (List (Option Cell)) → Result LimitedRan TagFault → Result LimitedRan TagFault
  limited_going_on slot traffic (Ok ran) = behind ran.admissions ran.gone (limited_run limits ms slot traffic ran.after)
  limited_going_on slot traffic (Err fault) = Err fault

  pub limited_parts : (slot n : ℕ) (before after : List (List (Option Cell))) (s : Marked IdealState) →
      n ≡ slot + length before →
      limited_run limits ms slot (before ++ after) s ≡ limited_going_on n after (limited_run limits ms slot before s)
  unfolding limited_run
  limited_parts slot n [] after s e = grind (arith, common_steps)
  limited_parts slot n (cells ∷ before) after s e =
      grind (arith, common_steps, limited_parts (slot + 1) n before after)

  -- ## Nothing comes, and nothing waits

  pub record LimitedStaysEmpty (came : List Arrival) (slot n : ℕ) (s : Marked IdealState) : Type 0 where
    pub ran : LimitedRan
    pub is : limited_run limits ms slot (arriving_from came slot n) s ≡ Ok ran
    pub none : departures_of slot ran.gone ≡ []
    pub refused : refused_in ran.admissions ≡ []

  pub limited_stays_empty : (came : List Arrival) (n slot : ℕ) (s : Marked IdealState) → end_of came ≤ slot →
      waiting s.state.lists ≡ 0 → LimitedStaysEmpty came slot n s
  limited_stays_empty came n slot s le none =
      let ports = length s.state.lists in
      let idle = idle_run ms ports n slot s.state.ranks in
      let state = all_empty s.state ports (nothing_left s.state.lists none) refl in
      let is : limited_run limits ms slot (arriving_from came slot n) s
      ≡ Ok (nothing_came n ports (marked s.marks (empty_ideal ports idle.0))) =
      search (arith, rules, quiet_from, rest_refuses_none limits ms n slot ports s.marks s.state, idle) in
      search (arith, rules, none_departs, refuse_none)

pub limited_test : (came : List Arrival) (n : ℕ) (x : Result LimitedRan TagFault) (s : Marked IdealState) →
    IsOkAnd x (λ ran. ran.after ≡ s) → end_of came ≤ n → IsEmptyIdeal s.state → is_over came n (unlimited x) ≡ true
limited_test came n x s e le empty =
    grind (arith, common_steps, and_from, le-leb, list_all-from_AllPass, eq-eqb)

ran_from : (x : Result LimitedRan TagFault) (s : Marked IdealState) → IsOkAnd x (λ ran. ran.after ≡ s) →
    (ran : LimitedRan) × (x ≡ Ok ran)
ran_from fault s e = grind (arith, common_steps)

-- a run sends in as many slots as it has
pub gone_long : (limits : List (Option ℕ)) (ms : List Machine) (slot : ℕ) (traffic : List (List (Option Cell)))
    (old : Marked IdealState) (ran : LimitedRan) → limited_run limits ms slot traffic old ≡ Ok ran →
    length ran.gone ≡ length traffic
unfolding limited_run
gone_long limits ms slot [] old ran is = grind (arith, common_steps)
gone_long limits ms slot (cells ∷ traffic) old ran is = search (arith, rules, gone_long limits ms (slot + 1) traffic)

module _ (limits : List (Option ℕ)) (ms : List Machine) (ports : ℕ) (ranks : List (List ℕ)) (came : List Arrival) where
  -- the run over the first n slots
  abbrev pub run_to : ℕ → Result LimitedRan TagFault
  run_to n = limited_run limits ms 0 (first_slots came n) (empty_limited ports ranks)

  abbrev pub over : ℕ → Bool
  over n = is_over came n (unlimited (run_to n))

  abbrev pub last : ℕ
  last = slots_of_limited_run limits ms came (empty_limited ports ranks)

  pub limited_not_more : last ≤ enough came
  unfolding slots_of_limited_run
  limited_not_more = grind (arith, common_steps, prefix_len-le-length, length-range_with_len)

  pub least : (m : ℕ) → over m ≡ true → last ≤ m
  unfolding slots_of_limited_run
  least m is =
      let at = get_or-range_with_len 0 (enough came) m 0 in
      grind (arith, common_steps, cases_lt m last, limited_not_more, at, fails_before_first over)

  -- what is known where the run of so many slots meets no fault
  pub limited_over_at_end : (ran : LimitedRan) → run_to last ≡ Ok ran →
      (end_of came ≤ last) × IsEmptyIdeal ran.after.state
  unfolding enough slots_of_limited_run
  limited_over_at_end ran is =
      let all = limited_empty_at_end limits ms ports ranks came in
      let same = all_slots came in
      let passes = passes_at_first over (range_with_len 0 (enough came)) 0 in
      let at = get_or-range_with_len 0 (enough came) last 0 in
      let long = length-range_with_len 0 (enough came) in
      grind (arith, common_steps, over_from_test came last ran, limited_not_more)

  pub at_ok : (x : Result LimitedRan TagFault) (ran : LimitedRan) → x ≡ Ok ran → IsOkAnd x (λ r. r.after ≡ ran.after)
  at_ok x ran is = grind (arith, common_steps)

  pub limited_ends : (ran : LimitedRan) → whole_limited_run limits ms came (empty_limited ports ranks) ≡ Ok ran →
      LimitedIdealEnds limits ms came (empty_limited ports ranks) last ran.after
  unfolding whole_limited_run
  limited_ends ran is = search (arith, rules, at_ok, limited_test, least, limited_over_at_end ran is)

  -- ## More slots, and fewer

  goes_on : (n k m : ℕ) → m ≡ n + k → run_to m ≡ limited_going_on limits ms n (arriving_from came n k) (run_to n)
  goes_on n k m e = search (arith, rules, arriving_length, arriving_parts came 0 n n k m, limited_parts limits ms 0 n)

  -- the first slots of a run that meets no fault, and the others
  pub record Halves (m n : ℕ) (ran : LimitedRan) : Type 0 where
    pub first : LimitedRan
    pub second : LimitedRan
    pub ran_first : run_to m ≡ Ok first
    pub ran_second : limited_run limits ms m (arriving_from came m (n - m)) first.after ≡ Ok second
    pub gone : ran.gone ≡ first.gone ++ second.gone

  pub cut_at : (m n : ℕ) (ran : LimitedRan) → m ≤ n → run_to n ≡ Ok ran → Halves m n ran
  cut_at m n ran le is = let on = goes_on m (n - m) n (omega arith) in grind (arith, common_steps)

  pub limited_found_end : (n : ℕ) (end : Marked IdealState) →
      LimitedIdealEnds limits ms came (empty_limited ports ranks) n end → last ≡ n
  limited_found_end n end y =
      let le = least n (limited_test came n (run_to n) end y.after y.all_came y.empty) in
      let o = ran_from (run_to n) end y.after in
      let f = cut_at last n o.0 le o.1 in
      search (arith, rules, y.first last f.first.after, at_ok, limited_over_at_end f.first)

  -- the run over so many slots sends and refuses what the one up to the end does, or meets its fault
  abbrev pub Settled : ℕ → Result LimitedRan TagFault → Type 0
  Settled m (Err fault) = run_to m ≡ Err fault
  Settled m (Ok ran) =
      (all : LimitedRan) × (run_to m ≡ Ok all) × (departures_of 0 all.gone ≡ departures_of 0 ran.gone)
      × (refused_in all.admissions ≡ refused_in ran.admissions)

  -- once it is over a run goes on, and sends and refuses nothing
  pub settled : (m : ℕ) (x : Result LimitedRan TagFault) → last ≤ m → run_to last ≡ x → Settled m x
  settled m (Err fault) le is = search (arith, rules, goes_on last (m - last) m)
  settled m (Ok ran) le is =
      let over = limited_over_at_end ran is in
      let none = none_waits ran.after.state.lists over.1 in
      let quiet = limited_stays_empty limits ms came (m - last) last ran.after over.0 none in
      let many = gone_long limits ms 0 (first_slots came last) _ ran is ∙ arriving_length came 0 last in
      let on = goes_on last (m - last) m (omega arith) in
      search (arith, rules, on, departures_append, append-nil (departures_of 0 ran.gone), flat_map-append)

  -- a fault in some slots is one of the whole run
  pub limited_whole_fault : (n : ℕ) (fault : TagFault) →
      limited_run limits ms 0 (first_slots came n) (empty_limited ports ranks) ≡ Err fault →
      whole_limited_run limits ms came (empty_limited ports ranks) ≡ Err fault
  unfolding whole_limited_run
  limited_whole_fault n fault is =
      search (arith, rules, goes_on n (last - n) last, settled n (run_to last), cases_lt n last)

  pub limited_same_sent : departures_limited (limited_run limits ms 0 (traffic_of came) (empty_limited ports ranks))
      ≡ departures_limited (whole_limited_run limits ms came (empty_limited ports ranks))
  unfolding whole_limited_run
  limited_same_sent =
      search (arith, rules, common_steps, all_slots came, settled (enough came) (run_to last) limited_not_more refl)

-- ## Without limits

module _ (limits : List (Option ℕ)) (ms : List Machine) (ports : ℕ) (ranks : List (List ℕ)) (came : List Arrival)
    (none : NoLimits limits) where
  same_runs : (n : ℕ) → unlimited (limited_run limits ms 0 (first_slots came n) (empty_limited ports ranks))
      ≡ ideal_run ms 0 (first_slots came n) (empty_ideal ports ranks)
  same_runs n = grind (arith, common_steps, run_of_none, none_refused_in)

  pub slots_as_before : slots_of_limited_run limits ms came (empty_limited ports ranks)
      ≡ slots_of_run ms came (empty_ideal ports ranks)
  unfolding slots_of_limited_run slots_of_run
  slots_as_before = λ k. position_or_len (λ n. is_over came n (same_runs n k)) (range_with_len 0 (enough came))

  pub run_as_before : unlimited (whole_limited_run limits ms came (empty_limited ports ranks))
      ≡ whole_ideal_run ms came (empty_ideal ports ranks)
  unfolding whole_limited_run whole_ideal_run
  run_as_before = cc (same_runs (slots_of_limited_run limits ms came (empty_limited ports ranks)), slots_as_before)

-- ## The switch without limits

pub no_limit : NoLimits []
no_limit j = refl

module _ (ms : List Machine) (ports : ℕ) (ranks : List (List ℕ)) (came : List Arrival) where
  abbrev plain_run : ℕ → Result Ran TagFault
  plain_run n = ideal_run ms 0 (first_slots came n) (empty_ideal ports ranks)

  abbrev limited : ℕ → Result LimitedRan TagFault
  limited n = limited_run [] ms 0 (first_slots came n) (empty_limited ports ranks)

  refusing_none : (n : ℕ) (x : Result Ran TagFault) → plain_run n ≡ x →
      limited n ≡ none_refused_ran (marks_down ports) (first_slots came n) x
  refusing_none n x is = grind (arith, common_steps, run_of_none, none_refused_in, no_limit)

  pub not_more : slots_of_run ms came (empty_ideal ports ranks) ≤ enough came
  not_more = let same = slots_as_before [] ms ports ranks came no_limit in omega (arith, limited_not_more)

  pub whole_as : (ran : Ran) → whole_ideal_run ms came (empty_ideal ports ranks) ≡ Ok ran →
      whole_limited_run [] ms came (empty_limited ports ranks)
      ≡ Ok (as_limited (marks_down ports) (first_slots came (slots_of_run ms came (empty_ideal ports ranks))) ran)
  unfolding whole_limited_run whole_ideal_run
  whole_as ran is = ap limited (slots_as_before [] ms ports ranks came no_limit) ∙ refusing_none _ (Ok ran) is

  pub ends : (ran : Ran) → whole_ideal_run ms came (empty_ideal ports ranks) ≡ Ok ran →
      IdealEnds ms came (empty_ideal ports ranks) (slots_of_run ms came (empty_ideal ports ranks)) ran.after
  unfolding whole_ideal_run
  ends ran is =
      let same = slots_as_before [] ms ports ranks came no_limit in
      let y = limited_ends [] ms ports ranks came _ (whole_as ran is) in
      record {
        after = search (arith, rules);
        all_came = rw same at y.all_came;
        empty = y.empty;
        first = λ m s. search (rules, same, refusing_none m (plain_run m), y.first m (marked (marks_down ports) s));
      }

  pub found_end : (n : ℕ) (end : IdealState) → IdealEnds ms came (empty_ideal ports ranks) n end →
      slots_of_run ms came (empty_ideal ports ranks) ≡ n
  found_end n end y =
      let its : LimitedIdealEnds [] ms came (empty_limited ports ranks) n (marked (marks_down ports) end) = record {
        after = search (arith, rules, refusing_none n (plain_run n) refl);
        all_came = y.all_came;
        empty = y.empty;
        first = λ m s. search (arith, rules, y.first m s.state, same_runs [] ms ports ranks came no_limit m);
      } in
      search (arith, rules, slots_as_before [] ms, no_limit, limited_found_end [] ms, its)

  -- what a run of more slots says of one of fewer
  pub fewer_slots : (m n : ℕ) (ran : Ran) → m ≤ n → plain_run n ≡ Ok ran → (first : Ran) × (plain_run m ≡ Ok first)
  fewer_slots m n ran le is =
      grind (arith, common_steps, cut_at [] ms ports ranks came m n _ le (refusing_none n (Ok ran) is), same_runs [] ms)

  pub whole_fault : (n : ℕ) (fault : TagFault) → plain_run n ≡ Err fault →
      whole_ideal_run ms came (empty_ideal ports ranks) ≡ Err fault
  whole_fault n fault is = sym (run_as_before [] ms ports ranks came no_limit)
      ∙ ap unlimited (limited_whole_fault [] ms ports ranks came n fault (refusing_none n (Err fault) is))

  pub same_sent : departures_ran (ideal_run ms 0 (traffic_of came) (empty_ideal ports ranks)) ≡ departures_ran
      (whole_ideal_run ms came (empty_ideal ports ranks))
  same_sent =
      let whole = run_as_before [] ms ports ranks came no_limit in
      let all = same_runs [] ms ports ranks came no_limit (enough came) in
      search (arith, rules, common_steps, all_slots came, limited_same_sent [] ms ports ranks)

pub ruleset more_slots_steps = (not_more, whole_fault, same_sent)

pub ruleset more_limited_slots_steps = (limited_not_more, limited_whole_fault, limited_same_sent)
