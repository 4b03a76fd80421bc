-- A run that is stopped and goes on is the run. Where it is stopped no later than it ends, its records are the first
-- ones of the run, and the others go on from there to the same end. Where it is stopped later, nothing waits any more
-- and nothing comes, and the slots behind the end add nothing. A tag fault of the run comes behind the slots that were
-- done, for these had none. A run that goes on to an end has a first slot at which it is over, maybe one of those that
-- were done, and the whole run ends there.
use Rattle.cq_resume.proofs.Terms.{common_steps, rules, ◌≡◌, ℕ, zero, suc, ◌+◌, ◌-◌, ◌<◌, ◌≤◌, Bool, List, [], ◌∷◌, ◌++◌, length, take, drop, Option, refl, ◌⊎◌, replicate, append_assoc, length-drop, arith, cases_lt, length-map, map-append, take-append-drop, take_all, flat_map-append, All-replicate, end_of, Cell, arriving_from, refused_in, all_counted_both, none_counted, Fabric, IsEmptyFabric, marked_in, Machine, Switch, Taken, no_arrivals, TagFault, no_arrivals_refuse_none, arriving_length, arriving_parts, quiet_from, IsLimitedFault, LimitedFabricSlot, LimitedRecord, admissions_in, slots_in, quiet_limited_slots, idled, quiet_slots, GoOn, IsOneRun, RunBy, StopBy, all_go_on, departures_on, transfers_both, none_come, run_with, only_limited_run, parts, run_length, arriving, empty_is, adds_nothing, quiet_run, IsInputBest}
use Rattle.cq_ideal.specs.Admission.{Marked}
use Rattle.cq_ideal.proofs.Parted.{none_waits, nothing_left}
use Rattle.cq_ideal.proofs.Waiting.{waiting}
use Rattle.std.proofs.Math.Seq.{take-add}
use Rattle.cq_resume.specs.Parts.{IsOneParted, IsParted, IsWhole, IsWholeFault, PartsJoin, nothing_kept, opening}
use Rattle.cq_resume.specs.Resumed.{AfterFrom, IsOneResumed, IsResumed, IsResumedFault, Kept, RunsOn, kept_in, kept_on}

-- ## What is kept

ruleset kept = (map-append, length-map, departures_on, append_assoc, transfers_both, flat_map-append, all_counted_both)

-- records behind others are kept behind what these left
pub kept_both : (k : Kept) (first next : ℕ) (rs ss : List LimitedRecord) → first + length rs ≡ next →
    kept_on k first (rs ++ ss) ≡ kept_on (kept_on k first rs) next ss
kept_both k first next rs ss long = grind (arith, common_steps, kept)

module _ (ms : List Machine) (n : ℕ) (marks : List Bool) where
  quiet_records : (count slot : ℕ) (ranks : List (List ℕ)) →
      (slots_in (quiet_limited_slots ms count slot n ranks marks) ≡ quiet_slots ms count slot n ranks)
      × (refused_in (admissions_in (quiet_limited_slots ms count slot n ranks marks)) ≡ [])
  quiet_records zero slot ranks = (refl, refl)
  quiet_records (suc count) slot ranks = search (rules, quiet_records count (slot + 1) (idled ms n ranks))

  -- they add nothing
  pub kept_quiet : (k : Kept) (count slot : ℕ) (ranks : List (List ℕ)) →
      kept_on k slot (quiet_limited_slots ms count slot n ranks marks) ≡ k
  kept_quiet k count slot ranks = search (rules, quiet_records, none_counted, adds_nothing ms n count slot ranks)

-- ## From a slot on

module _ (w : Switch) where
  abbrev Step : ℕ → List (Option Cell) → Marked Fabric → LimitedRecord → Marked Fabric → Type 0
  Step = LimitedFabricSlot IsInputBest w.limits w.machines

  abbrev Fault : ℕ → List (Option Cell) → Marked Fabric → TagFault → Type 0
  Fault = IsLimitedFault w.limits w.machines

  -- a square fabric stays one
  run_square : (slot : ℕ) (traffic : List (List (Option Cell))) (f g : Marked Fabric) (rs : List LimitedRecord) →
      RunBy Step slot traffic f rs g → length f.state.buffers ≡ length f.state.inputs →
      length g.state.buffers ≡ length g.state.inputs
  run_square slot (cells ∷ traffic) f g (r ∷ rs) x square =
      grind (arith, common_steps, length-map, run_square (slot + 1) traffic x.0 g rs)
  run_square slot traffic f g rs x square = grind (arith, common_steps)

  one : IsOneRun Step Fault
  one = only_limited_run w.machines w.limits

  on : GoOn Step Fault
  on = all_go_on Step Fault

  -- all records of a run to its end
  whole_run : (next : ℕ) (start end : Marked Fabric) (rs : List LimitedRecord) → RunsOn w next start rs end →
      RunBy Step next (arriving_from w.came next (length rs)) start rs end
  whole_run next start end rs r = grind (arith, common_steps, take_all)

  -- one that runs on passes where another ended
  goes_past : (next n k all at : ℕ) (start middle end : Marked Fabric) (ps rs : List LimitedRecord) → all ≡ n + k →
      at ≡ next + n → RunBy Step next (arriving_from w.came next n) start ps middle →
      RunBy Step next (arriving_from w.came next all) start rs end →
      (take n rs ≡ ps) × RunBy Step at (arriving_from w.came at k) middle (drop n rs) end
  goes_past next n k all at start middle end ps rs many there x y =
      search (arith, rules, one.run, arriving_length, arriving_parts w.came next at n k all, parts Step next)

  -- one that stops does so behind what another has done
  stops_past : (slot n count at : ℕ) (f middle : Marked Fabric) (ps rs : List LimitedRecord) (fault : TagFault) →
      at ≡ slot + n → RunBy Step slot (arriving_from w.came slot n) f ps middle →
      StopBy Step Fault slot (arriving_from w.came slot count) f rs fault →
      (more : ℕ) × (ss : List LimitedRecord) × StopBy Step Fault at (arriving_from w.came at more) middle ss fault
  unfolding arriving_from
  stops_past slot zero count at f middle [] rs fault there x y =
      let here : at ≡ slot = omega arith in (count, rs, rw (here, x) y)
  stops_past slot (suc n) (suc count) at f middle (p ∷ ps) (r ∷ rs) fault there x y =
      search (arith, rules, one.slot slot, stops_past (slot + 1) n count at)
  stops_past slot n count at f middle ps rs fault there x y = grind (arith, common_steps)

  -- of two runs to their ends neither is shorter
  no_longer : (next : ℕ) (start g h : Marked Fabric) (rs ss : List LimitedRecord) → RunsOn w next start rs g →
      RunsOn w next start ss h → length rs ≤ length ss
  no_longer next start g h rs ss r s =
      let same = goes_past next (length ss) (length rs - length ss) (length rs) (next + length ss) start h g ss rs in
      grind (arith, common_steps, r.first, whole_run, cases_lt (length ss) (length rs))

  -- ## There is one answer

  -- a stop is one of more traffic too
  stops_later : (slot a all : ℕ) (f : Marked Fabric) (rs : List LimitedRecord) (fault : TagFault) → a ≤ all →
      StopBy Step Fault slot (arriving_from w.came slot a) f rs fault →
      StopBy Step Fault slot (arriving_from w.came slot all) f rs fault
  unfolding arriving_from
  stops_later slot (suc a) (suc all) f (r ∷ rs) fault le x = search (arith, rules, stops_later (slot + 1) a all x.0 rs)
  stops_later slot a all f rs fault le x = grind (arith, common_steps)

  one_fault : (from : Taken) (u v : TagFault) → IsResumedFault w from u → IsResumedFault w from v → u ≡ v
  one_fault from u v x y =
      let n = x.count + y.count in
      search (arith, rules, stops_later from.frozen.next x.count n, stops_later from.frozen.next y.count n, one.stop)

  -- where nothing comes no rank is a tag fault
  quiet_stop : (count slot : ℕ) (f : Marked Fabric) (rs : List LimitedRecord) (fault : TagFault) →
      StopBy Step Fault slot (replicate count no_arrivals) f rs fault → ⊥
  quiet_stop (suc count) slot f (r ∷ rs) fault x = quiet_stop count (slot + 1) x.0 rs fault x.2
  quiet_stop count slot f rs fault x = grind (arith, common_steps, no_arrivals_refuse_none)

  never_both : (from : Taken) (k : Kept) (fault : TagFault) → IsResumed w from k → IsResumedFault w from fault → ⊥
  never_both from k fault x y =
      let past = stops_past from.frozen.next (length x.records) y.count _ _ x.end x.records y.records fault refl
      (whole_run from.frozen.next _ x.end x.records x.runs) y.stops in
      search (arith, rules, quiet_stop, quiet_from w.came past.0 _ x.runs.all_came)

  one_kept : (from : Taken) (k l : Kept) → IsResumed w from k → IsResumed w from l → k ≡ l
  one_kept from k l x y = grind (arith, common_steps, one.run, whole_run, no_longer)

  -- ## Where a run is over

  over_or_not : (next : ℕ) (f : Fabric) →
      ((end_of w.came ≤ next) × IsEmptyFabric f) ⊎ (end_of w.came ≤ next → IsEmptyFabric f → ⊥)
  over_or_not next f =
      let waits = cases_lt 0 ((end_of w.came - next) + waiting f.inputs + waiting f.buffers) in
      search (arith, rules, none_waits, nothing_left, waits)

  -- a run to its end, with a slot ahead of it before which it was not over
  module _ (next : ℕ) (start middle end : Marked Fabric) (r : LimitedRecord) (rs : List LimitedRecord)
      (step : Step next (arriving w.came next) start r middle) (on : RunsOn w (next + 1) middle rs end)
      (more : end_of w.came ≤ next → IsEmptyFabric start.state → ⊥) where
    no_sooner : (m : ℕ) (s : Marked Fabric) → AfterFrom w next start (r ∷ rs) m s → end_of w.came ≤ next + m →
        IsEmptyFabric s.state → suc (length rs) ≤ m
    unfolding arriving_from
    no_sooner zero s after late empty = absurd (more (omega arith) (rw after at empty))
    no_sooner (suc m) s after late empty = grind (arith, common_steps, one.slot, on.first)

    slot_ahead : RunsOn w next start (r ∷ rs) end
    unfolding arriving_from
    slot_ahead = grind (arith, common_steps, no_sooner)

  -- a run that is over somewhere has an end
  ends : (n next : ℕ) (start over : Marked Fabric) (rs : List LimitedRecord) →
      RunBy Step next (arriving_from w.came next n) start rs over → end_of w.came ≤ next + n →
      IsEmptyFabric over.state →
      (records : List LimitedRecord) × (end : Marked Fabric) × RunsOn w next start records end
  unfolding arriving_from
  ends (suc n) next start over (r ∷ rs) run late empty =
      search (arith, rules, slot_ahead, over_or_not next start.state, ends n (next + 1) run.0 over)
  ends n next start over rs run late empty = grind (arith, common_steps)

  -- where a run is over it stays over, and later slots add nothing
  stays_over : (n slot : ℕ) (f g : Marked Fabric) (rs : List LimitedRecord) → end_of w.came ≤ slot →
      IsEmptyFabric f.state → length f.state.buffers ≡ length f.state.inputs →
      RunBy Step slot (arriving_from w.came slot n) f rs g →
      IsEmptyFabric g.state × ((k : Kept) → kept_on k slot rs ≡ k)
  stays_over n slot f g rs late empty square run =
      let ports = length f.state.inputs in
      let still = run_with IsInputBest w.limits w.machines f.marks slot _ _ _ _
      (none_come IsInputBest w.limits w.machines f.marks n) (quiet_run w.machines n slot ports f.state.ranks) in
      let adds = λ (k : Kept). kept_quiet w.machines ports f.marks k n slot f.state.ranks in
      search (arith, rules, quiet_from, empty_is, one.run, All-replicate, adds)

  -- ## A run that was stopped

  module _ (ranks : List (List ℕ)) (slots : ℕ) (at : Taken) (part : IsParted w ranks slots at) where
    abbrev start : Marked Fabric
    start = opening w ranks

    abbrev there : Marked Fabric
    there = marked_in at.frozen

    -- what goes on from there is one run with what was done
    join : (n : ℕ) (rs : List LimitedRecord) (end : Marked Fabric) →
        RunBy Step slots (arriving_from w.came slots n) there rs end →
        RunBy Step 0 (arriving_from w.came 0 (slots + n)) start (part.records ++ rs) end
    join n rs end run = search (arith, rules, arriving_length, arriving_parts w.came 0 slots slots n, on.run)

    module _ (rs : List LimitedRecord) (end : Marked Fabric) (runs : RunsOn w 0 start rs end) where
      -- stopped no later than at its end
      module _ (within : slots ≤ length rs) where
        rest : RunsOn w slots there (drop slots rs) end × (rs ≡ part.records ++ drop slots rs)
        rest =
            let past = goes_past 0 slots (length rs - slots) (length rs) slots start there end part.records rs in
            let sum = λ (m : ℕ). take-add slots m rs in
            search (arith, rules, past, take_all, sum, runs.all_came, join, length-drop, take-append-drop, whole_run)

      -- stopped behind its end
      behind : length rs < slots → RunsOn w slots there [] there
          × (kept_on (nothing_kept w) 0 rs ≡ kept_on (kept_in at) slots [])
      unfolding arriving_from
      behind more =
          let n = length rs in
          let run = whole_run 0 start end rs runs in
          let past = goes_past 0 n (slots - n) slots n start end there rs part.records (omega arith) (omega arith) run
          part.runs in
          let late = runs.all_came in
          let still = stays_over (slots - n) n end there (drop n part.records) (omega arith) runs.empty
          (run_square 0 (arriving_from w.came 0 n) start end rs run refl) past.1 in
          let joined = kept_both (nothing_kept w) 0 n rs (drop n part.records) (omega arith) in
          let none = kept_quiet w.machines 0 [] (kept_in at) 0 slots [] in
          let kept = still.1 (kept_on (nothing_kept w) 0 rs) in
          let stands : RunsOn w slots there [] there = record {
            after = refl;
            all_came = omega arith;
            empty = still.0;
            first = λ m s after late over. omega arith;
          } in (stands, cc (take-append-drop n part.records, part.kept))

    -- ## The laws

    pub part_resumes : (whole : Kept) → IsWhole w ranks whole → IsResumed w at whole
    part_resumes whole is =
        let goes = rest is.records is.end is.runs in
        let joined = kept_both (nothing_kept w) 0 slots in
        let late = behind is.records is.end is.runs in
        search (arith, rules, goes, late, run_length, arriving_length, joined, cases_lt (length is.records) slots)

    pub part_is_run : (kept whole : Kept) → IsResumed w at kept → IsWhole w ranks whole → kept ≡ whole
    part_is_run kept whole resumed is = one_kept at kept whole resumed (part_resumes whole is)

    pub part_is_whole : (kept : Kept) → IsResumed w at kept → IsWhole w ranks kept
    part_is_whole kept resumed =
        let n = length resumed.records in search (rules, part_is_run, join n, ends (slots + n) 0 start resumed.end)

    -- a fault that is met later is met from there
    pub part_fault : (fault : TagFault) → IsWholeFault w ranks fault → IsResumedFault w at fault
    part_fault fault is = search (arith, rules, stops_past 0 slots is.count at.frozen.next start there part.records)

    pub part_fault_back : (fault : TagFault) → IsResumedFault w at fault → IsWholeFault w ranks fault
    part_fault_back fault is =
        let cut = arriving_parts w.came 0 slots slots is.count (slots + is.count) (omega arith) refl in
        let both = on.stop 0 (arriving_from w.came 0 slots) (arriving_from w.came slots is.count) start there
        part.records is.records fault part.runs in search (arith, rules, arriving_length)

pub parts_join : PartsJoin
parts_join = search (rules, part_is_run, part_resumes, part_is_whole, part_fault, part_fault_back)

pub one_resumed : IsOneResumed
one_resumed = record { kept = one_kept; fault = one_fault; never_both = never_both }

pub one_part : IsOneParted
one_part = record {
  at = λ w ranks slots a b x y. search (arith, rules, (one w).run);
  fault = λ w ranks slots u v x y. search (rules, (one w).stop);
  never_both = λ w ranks slots at fault x y. search (rules, (one w).never_both);
}
