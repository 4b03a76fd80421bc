-- All of it together: what a stopped run of a configured switch leaves is told by a state that can be taken up: its
-- numbers are in range, it is sound, and it comes to what was left: the fabric and the departures, as each name tells
-- of its cell; the figures, since as many names are of an input as cells came to it; and the marks and the counts,
-- since the walk over the arrivals of each input ends with its mark, and those that are not named are, counted by any
-- test, those that were refused. The text of that state is read as what was left, so what goes on from there is the
-- run.
use Rattle.cq_stopped.proofs.Terms.{recursion_from_All, get_or_default, come_count-first, IsCount, IsInputBest, recorded, slots_of_figures, rules, ◌≡◌, ℕ, ◌-◌, ◌<◌, ◌≤◌, ◌^◌, List, [], ◌∷◌, length, map, fold, max, sym, ap, ◌∙◌, arith, common_steps, length-map, length-map-range_with_len, AllByRecursion, enumerate_from, flat_map, Queued, Scheduled, arriving_from, departures_of, Fabric, cushion_of, input, SlotRecord, fabric_in, marked_in, LimitedRecord, slots_in, figures_of, input_figures, slacks, gone_in, list_of, each_pair, all_both, Differ, Has, all_from_has, all_of_has, has_image, has_left, has_right, image_has, figures_told, frozen_told, taken_of, opening, IsWhole, IsParted, seen_as, sent_as, state_of, IsRead, Kept, Runs, Switch, switch_of, named_in, queued_in, Taken, Tables, openings_of, AreRankNumbers, IsInRange, IsNamed, IsSeen, IsSent, state_text, Named, Sent, State, told_state, CanBeTakenUp, StoppedRunsAreSound, few_kept, of_images, all_weaker, written_in_run, arriving_length, counts_more, figures_fold, stable_limited_too, empty_list, limited_numbered, IsFabricRun, all_made, all_give, length-replicate, ◌==◌, Bool, Some, false, filter, refl, get_or-map, get_or-replicate, range_with_len, Cell, mark_at, refused_counts, refused_in, with_refused, fabric_judged, admissions_in, coming, has_name, unnamed, AreWholePackets, Name, refused_here, Refused, whole, all_stand, tallies_up, packets_alike, tally_is, IsTally, cells_in, all_arriving, all_in_range, all_judged, kinds_summed, tests_turned, kept_has, as_name, has_as_name}
use Rattle.cq_audit.proofs.Following.{run_within as of_its_slots}
use Rattle.cq_resume.proofs.Cut.{filter_both}
use Rattle.cq_resume.proofs.Joining.{parts_join as join}
use Rattle.cq_resume.proofs.OneAnswer.{read_exact}
use Rattle.cq_stopped.proofs.Ran.{least_of, AreLow, IsConfigured, configured, Known, came_in, came_of}
use Rattle.cq_stopped.proofs.Lined.{AreMoved, inputs_same, names_counted, output_same, by_places, Walks, counted_flat, same_counts, walked}
use Rattle.cq_stopped.proofs.Standing.{is_of_one, state_sized, states_many, fabric_same, sent_same, arrivals_are, named_at, below_floors, keep_order, stand_in_order, has_shape, slack_kept}
use Rattle.cq_stopped.proofs.Stepping.{none_first, most_of_all, IsRecordedWithin, Ended, known_first, run_known}
use Rattle.cq_ideal.proofs.AtInput.{of_input, refused_are as refused_of_input, stand_in}
use Rattle.cq_resume.proofs.Adding.{Tallied, left_before, mark_at as walk_mark}
use Rattle.cq_stopped.specs.Read.{kept_in_run, ReadRunsGoOn, StoppedRunsAreRead}

-- ## Figures of inputs

most_few : (a : ℕ) (ns : List ℕ) → IsCount a → AllByRecursion IsCount ns → IsCount (fold max a ns)
most_few a [] le all = le
most_few a (n ∷ ns) le all = most_few (max a n) ns (omega arith) all.1

cushions_few : (f : Fabric) → ((j : ℕ) → IsCount (length (list_of f.buffers j))) → (a : ℕ) (cells : List Queued) →
    AllByRecursion IsCount (map (λ (at : ℕ × Queued). cushion_of f at.1 - at.0) (enumerate_from a cells))
cushions_few f few a cells = search (arith, rules, of_images, all_from_has, few_kept)

slacks_few : (i : ℕ) (rs : List SlotRecord) → AllByRecursion IsRecordedWithin rs →
    AllByRecursion IsCount (flat_map (λ (r : SlotRecord). slacks r.arrived i) rs)
unfolding slacks
slacks_few i [] all = tt
slacks_few i (r ∷ rs) all = grind (arith, common_steps, all_both, cushions_few, slacks_few i rs all.1)

one_seen : (i : ℕ) (rs : List SlotRecord) → AllByRecursion IsRecordedWithin rs → IsSeen (seen_as (input_figures rs i))
unfolding input_figures
one_seen i rs all =
    let longest = of_images (λ (r : SlotRecord). length (input r.arrived i)) IsCount rs in
    search (arith, rules, all_weaker, longest, most_few, slacks_few, least_of)

-- ## The run

module _ (w : Switch) (ranks : List (List ℕ)) (configured : IsConfigured w ranks) (slots : ℕ) (early : slots < 2 ^ 63)
    (at : Taken) (parted : IsParted w ranks slots at) where
  abbrev ports : ℕ
  ports = length w.machines

  abbrev st : State
  st = told_state w at

  abbrev rs : List LimitedRecord
  rs = parted.records

  runs : Runs w 0 (arriving_from w.came 0 at.frozen.next) (opening w ranks) rs (marked_in at.frozen)
  runs = grind (arith, common_steps)

  stopped : Ended w ranks configured 0 at.frozen.next at.frozen.next (opening w ranks) rs (marked_in at.frozen)
      (came_of rs) (departures_of 0 (gone_in (slots_in rs)))
  unfolding arriving_from
  stopped =
      let none = none_first ports ranks in
      let come = come_count-first w.came at.frozen.next in
      run_known w ranks configured at.frozen.next 0 _ _ _ rs _ [] [] (known_first w ranks configured)
      (omega (arith, parted.next)) (omega (arith, configured.few_cells)) (omega arith) runs

  known : Known w at.frozen.next (fabric_in at.frozen) stopped.ideal (came_of rs) at.sent
  known = let known = stopped.known in search (rules, Known, came_of)

  -- the run is a stable one, so its transfers can be written, and they are of its slots
  moved : AreMoved ports at.frozen.next at.note
  moved =
      let stable = (stable_limited_too w.machines w.limits).run 0 _ (opening w ranks) (marked_in at.frozen) rs runs in
      let many = length-map rs (λ (r : LimitedRecord). r.of_slot.came) in
      let written = written_in_run ports w.classes w.came configured.traffic configured.names w.limits w.machines in
      search (rules, written, all_give, all_weaker, arriving_length, of_its_slots, empty_list, known.long, parted.next)

  figures_are_of : at.frozen.figures ≡ figures_of ports (slots_in rs)
  figures_are_of = ap (λ (k : Kept). k.figures) parted.kept ∙ sym (figures_fold ports (slots_in rs))

  -- ## Its numbers are in range

  figures_low : (at.frozen.figures.proposals < 2 ^ 63) × (at.frozen.figures.most < 2 ^ 63)
  unfolding figures_of arriving_from
  figures_low = search (arith, rules, most_of_all, figures_are_of, stopped.proposed, none_first, come_count-first)

  seen_right : AllByRecursion IsSeen (map seen_as at.frozen.figures.inputs)
  unfolding figures_of
  seen_right = search (arith, rules, figures_are_of, of_images, all_made, one_seen, stopped.records)

  states_right : AllByRecursion AreRankNumbers at.frozen.ranks
  states_right =
      all_give AreLow (λ s. length s ≤ 32) AreRankNumbers (λ s low few. (few, low)) _ known.low
      (recursion_from_All _ _ (search (arith, rules, get_or_default, state_sized, known)))

  queued_right : (names : List Named) → ((c : Named) → Has names c → Has (queued_in st) c) →
      AllByRecursion (IsNamed ports) names
  queued_right names among = all_from_has (IsNamed ports) names (λ c has.
      let it = is_of_one at known c (has_left (queued_in st) _ c (among c has)) in search (arith, rules))

  sent_right : AllByRecursion (IsSent ports) st.sent
  unfolding state_of
  sent_right =
      all_from_has (IsSent ports) (map sent_as at.sent) (λ x has.
      let own = has_right (queued_in st) _ x.cell (has_image (λ (d : Sent). d.cell) (map sent_as at.sent) x has) in
      search (arith, rules, image_has, all_of_has, known, is_of_one at known x.cell, own))

  in_range : IsInRange st
  unfolding figures_of state_of
  in_range =
      let many : length at.frozen.lists ≡ ports = known.ports in
      let seen_many : length (map seen_as at.frozen.figures.inputs) ≡ ports =
      grind (arith, common_steps, length-map, figures_are_of, length-map-range_with_len) in
      let outputs_told = states_many at known in
      search (arith, rules, seen_right, states_right, queued_right, has_left, has_right, sent_right, moved, figures_low)

  -- ## The fourth clause, the marks and the counts

  abbrev next : ℕ
  next = at.frozen.next

  abbrev names : List Name
  names = map as_name (named_in st)

  -- the walk over the arrivals at an input, from the mark down on
  walk : (i : ℕ) → i < ports → Walks w i (λ a. has_name names a) next 0 false (mark_at at.frozen.marks i)
      (refused_here w.limits i (arriving_from w.came 0 next) (admissions_in rs))
  walk i inside =
      let down : mark_at (opening w ranks).marks i ≡ false = get_or-replicate ports i false false inside in
      rw down at (walked w i (omega (arith, configured.few)) (configured.packets.lines i inside)
      (λ a. has_name names a) (came_of rs) next
      (λ a. sym (has_as_name (named_in st) a) ∙ named_at at known a.slot a.cell.id.input) 0 next (opening w ranks)
      (marked_in at.frozen) rs runs (omega arith) (simp length-replicate (omega arith))
      (λ t k e. rw e (search (arith, rules, came_in, came_of))) (rw down (search (arith, rules, whole))))

  -- what was refused, by input
  lost_here : (i : ℕ) → i < ports →
      of_input i (refused_in (admissions_in rs)) ≡ cells_in (unnamed names (coming i 0 next w.came))
  unfolding arriving_from
  lost_here i inside = search (arith, rules, refused_of_input, fabric_judged, stand_in, runs, (walk i inside).lost_are)

  lost_counted : (p : Cell → Bool) → length (filter p (refused_in (admissions_in rs)))
      ≡ length (filter p (cells_in (left_before w.limits next w.came names ports)))
  unfolding left_before arriving_from
  lost_counted p =
      let lost = refused_in (admissions_in rs) in
      let low = all_judged (λ c. c.id.input < ports) w.limits (opening w ranks).marks (arriving_from w.came 0 next)
      (admissions_in rs) (search (rules, fabric_judged, runs))
      (search (rules, all_in_range, all_arriving, configured.packets.inputs)) in
      let here : ℕ → ℕ = λ i. length (filter p (cells_in (unnamed names (coming i 0 next w.came)))) in
      let parts = kinds_summed (λ (c : Cell). c.id.input) here 0 ports (filter p lost)
      (search (arith, rules, kept_has, all_of_has)) (λ i _ below. let input = λ (c : Cell). c.id.input == i in
      rw (filter_both input p lost, tests_turned p input lost, lost_here i (omega arith)) refl) in
      omega (arith, counted_flat p (λ i. unnamed names (coming i 0 next w.came)) (range_with_len 0 ports))

  abbrev counts : List Refused
  counts = with_refused (refused_in (admissions_in rs)) (refused_counts w.limits [])

  tallied : Tallied w.limits next w.came names ports at.frozen.marks counts
  tallied =
      let many = stopped.marks in
      let ends = λ (i : ℕ) (inside : i < ports). (walk i inside).ends in
      let walked = by_places (walk_mark w.limits next w.came names) (Some false) in
      search (rules, length-replicate, walked, ends, get_or-map, length-map, same_counts, left_before, lost_counted)

  packets_are : AreWholePackets w st
  unfolding state_of
  packets_are = (packets_alike w st names (has_as_name (named_in st))).1 (search (rules, all_stand, tallied))

  tally_are : IsTally w st (record { marks = at.frozen.marks; refused = counts })
  unfolding state_of
  tally_are =
      let alike = tally_is w st names (has_as_name (named_in st)) in
      search (rules, alike, tallies_up, configured.packets, configured.limits, known.ports, tallied)

  -- ## It comes to what was left

  figures_same : at.frozen.figures ≡ figures_told w.came st
  unfolding state_of figures_told figures_of input_figures
  figures_same =
      let once = each_pair Differ (named_in st) (arrivals_are at known).once in
      let run = recorded IsInputBest w.limits w.machines 0 _ _ _ rs runs in
      let in_slots = slots_of_figures IsInputBest w.machines ports _ _ _ (slots_in rs) run in
      let counted = names_counted (named_in st) rs once (named_at at known) in
      search (rules, sent_same at known, known, inputs_same, counted, output_same, figures_are_of, limited_numbered)

  taken_same : at ≡ taken_of w st
  unfolding frozen_told state_of
  taken_same = search (arith, rules, fabric_same at known, sent_same at known, known, tally_are, figures_same)

  -- ## It can be taken up

  can_be_taken_up : CanBeTakenUp w at
  unfolding state_of
  can_be_taken_up =
      let order = stand_in_order at known moved in
      search (in_range, has_shape, arrivals_are, slack_kept, keep_order, below_floors, taken_same, packets_are, known)

pub stopped_runs_are_sound : StoppedRunsAreSound
stopped_runs_are_sound t s slots at made tables recorded early parted = search (rules, can_be_taken_up, configured)

-- ## It is read as itself: its text is that of a state that comes to it, and a text has one answer.

pub stopped_runs_are_read : StoppedRunsAreRead
stopped_runs_are_read t s slots at made tables recorded early parted =
    let can = stopped_runs_are_sound t s slots at made tables recorded early parted in
    let exact = read_exact (switch_of t s) in
    let read : IsRead (switch_of t s) (state_text (told_state (switch_of t s) at)) at = search rules in
    search (rules, exact.one_state, exact.never_refused)

-- ## What goes on from there is the run: what is read is what was left, parts join, and the run is the whole one. There
-- are as many machines as ports, and figures and counts are folded from nothing.

whole_is : (t : Tables) (s : Scheduled) (rs : List LimitedRecord) → IsFabricRun t s.came rs →
    IsWhole (switch_of t s) (openings_of t.setup) (kept_in_run t rs)
whole_is t s rs is = search (arith, rules, length-map, figures_fold, counts_more t.limits [])

-- and the whole one is the run
run_is : (t : Tables) (s : Scheduled) (kept : Kept) → IsWhole (switch_of t s) (openings_of t.setup) kept →
    (rs : List LimitedRecord) × IsFabricRun t s.came rs × (kept ≡ kept_in_run t rs)
run_is t s kept is = search (arith, rules, length-map, figures_fold, counts_more t.limits [])

pub read_runs_go_on : ReadRunsGoOn
read_runs_go_on t s slots at x made tables recorded early parted read =
    let told = stopped_runs_are_read t s slots at made tables recorded early parted in
    let whole = join.whole (switch_of t s) (openings_of t.setup) slots at in
    rw (told.alone x read)
    (search (rules, join.run, join.resumes, whole_is, run_is, whole, join.fault, join.whole_fault))
