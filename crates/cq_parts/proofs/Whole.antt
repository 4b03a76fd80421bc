-- What `part` left is read as what was left and as nothing else, and is refused for nothing (`stopped_runs_are_read`).
-- What goes on from there keeps what the run keeps, and comes to an end where the run does (`read_runs_go_on`); both
-- write the same of it. A tag fault that is met from there is one of the whole run, and so that of the ideal switch,
-- for which `run` is refused: both act alike in every slot, and a fault of the ideal switch ends its whole run. And
-- `resume` reads the configuration and the captures that `part` read, and the text that it wrote: where it alone wrote,
-- under a name of its own, these are there.
use Rattle.cq_parts.proofs.Terms.{common_steps, arith, rules, ◌≡◌, ◌<◌, ◌^◌, ℕ, List, refl, subst, Ok, Err, Scheduled, schedule_of, LimitedRecord, Captured, IsScheduleOf, Switch, switch_of, Tables, Contents, Run, Aim, Denies, Resuming, Reader, captures_in, judged, tables_in, IsRead, Taken, departures_in_run, read_runs_go_on, stopped_runs_are_read, GoesOnAsRun, IsReadAs, kept_in_run, traffic_is, AreGiven, IsPartText, Refusal, le-ltb, ◌≢◌, [], ◌∷◌, length, ◌≤◌, Some, get, Resume, all_weaker, get_same, captures_same, untouched, longest_file, ap, length-map, TagFault, arrivals, limited_whole_fault, IsWholeFault, AreTables, classes_of, ports_of, machine_of, machines_of, openings_of, slots_fit, departures_limited, best_act_alike_from_empty}
use Rattle.cq_run.proofs.Crossed.{keeps_up}
use Rattle.cq_run.specs.Plan.{crossed, resumed}
use Rattle.cq_parts.specs.Parts.{IsAimOfRun, PartsAreTheRun, IsLeftByPart, IsWrittenByPart}
use Rattle.cq_simulate.specs.IdealRuns.{ideal_departures, ran_ideal}
use Rattle.cq_resume.specs.declared.refusal.StateRefusal.TheVariants as of_state
use Rattle.cq_run.specs.declared.refusal.Refusal.TheVariants as refused
use Rattle.cq_run.specs.declared.refusal.StateFault.TheVariants as stopped

-- ## A tag fault of the whole run

whole_fault : (t : Tables) (captures : List (List Captured)) (fault : TagFault) → AreTables t →
    length captures ≡ ports_of t.setup →
    IsWholeFault (switch_of t (schedule_of t captures)) (openings_of t.setup) fault →
    ideal_departures t (arrivals t captures) ≡ Err fault
unfolding ideal_departures ran_ideal
whole_fault t captures fault are each is =
    let ms = machines_of t.setup in
    let p = ports_of t.setup in
    let c = classes_of t.setup in
    let ports = length-map t.setup.kinds (λ kind. machine_of kind t.setup.classes) in
    let fit = slots_fit p c _ 0 is.count (traffic_is t captures are each) in
    ap departures_limited (limited_whole_fault t.limits ms p _ _ is.count fault ((best_act_alike_from_empty t.limits
    ms).stop p c (openings_of t.setup) _ is.records fault fit (rw ports at is.stops)))

-- ## What is read of what was left

module _ (r : Reader) (config state : List ℕ) where
  aimed : (left : Contents) (t : Tables) (captures : List (List Captured)) (text : List ℕ) →
      tables_in config left ≡ Ok t → captures_in r t left ≡ Ok captures → get left state ≡ Some text →
      length text ≤ longest_file → judged r (Resume config state) left ≡ Ok (Resuming t captures text)
  aimed left t captures text configured captured told short = grind (arith, common_steps, le-ltb)

  module _ (slots : ℕ) (m left : Contents) (is : IsWrittenByPart r config state slots m left) where
    pub part_leaves_the_rest : IsLeftByPart r config state slots m left
    part_leaves_the_rest =
        let written = rw is.stops.written at is.written in
        -- every other name has what it had
        let same = λ (name : List ℕ) (other : state ≢ name).
        untouched ((state, is.stops.text) ∷ []) m left name written (other, tt) in
        record {
          early = is.early;
          plan = is.plan;
          stops = is.stops;
          same = search (arith, rules, same, captures_same, all_weaker);
          told = search (arith, rules, get_same);
        }

-- ## What goes on

-- what is written of a run is what is written of what it keeps
same_plan : (t : Tables) (captures : List (List Captured)) (rs : List LimitedRecord) →
    crossed t captures (departures_in_run rs) rs ≡ resumed t captures (kept_in_run t rs)
unfolding crossed resumed
same_plan t captures rs = refl

module _ (r : Reader) (config : List ℕ) (m : Contents) (t : Tables) (captures : List (List Captured))
    (configured : tables_in config m ≡ Ok t) (captured : captures_in r t m ≡ Ok captures) (given : AreGiven t captures)
  where
    -- ## What was left

    module _ (slots : ℕ) (early : slots < 2 ^ 63) (text : List ℕ) (part : IsPartText t captures slots text) where
      abbrev s : Scheduled
      s = schedule_of t captures

      abbrev w : Switch
      w = switch_of t s

      abbrev made : IsScheduleOf t s
      made = record { captures = captures; ports = given.each; schedule = refl }

      -- the text is read as what was left
      read_as : IsReadAs w text part.at
      read_as =
          rw part.told (stopped_runs_are_read t s slots part.at made given.tables given.recorded early part.parted)

      -- and what is read of it goes on as the run
      goes : (x : Taken) → IsRead w text x → GoesOnAsRun t s x
      goes x read = read_runs_go_on t s slots part.at x made given.tables given.recorded early part.parted
          (subst (λ (bytes : List ℕ). IsRead w bytes x) part.told read)

      abbrev aim : Aim
      aim = Resuming t captures text

      -- the text itself is refused for nothing
      denied : (refusal : Refusal) → Denies aim refusal → judged r (Run config) m ≡ Err refusal
      denied (refused.Tag fault) is =
          let on = (goes is.from is.read).whole_fault fault is.stops in
          grind (arith, common_steps, whole_fault t captures fault)
      denied (refused.State (stopped.Line n)) is = cc (read_as.never_refused (of_state.Text n) is)
      denied (refused.State stopped.Shape) is = cc (read_as.never_refused of_state.Shape is)
      denied (refused.State (stopped.Unsound clause)) is = cc (read_as.never_refused (of_state.Unsound clause) is)
      denied refusal is = absurd is

      pub aim_of_run : IsAimOfRun r config m aim
      aim_of_run = record {
        met = λ whole e.
            let resumed = (goes part.at read_as.read).resumes e.records in
            search (arith, rules, same_plan, resumed, read_as);
        only = λ whole plan e meets.
            let one = (goes meets.1.from meets.1.read).run e.records meets.0 in
            grind (arith, common_steps, same_plan, one);
        -- the run that goes on from there is one that keeps up
        writes = λ plan meets.
            let it = (goes meets.1.from meets.1.read).ends meets.0 meets.1.resumed in
            search (rules, configured, captured, same_plan, traffic_is, keeps_up t captures it.0 given);
        refused = denied;
      }

pub parts_are_the_run : (r : Reader) → PartsAreTheRun r
parts_are_the_run r config state slots m left is =
    let it = is.stops in
    let aims = aimed r config state left it.tables it.captures it.text in
    search (arith, rules, aims, aim_of_run r config m it.tables it.captures)
