-- The number of workers changes nothing. Of its tables a schedule reads the sizes of cells and slots and the routes, a
-- run the setup and the limits, and what is written the names of the files and the length of a slot. So the same
-- arrives whatever that number is; and each verdict, each plan that meets it, and each reason that denies it, is made
-- of what arrives and of these. Numbers can be exchanged, so it holds both ways. First, an aim is met by one plan:
-- there is one whole run, one run up to a slot, one state with a given text, and from each state one run goes on; a
-- plan is written of what such a run keeps.
use Rattle.cq_run.proofs.Terms.{Audit, Check, Ideal, Part, Pass, Resume, Run, Soak, rules, arith, ◌≡◌, ℕ, List, refl, IsOkAnd, Result, Ok, Err, arrivals, arrivals_at, cell_of, cells, Captured, Tables, captures_out, crossed, resumed, switched, ideal_departures, ran_ideal, packets_out, Contents, Aim, Denies, Meets, Refusal, Plan, Reader, judged, tables_in, Command, openings_of, Crossing, Reporting, Parting, Resuming}
use Rattle.cq_cells.specs.Schedule.{stamp_slot, start}
use Rattle.cq_route.specs.Route.{route}
use Rattle.cq_run.specs.Plan.{check_line}
use Rattle.cq_run.specs.Workers.{WorkersChangeNothing, over, with_workers}
use Rattle.cq_resume.proofs.{Joining.one_part, Joining.one_resumed, OneAnswer.read_exact}
use Rattle.cq_simulate.proofs.FabricLaws.{only_one}
use Rattle.cq_run.specs.Parting.{switch_over}

pub one_plan : (aim : Aim) (a b : Plan) → Meets aim a → Meets aim b → a ≡ b
one_plan (Crossing t cs sent) a b (rs, x, e) (ss, y, f) = cc (only_one t (arrivals t cs) rs ss x y)
one_plan (Reporting t cs) a b (rs, x, e) (ss, y, f) = cc (only_one t (arrivals t cs) rs ss x y)
one_plan (Parting t cs slots name) a b (p, x, e) (q, y, f) =
    let at = one_part.at (switch_over t cs) (openings_of t.setup) slots x.at y.at x.parted y.parted in cc
one_plan (Resuming t cs text) a b (k, x, e) (l, y, f) =
    let w = switch_over t cs in
    let from : x.from ≡ y.from = (read_exact w).one_state text x.from y.from x.read y.read in
    cc (one_resumed.kept w x.from k l x.resumed (rw (← from) at y.resumed))
one_plan _ a b x y = cc

-- ## One verdict after another

-- the other comes to what the one comes to
record Follows (one other : Result Aim Refusal) : Type 0 where
  met : (plan : Plan) → IsOkAnd one (λ aim. Meets aim plan) → IsOkAnd other (λ aim. Meets aim plan)
  denied : (refusal : Refusal) → IsOkAnd one (λ aim. Denies aim refusal) → IsOkAnd other (λ aim. Denies aim refusal)
  refused : (refusal : Refusal) → one ≡ Err refusal → other ≡ Err refusal

alike : (x : Result Aim Refusal) → Follows x x
alike x = record { met = λ plan h. h; denied = λ refusal h. h; refused = λ refusal h. h }

module _ (n : ℕ) (t : Tables) where
  -- the tables with another number of workers
  abbrev u : Tables
  u = with_workers n t

  -- the same arrives
  arrivals_same : (cs : List (List Captured)) → arrivals u cs ≡ arrivals t cs
  unfolding arrivals arrivals_at cell_of cells route start stamp_slot
  arrivals_same cs = refl

  -- ## Each command

  module _ (r : Reader) (m : Contents) (one other : List ℕ) (first : tables_in one m ≡ Ok t)
      (second : tables_in other m ≡ Ok u) where
    follows : (command : Command) → Follows (judged r (over one command) m) (judged r (over other command) m)
    unfolding check_line switched crossed resumed ideal_departures ran_ideal captures_out packets_out
    follows (Pass from to) = alike _
    follows (Soak seed ports slots) = alike _
    follows (Check config) = rw (first, second) (alike _)
    follows (Ideal config) = search (rules, first, second, arrivals_same, alike)
    follows (Run config) = search (rules, first, second, arrivals_same, alike)
    follows (Audit config) = search (rules, first, second, arrivals_same, alike)
    follows (Part config slots state) = search (rules, first, second, arrivals_same, alike)
    follows (Resume config state) = search (rules, first, second, arrivals_same, alike)

-- ## Both ways

pub workers_change_nothing : (r : Reader) → WorkersChangeNothing r
workers_change_nothing r command m one other d =
    let there = follows d.workers d.tables r m one other d.first d.second command in
    let back = follows d.tables.workers (with_workers d.workers d.tables) r m other one d.second d.first command in
    search (arith, rules, one_plan)
