-- From one judgement after another to a plan that meets what is aimed at: for each command what is judged of what it
-- reads, and a plan that it comes to.
use Rattle.cq_run.proofs.Terms.{resumed_best, resumed_slack, parted_best, parted_slack, rules, arith, ◌≡◌, ◌∙◌, ℕ, List, [], ◌∷◌, refl, ap, Result, Ok, Err, IfOk, IfErr, IsOk, common_steps, soak_captures, soak_tables, Captured, Tables, Call, Contents, Space, Closed, Command, Ideal, Run, Soak, Pass, Audit, Part, Resume, Given, Halt, Reporting, Meets, Exactly, Auditing, IsGiven, AreRead, IsAudited, AreGiven, IsJudged, IsHaltOf, Judges, Pace, InTurn, Plan, Reader, ◌>>=◌, ideally_sent, capture_in, text_in, state_in, passed, audited, file_alone, IsCrossing, IsIdeal, IsPassing, plain_tables, AreTables, Lasts, trace_of, IsAuditHalted, IsAuditPassed, IsPartHalt, IsResumeHalt, IsResuming, IsPartText, written, recursion_from_All, IfSome_then, left_in_packets}
use Rattle.cq_run.proofs.Reached.{computed_halts, computed_plans, given_so, Reached, begun, read_on, sent_of, settled, exit_is, tables_end, no_memory}
use Rattle.cq_run.proofs.OnePort.{all_leave_is, none_limited}
use Rattle.cq_run.proofs.Chain.{capture_stays, short_stays}
use Rattle.cq_run.specs.declared.denial.Denial.TheVariants.{LongLog, LongTrace}
use Rattle.cq_run.specs.Headline.{IsTakenUp}
use Rattle.cq_run.specs.declared.judge.Asked.TheVariants as asked

-- what is judged of a command that is this one
pub judged_as : {S : Type 0} (space : S → Space) (may_fail : Call → S → S → Type 0) (keeps : S → S → Type 0) (p : Pace)
    (command x : Command) (old new : S) (result : Result Plan Halt) → command ≡ x →
    IsJudged space may_fail keeps p x old new result → IsJudged space may_fail keeps p command old new result
judged_as space may_fail keeps p command x old new result e h = rw e h

-- ## Judging made traffic

module _ {S : Type 0} {space : S → Space} {may_fail : Call → S → S → Type 0} {keeps : S → S → Type 0}
    {seed ports slots : ℕ} {s : S} (closed : (space s).mode ≡ Closed) (kept : keeps s s) where
  -- nothing is read: the run is computed
  pub soak_judged : (result : Result Plan Halt) →
      IfOk result (Meets (Reporting (soak_tables ports) (soak_captures seed ports slots))) →
      IfOk result (λ plan. plan.writes ≡ []) →
      IfOk result (λ _. IsOk (ideally_sent (soak_tables ports) (soak_captures seed ports slots))) →
      IfErr result (IsHaltOf (ideally_sent (soak_tables ports) (soak_captures seed ports slots))) →
      IsJudged space may_fail keeps InTurn (Soak seed ports slots) s s result
  soak_judged (Ok plan) meets none is halts =
      let aim = Reporting (soak_tables ports) (soak_captures seed ports slots) in record {
        judges = λ r. (aim, meets, search (arith, rules));
        kept = kept;
        names = rw none tt;
        emulates = λ r. search (arith, rules);
        closed = closed;
        told = refl;
      }
  soak_judged (Err halt) meets none is halts = grind (arith, common_steps)

-- ## Judging a configuration, its captures, and then what the ideal switch sends of them

module _ {S : Type 0} {space : S → Space} {may_fail : Call → S → S → Type 0} {keeps : S → S → Type 0} {p : Pace}
    {old : S} {config : List ℕ} where
  -- what is made of what was read
  pub run_judged : {now : S} {given : Given} → IsGiven space keeps config old now given →
      (result : Result Plan Halt) → IfOk result (IsCrossing given.tables given.captures) →
      IfErr result (IsHaltOf (ideally_sent given.tables given.captures)) →
      IsJudged space may_fail keeps p (Run config) old now result
  run_judged is (Ok plan) crossing refused = computed_plans _ _ (given_so asked.Run is) crossing.is_sent
      (crossing.records, crossing.keeps_up.runs, crossing.written) (search (rules, recursion_from_All))
      (λ r. search (arith, rules, IfSome_then, is.read r))
  run_judged is (Err halt) crossing refused = computed_halts _ _ (given_so asked.Run is) halt refused

  -- the same of the ideal switch
  pub ideal_judged : {now : S} {given : Given} → IsGiven space keeps config old now given →
      (result : Result Plan Halt) → IfOk result (IsIdeal given.tables given.captures) →
      IfErr result (IsHaltOf (ideally_sent given.tables given.captures)) →
      IsJudged space may_fail keeps p (Ideal config) old now result
  ideal_judged is (Ok plan) ideal refused = computed_plans _ _ (given_so asked.Ideal is) ideal.is_sent ideal.written
      (search (rules, recursion_from_All)) (λ r. search (arith, rules))
  ideal_judged is (Err halt) ideal refused = computed_halts _ _ (given_so asked.Ideal is) halt refused

-- ## Passing: what leaves a switch of one port, from the one capture that is read

module _ {S : Type 0} {space : S → Space} {keeps : S → S → Type 0}
    (lasts : Lasts keeps) {from to : List ℕ} {old new : S} (closed : (space old).mode ≡ Closed) (kept : keeps old new)
    {R : List ℕ → Type 0} {packets : List Captured} (are : AreTables (plain_tables from to)) (h : (r : Reader) →
    Judges InTurn (capture_in r from 0 (plain_tables from to).limit_bytes) R (space old) (space new) (Ok packets))
  where
    -- what the ideal switch sends of the capture is left
    at_packets : Reached space keeps (Pass from to) old new (λ r m.
        ideally_sent (plain_tables from to) (packets ∷ []) >>= (λ sent. Ok (Exactly (passed from to packets sent))))
    at_packets = read_on _ lasts (begun (λ s. refl) lasts closed) kept (λ r. capture_stays r from 0 _) h

    pub passing_judged : {may_fail : Call → S → S → Type 0} (result : Result Plan Halt) →
        IfOk result (IsPassing (plain_tables from to) packets to) →
        IfErr result (IsHaltOf (ideally_sent (plain_tables from to) (packets ∷ []))) →
        IsJudged space may_fail keeps InTurn (Pass from to) old new result
    unfolding plain_tables
    passing_judged (Ok plan) is refused =
        computed_plans _ _ at_packets is.is_sent (grind (arith, common_steps)) (rw is.writes (refl, tt))
        (λ r. search (arith, rules, IfSome_then, (h r).ok, all_leave_is (plain_tables from to) packets, none_limited))
    passing_judged (Err halt) is refused = computed_halts _ _ at_packets halt refused

-- ## An audit: the configuration, its captures, the trace, the log, and then the ideal run

module _ (given : Given) (trace log : List ℕ) where
  -- what a yes says
  emulates_at : (r : Reader) (config : List ℕ) (plan : Plan) → IsAuditPassed given.tables given.captures trace log →
      plan ≡ audited → (m : Contents) → AreRead r config m given.tables given.captures →
      (text_in LongTrace given.tables.trace m ≡ Ok trace) × (text_in LongLog given.tables.log m ≡ Ok log) →
      IsAudited r config m plan
  emulates_at r config plan passed is m read texts = record {
    tables = given.tables;
    captures = given.captures;
    read = read;
    trace = trace;
    traced = search (arith, rules);
    log = log;
    logged = search (arith, rules);
    audit = passed.meets.log_is;
    stable = passed.stable;
    slack = passed.slack;
    same = search (arith, rules);
    sent = passed.meets.trace_is ∙ ap trace_of passed.departed;
    written = is;
  }

module _ {S : Type 0} {space : S → Space} {keeps : S → S → Type 0} {old s1 : S} {config : List ℕ} {given : Given}
    (is : IsGiven space keeps config old s1 given) (lasts : Lasts keeps) {s2 : S} (kept : keeps s1 s2)
    {Q : List ℕ → Type 0} {trace : List ℕ}
    (traced : Judges InTurn (text_in LongTrace given.tables.trace) Q (space s1) (space s2) (Ok trace)) where
  -- the log is left
  pub at_log : Reached space keeps (Audit config) old s2 (λ r m. text_in LongLog given.tables.log m >>= (λ log.
      sent_of (λ v c sent. Auditing v c sent trace log) r given.tables given.captures m))
  at_log = read_on _ lasts (given_so asked.Audit is) kept (λ r. short_stays _ _ given.tables.trace) (λ r. traced)

  module _ {s3 : S} (kept_on : keeps s2 s3) {T : List ℕ → Type 0} {log : List ℕ}
      (logged : Judges InTurn (text_in LongLog given.tables.log) T (space s2) (space s3) (Ok log)) where
    -- the ideal run is left
    at_last : Reached space keeps (Audit config) old s3
        (λ r. sent_of (λ v c sent. Auditing v c sent trace log) r given.tables given.captures)
    at_last = read_on _ lasts at_log kept_on (λ r. short_stays _ _ given.tables.log) (λ r. logged)

    -- where an audit passes neither the log nor the trace is denied
    pub audit_judged : {may_fail : Call → S → S → Type 0} (result : Result Plan Halt) →
        IfOk result (λ _. IsAuditPassed given.tables given.captures trace log) →
        IfOk result (λ plan. plan ≡ audited) → IfErr result (IsAuditHalted given.tables given.captures trace log) →
        IsJudged space may_fail keeps InTurn (Audit config) old s3 result
    audit_judged (Ok plan) passed written halted =
        computed_plans _ _ at_last passed.ideally (passed.meets, written) (rw written tt)
        (λ r. grind (arith, common_steps, is.read r, emulates_at given trace log r config plan passed written))
    audit_judged (Err halt) passed written halted = settled at_last (Err halt) (search (arith, rules)) tt (λ r. tt)

-- ## Stopping a run and taking one up: the configuration, its captures, and then the text of a state

-- what is said of a run that goes on
goes_as : (t : Tables) (captures : List (List Captured)) (text : List ℕ) {r : Reader} {config state : List ℕ}
    {m : Contents} {plan : Plan} → AreRead r config m t captures → state_in state m ≡ Ok text →
    IsResuming t captures text plan → IsTakenUp r config state m plan
goes_as t captures text read found is =
    let goes = is.goes_on in record {
      tables = t;
      captures = captures;
      read = read;
      given = is.given;
      text = text;
      found = search (arith, rules);
      kept = is.kept;
      goes_on = is.goes_on;
      input_best = search (arith, rules, resumed_best t captures);
      slack = search (arith, rules, resumed_slack t captures);
      written = is.written;
    }

module _ {S : Type 0} {space : S → Space} {keeps : S → S → Type 0} {old now : S} {config : List ℕ} {given : Given}
    (is : IsGiven space keeps config old now given) (name : List ℕ) where
  pub part_judged : {may_fail : Call → S → S → Type 0} {slots : ℕ} (result : Result Plan Halt) →
      IfOk result (λ _. AreGiven given.tables given.captures) → IfOk result (λ plan. (text : List ℕ)
      × IsPartText given.tables given.captures slots text × (plan ≡ file_alone name text)) →
      IfErr result (IsPartHalt given.tables given.captures slots) →
      IsJudged space may_fail keeps InTurn (Part config slots name) old now result
  part_judged {slots = slots} (Ok plan) are (text, text_is, written) halted =
      settled (given_so (asked.Part slots name) is) (Ok plan) (_, refl, (text, text_is, written))
      (rw written (refl, tt)) (λ r. IfSome_then (space old).told (is.read r) (λ m read. record {
        tables = given.tables;
        captures = given.captures;
        read = read;
        given = are;
        text = text;
        stopped = text_is;
        input_best = parted_best given.tables given.captures are.tables are.each slots text_is.at text_is.parted;
        slack = parted_slack given.tables given.captures are.tables are.each slots text_is.at text_is.parted;
        written = written;
      }))
  part_judged {slots = slots} (Err halt) are text halted =
      settled (given_so (asked.Part slots name) is) (Err halt) (grind (arith, common_steps)) tt (λ r. tt)

  module _ (lasts : Lasts keeps) {new : S} (kept : keeps now new) {Q : List ℕ → Type 0} {text : List ℕ}
      (read : Judges InTurn (state_in name) Q (space now) (space new) (Ok text)) where
    -- and what is made of both
    pub resume_judged : {may_fail : Call → S → S → Type 0} (result : Result Plan Halt) →
        IfOk result (IsResuming given.tables given.captures text) →
        IfErr result (IsResumeHalt given.tables given.captures text) →
        IsJudged space may_fail keeps InTurn (Resume config name) old new result
    resume_judged result met refused =
        let at = read_on _ lasts (given_so (asked.Resume name) is) kept (λ r. short_stays _ _ name) (λ r. read) in
        settled at result (grind (arith, common_steps)) (grind (arith, common_steps, recursion_from_All))
        (λ r. grind (arith, common_steps, goes_as, is.read r))

-- ## What the prover is given beside its own rules where functions are proved without an answer

pub ruleset tables_steps = (exit_is, tables_end)

pub ruleset capture_steps = (exit_is, no_memory, begun)

pub ruleset crossed_steps = (exit_is, left_in_packets)
