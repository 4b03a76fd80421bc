-- What `run` leaves is audited with a yes. Each file that the configuration has read is none of those that were
-- written, so over what is left the same tables and captures are judged; the trace and the log stand there as they were
-- written. The run with input-best matchings is a stable one, and its log is read as what it is spelt from. A yes that
-- holds is never denied. First, the files that an accepted configuration names: no two names clash, so a file that is
-- read is none that is written, and the trace is not the log.
use Rattle.cq_run.proofs.Terms.{IfSome_then, rules, ◌≡◌, ◌≢◌, ◌≤◌, ◌^◌, ◌∙◌, ◌++◌, ℕ, List, [], ◌∷◌, length, Option, None, Some, refl, arith, IsOkAnd, Ok, get, AllByRecursion, Arrival, log_of, trace_of, Departure, Transfer, short_is, small_cells, traffic_is, arrivals, IsTraffic, all_weaker, limited_not_more, LimitedRecord, slots_in, Captured, all_both, all_back, classes_of, ports_of, Tables, machines_of, as_many_slots, sends_as_ideal, stable_limited_too, departures_in_run, ideal_departures, Contents, files_in, read_or_refused, Audit, Denial, Refusal, Aim, Auditing, Denies, Meets, KeepsUp, audited, captures_out, crossed, Reader, ◌>>=◌, captures_in, found_or_missing, judged, read_or_refused_for, tables_in, all_replaced, common_steps, IsAuditPassed, audit_is_exact, stable_log, trace_is_exact, IsYes, transfers_of_run, empty_list, all_stable, stable_sends, stable_slack, longest_file, ◌&&◌, suc, true, false, codes, is_some, inl, inr, IfSome, list_any, and_from, not_from_false, bytes_eq-Decides, PortRow, first, Named, apart_from, checks_in, clash, file_check, files_of, names_of, read_at, tables_of, top_of, written_at, first_parts, Ports, Element, Top, EachPair, Has, has_left, has_right, pair_of_has}
use Rattle.cq_run.specs.Auditing.{IsDenied}
use Rattle.cq_run.specs.RunsAudited.{RunsAreAudited}
use Rattle.cq_run.proofs.Left.{captures_same, last_two, outputs_named, untouched}
use Rattle.cq_run.proofs.Chain.{text_is}
use Rattle.std.proofs.lemmas.List.Folds.{list_any-append}
use Rattle.cq_run.specs.declared.denial.Denial.TheVariants as why

-- ## Checks that hold

-- of all checks of a text, that of its files is the last
files_checked : (text : List ℕ) → first (checks_in text (top_of text)) ≡ None →
    file_check (tables_of (top_of text)) ≡ None
files_checked text h = search (arith, rules, is_some, first_parts)

-- ## Names that do not clash

-- each of the later names clashes with none of the earlier ones
abbrev pub ArePairs : List Named → Type 0
ArePairs = EachPair (λ x n. clash n x ≡ false)

pairs_in : (earlier names : List Named) → first (apart_from earlier names) ≡ None →
    AllByRecursion (λ k. list_any (clash k) earlier ≡ false) names × ArePairs names
pairs_in earlier [] h = (tt, tt)
pairs_in earlier (n ∷ names) h =
    search (arith, rules, first_parts, all_weaker, list_any-append, pairs_in (earlier ++ n ∷ []) names)

pub names_apart : (text : List ℕ) (t : Tables) → read_or_refused text ≡ Ok t → ArePairs (files_in t)
unfolding read_or_refused
names_apart text t h = (pairs_in [] (files_in t) (search (arith, rules, files_checked))).1

-- ## Two names

never_same : (a b : Named) → clash a b ≡ false → (b.is_read && a.is_read) ≡ false → a.file ≢ b.file
never_same a b clear written same = search (arith, rules, and_from, not_from_false, bytes_eq-Decides)

-- a file that is read is none that is written
read_or_written : (xs : List Named) → ArePairs xs → (r w : Named) → Has xs r → Has xs w →
    r.is_read ≡ true → w.is_read ≡ false → w.file ≢ r.file
read_or_written xs pairs r w k l read written = grind (arith, common_steps, pair_of_has, never_same)

-- ## The names of the ports

each_written : (P : List ℕ → Type 0) (i : ℕ) (rows : List PortRow) →
    ((n : Named) → Has (files_of i rows) n → n.is_read ≡ false → P n.file) → AllByRecursion (λ row. P row.write) rows
each_written P i [] h = tt
each_written P i (row ∷ rows) h =
    let w : Named = written_at (Element Ports i) (codes "write") row.write in
    search (arith, rules, has_left, has_right, h w, each_written P (suc i) rows)

each_read : (P : List ℕ → Type 0) (i : ℕ) (rows : List PortRow) →
    ((n : Named) → Has (files_of i rows) n → n.is_read ≡ true → P n.file) →
    AllByRecursion (λ row. IfSome row.read P) rows
each_read P i [] h = tt
each_read P i (row ∷ rows) h =
    let first = λ (file : List ℕ). h (read_at (Element Ports i) (codes "read") file) in
    grind (arith, common_steps, first, has_right (names_of i row) (files_of (suc i) rows), each_read P (suc i) rows, h)

-- no file that the tables write has this name
pub record IsUnwritten (t : Tables) (name : List ℕ) : Type 0 where
  pub outputs : AllByRecursion (λ row. row.write ≢ name) t.ports
  pub trace : t.trace ≢ name
  pub log : t.log ≢ name

module _ (t : Tables) (pairs : ArePairs (files_in t)) where
  -- so it is with each that the ports read
  pub reads_unwritten : AllByRecursion (λ row. IfSome row.read (IsUnwritten t)) t.ports
  reads_unwritten = each_read (IsUnwritten t) 0 t.ports (λ r k read.
      let outputs = each_written (λ (w : List ℕ). w ≢ r.file) 0 t.ports in
      let unlike = λ (w : Named). read_or_written (files_in t) pairs r w (inr (inr k)) in
      let trace = unlike (written_at Top (codes "trace") t.trace) (inl refl) read refl in
      let log = unlike (written_at Top (codes "log") t.log) (inr (inl refl)) read refl in
      search (arith, rules, outputs, unlike))

  -- and the trace is not the log
  pub trace_or_log : t.trace ≢ t.log
  trace_or_log same = search (rules, never_same)

-- ## The configuration was accepted

-- so no two names of its tables clash
apart_at : (config : List ℕ) (o : Option (List ℕ)) (t : Tables) →
    (found_or_missing config o >>= (λ (bytes : List ℕ). read_or_refused_for (read_or_refused bytes))) ≡ Ok t →
    ArePairs (files_in t)
apart_at config None t h = absurd (let P : ⊥ = cc h in P)
apart_at config (Some bytes) t h = names_apart bytes t (grind (arith, common_steps))

-- ## What was written

module _ (t : Tables) (captures : List (List Captured)) (rs : List LimitedRecord) where
  abbrev sent : List Departure
  sent = departures_in_run rs

  abbrev note : List Transfer
  note = transfers_of_run (slots_in rs)

  abbrev outputs : List (List ℕ × List ℕ)
  outputs = captures_out t captures sent 0 t.ports

  abbrev files : List (List ℕ × List ℕ)
  files = outputs ++ (t.trace, trace_of sent) ∷ (t.log, log_of note) ∷ []

  -- what an audit of it aims at
  abbrev aim : Aim
  aim = Auditing t captures sent (trace_of sent) (log_of note)

  -- ## A yes

  module _ (keeps : KeepsUp t captures rs) where
    traffic : IsTraffic (ports_of t.setup) (classes_of t.setup) (arrivals t captures)
    traffic = traffic_is t captures keeps.given.tables keeps.given.each

    -- its log is that of a stable run: a line can name each of its slots
    log_is : IsYes t.setup t.limits (arrivals t captures) (log_of note)
    log_is =
        let stable = stable_limited_too (machines_of t.setup) t.limits in
        let read = stable_log (ports_of t.setup) (classes_of t.setup) (arrivals t captures) traffic in
        let few : length rs ≤ 2 ^ 64 =
        omega (arith, as_many_slots t (arrivals t captures) rs traffic keeps.runs, limited_not_more, short_is) in
        search (arith, rules, stable.whole, read, small_cells, few, empty_list)

    meets : Meets aim audited
    meets = (record { log_is = log_is; trace_is = refl }, refl)

    -- nothing denies it
    never_denied : (denial : Denial) → IsDenied t captures sent (trace_of sent) (log_of note) denial → ⊥
    never_denied (why.Log refusal) denied =
        let never = (audit_is_exact t.setup t.limits (arrivals t captures)).never_both (log_of note) refusal in
        search (arith, rules, never, log_is)
    never_denied denial denied = search (arith, rules, trace_is_exact.differ)

    -- ## What is judged of what was left

    module _ (r : Reader) (config : List ℕ) (m left : Contents) (configured : tables_in config m ≡ Ok t)
        (captured : captures_in r t m ≡ Ok captures) (written : all_replaced files (Some m) ≡ Some left)
        (stays : AllByRecursion (λ w. w.0 ≢ config) files)
        (short : AllByRecursion (λ w. length w.1 ≤ longest_file) files) where
      -- a name that is none of theirs has what it had
      same_under : (name : List ℕ) → IsUnwritten t name → get left name ≡ get m name
      same_under name none =
          let named = outputs_named (λ (n : List ℕ). n ≢ name) t captures sent 0 t.ports none.outputs in
          untouched files m left name written (all_both (λ w. w.0 ≢ name) outputs _ named (none.trace, (none.log, tt)))

      captures_left : captures_in r t left ≡ Ok captures
      captures_left = captures_same m left r t.limit_bytes 0 t.ports
          (search (arith, rules, all_weaker, IfSome_then, same_under, reads_unwritten, apart_at)) ∙ captured

      -- the last two stand there, and so the aim is met, and not denied
      audited_so : IsOkAnd (judged r (Audit config) left) (λ a.
          Meets a audited × ((refusal : Refusal) → Denies a refusal → ⊥))
      audited_so =
          let apart = apart_at config (get m config) t configured in
          let stand = last_two outputs m left t.trace _ t.log _ (trace_or_log t apart) written in
          let ideally = sends_as_ideal t (arrivals t captures) rs traffic keeps.runs in
          search (arith, rules, meets, never_denied, captures_left, text_is, all_back, stand, ideally, untouched)

-- ## What `run` leaves

pub runs_audited : (r : Reader) → RunsAreAudited r
unfolding crossed
runs_audited r config m left plan is =
    let e = is.emulates in
    audited_so e.tables e.captures e.records e.keeps_up r config m left e.read.configured e.read.captured
    (rw e.written at is.written) (rw e.written at is.configuration_stays) (rw e.written at is.short)

-- ## What an audit comes to once the ideal run is there

module _ (t : Tables) (captures : List (List Captured)) (came : List Arrival) (trace log : List ℕ)
    (is : came ≡ arrivals t captures) (sent : List Departure) (departs : ideal_departures t came ≡ Ok sent)
    (yes : IsYes t.setup t.limits came log) where
  -- so a log that is accepted, and a trace that is the same, pass
  pub both_passed : (text : List ℕ) → IsTraffic (ports_of t.setup) (classes_of t.setup) came →
      text ≡ trace_of sent → trace ≡ text → IsAuditPassed t captures trace log
  both_passed text traffic same equal =
      let stands : IsYes t.setup t.limits (arrivals t captures) log = rw is at yes in
      let run = stands.run in
      let sends = stable_sends t (arrivals t captures) run.records run.end in
      record {
        sent = sent;
        ideally = cc;
        meets = record { log_is = stands; trace_is = equal ∙ same };
        departed = grind (arith, common_steps, sends);
        stable = all_stable t (arrivals t captures) run.records run.end (rw is at traffic) run.runs;
        slack = stable_slack t (arrivals t captures) run.records run.end (rw is at traffic) run.runs;
      }
