-- What a run notes is what a log says. Each line tells of a cell that stands at its input, and it is behind the line
-- before it: by its input in a phase, by its phase in a slot, and by its slot. A cell that waits at an input came to
-- it and keeps its numbers. So where all cells that come fit the numbers of a line, the transfers of a run are those
-- of a log.
use Rattle.cq_audit.proofs.Terms.{among_range, common_steps, rules, ◌≡◌, ℕ, zero, suc, ◌+◌, ◌<◌, ◌≤◌, ◌^◌, List, [], ◌∷◌, length, Option, None, Some, refl, arith, IfSome, AllByRecursion, filter_map, range_with_len, Cell, Queued, Transfer, arrival_at, Arrival, arriving, first_for, log_of, IsTraffic, Machine, Marked, admission, arriving_from, admitted_arrives, list_of, noted, transfers_of, IsStable, Partners, Fabric, input, FabricSlot, SlotRecord, LimitedFabricRun, LimitedFabricSlot, LimitedRecord, slots_in, transfers_in, transfers_of_run, run_of_whole, Leads, one_found, Comes, IsLog, StableRun, IsTransfer, IsOf, IsTransferBefore, all_both, all_found, came_from, all_give, most_ports, EachPair, Has, from_first, pairs_looked_up, looked_up, all_from_has, all_of_has, pairs_joined, came_or_was, was_waiting, all_made, partner_of}
use Rattle.cq_audit.proofs.Following.{run_later, slot_at, transfers_at}
use Rattle.cq_traffic.proofs.Arriving.{place_of}

-- ## Cells that a line can tell of

-- a cell of input i, whose numbers fit a line
pub record Tellable (ports i : ℕ) (cell : Cell) : Type 0 where
  pub own : cell.id.input ≡ i
  pub inside : i < ports
  pub output : cell.output < ports
  pub packet : cell.id.packet < 2 ^ 32
  pub index : cell.id.index < 2 ^ 32

-- all cells that stand in these lists, one for each input, are
abbrev pub AllListed : ℕ → List (List Queued) → Type 0
AllListed ports lists = (i : ℕ) (q : Queued) → Has (list_of lists i) q → Tellable ports i q.cell

-- what comes to an input is a cell that a line can tell of
abbrev ComesTellable : ℕ → List (Option Cell) → Type 0
ComesTellable ports cells = (i : ℕ) (cell : Cell) → arrival_at cells i ≡ Some cell → Tellable ports i cell

-- ## What can be written

-- the transfers fit lines and cross a switch of so many ports, each behind those before it
pub record AreWritten (ports : ℕ) (note : List Transfer) : Type 0 where
  pub pairs : EachPair IsTransferBefore note
  pub all : AllByRecursion (λ t. IsTransfer t × IsOf ports t) note

-- numbers in a row rise
pub range_rises : (a n : ℕ) → EachPair (λ (i k : ℕ). i < k) (range_with_len a n)
range_rises a zero = tt
range_rises a (suc n) = grind (arith, common_steps, all_from_has, among_range, range_rises (a + 1) n)

module _ (ports : ℕ) where
  -- behind the line before them they lead on
  leads_written : (last : Option Transfer) (note : List Transfer) → AreWritten ports note →
      IfSome last (λ u. AllByRecursion (IsTransferBefore u) note) →
      (end : Option Transfer) × Leads (Comes ports) last note end
  leads_written last [] are first = (last, refl)
  leads_written last (t ∷ note) are first = search (arith, rules, leads_written (Some t) note)

  -- what is noted of an input
  record IsLineOf (slot phase i : ℕ) (t : Transfer) : Type 0 where
    pub now : (t.slot ≡ slot) × (t.phase ≡ phase) × (t.input ≡ i)
    pub transfer : IsTransfer t
    pub of : IsOf ports t

  module _ (slot phase : ℕ) (few : ports ≤ most_ports) (small : slot < 2 ^ 64) (one : 1 ≤ phase) (two : phase ≤ 2) where
    noted_line : (i : ℕ) (cells : List Queued) (p : Option ℕ) → ((q : Queued) → Has cells q → Tellable ports i q.cell) →
        (t : Transfer) → noted slot phase i cells p ≡ Some t → IsLineOf slot phase i t
    noted_line i cells p all t e =
        let first = λ (j : ℕ) (c : Queued) (is : first_for j cells ≡ Some c). let at = from_first j cells c is in
        let one : Tellable ports i c.cell × (c.cell.output ≡ j) = (all c at.0, at.1) in one in
        grind (arith, common_steps, first)

    -- the lines of a matching, from lists whose cells a line can tell of
    matching_written : (m : Partners) (lists : List (List Queued)) → AllListed ports lists →
        AreWritten ports (transfers_of m lists slot phase)
    unfolding transfers_of
    matching_written m lists all =
        let note = λ (i : ℕ). noted slot phase i (list_of lists i) (partner_of m i) in
        let line = λ (i : ℕ). noted_line i (list_of lists i) (partner_of m i) (all i) in
        record {
          pairs = pairs_looked_up _ (λ i k. i < k) IsTransferBefore (λ i k t u lt e f.
              let x = line i t e in let y = line k u f in grind arith) _ (range_rises 0 (length m));
          all = all_from_has _ (filter_map note (range_with_len 0 (length m))) (search (arith, rules, looked_up, line));
        }

  -- a slot writes its lines, first those of its first phase, and then the lists are so still
  slot_written : (ms : List Machine) (slot : ℕ) (cells : List (Option Cell)) (old new : Fabric) (r : SlotRecord) →
      ports ≤ most_ports → slot < 2 ^ 64 → ComesTellable ports cells → FabricSlot IsStable ms slot cells old r new →
      AllListed ports old.inputs → AreWritten ports (transfers_in r) × AllListed ports new.inputs
  unfolding transfers_in
  slot_written ms slot cells old new r few small come step all =
      let came = came_from ms slot 0 cells old.ranks _ step.arrive.ranked in
      let arrived : AllListed ports r.arrived.inputs = search (arith, rules, came_or_was, came) in
      let sent : AllListed ports r.sent.inputs = search (arith, rules, was_waiting step.fill.moves) in
      let written = λ (phase : ℕ). matching_written slot phase few small in
      search (arith, rules, written, pairs_joined, all_both, all_of_has, transfers_at, was_waiting step.finish.moves)

-- ## A run

module _ (limits : List (Option ℕ)) (ms : List Machine) (ports : ℕ) (few : ports ≤ most_ports) where
  run_written : (slot : ℕ) (traffic : List (List (Option Cell))) (f g : Marked Fabric) (rs : List LimitedRecord) →
      slot + length rs ≤ 2 ^ 64 → AllByRecursion (ComesTellable ports) traffic → AllListed ports f.state.inputs →
      LimitedFabricRun IsStable limits ms slot traffic f rs g → AreWritten ports (transfers_of_run (slots_in rs))
  unfolding transfers_of_run admission
  run_written slot (cells ∷ traffic) f g (r ∷ rs) long come all run =
      let step = run.1 in
      let one = slot_written ports ms slot r.admission.cells f.state run.0.state r.of_slot few (omega arith)
      (rw step.admits (λ i cell at. come.0 i cell (admitted_arrives _ cells i cell at))) step.runs all in
      let rest = run_written (slot + 1) traffic run.0 g rs (omega arith) come.1 one.1 run.2 in
      search (arith, rules, run_later, pairs_joined, all_both, all_of_has, slot_at IsStable ms)
  run_written slot traffic f g rs long come all run = grind (arith, common_steps)

-- ## The cells that come

-- the numbers of the cell fit a line
abbrev pub FitsLine : Arrival → Type 0
FitsLine a = (a.cell.id.packet < 2 ^ 32) × (a.cell.id.index < 2 ^ 32)

module _ (ports classes : ℕ) (came : List Arrival) (traffic : IsTraffic ports classes came)
    (fits : AllByRecursion FitsLine came) where
  slot_tellable : (t : ℕ) → ComesTellable ports (arriving came t)
  slot_tellable t i cell at =
      let told = all_found (λ c. Tellable ports i c) came t i (search (arith, rules, all_give, traffic.in_range)) in
      one_found (λ c. Tellable ports i c) came t i cell told (place_of came t i most_ports cell refl at)

  -- a stable run over them from lists without cells, in no more slots than a line can name: its transfers can be
  -- written
  pub written_in_run : (limits : List (Option ℕ)) (ms : List Machine) (n : ℕ) (start end : Marked Fabric)
      (rs : List LimitedRecord) → ports ≤ most_ports → length rs ≤ 2 ^ 64 → ((i : ℕ) → input start.state i ≡ []) →
      LimitedFabricRun IsStable limits ms 0 (arriving_from came 0 n) start rs end →
      AreWritten ports (transfers_of_run (slots_in rs))
  unfolding arriving_from
  written_in_run limits ms n start end rs few long empty run =
      run_written limits ms ports few 0 _ start end rs (omega arith)
      (all_made _ _ 0 n (λ t _ _. slot_tellable t)) (λ i q has. absurd (rw (empty i) at has)) run

  -- and where it is whole they are those of a log
  pub stable_log : (limits : List (Option ℕ)) (ms : List Machine) (start end : Marked Fabric)
      (rs : List LimitedRecord) → ports ≤ most_ports → length rs ≤ 2 ^ 64 → ((i : ℕ) → input start.state i ≡ []) →
      StableRun limits ms came start rs end →
      IsLog ports (transfers_of_run (slots_in rs)) (log_of (transfers_of_run (slots_in rs)))
  unfolding log_of
  stable_log limits ms start end rs few long empty whole =
      let run = run_of_whole (LimitedFabricSlot IsStable limits ms) came start rs _ end whole in
      search (arith, rules, leads_written ports None, written_in_run limits ms (length rs) start end)
