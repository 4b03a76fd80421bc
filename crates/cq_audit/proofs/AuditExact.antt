-- A log has one verdict: it cannot be read, or what was read is that of a stable run or has one fault first. Up to
-- where its lines say so, the fabric has no choice: the transfers of a stable run tell the run. So of two faults of
-- phases neither stands before the other, for a run that goes on past a phase has made the transfers of a stable
-- matching there, as its lines say. For the same reason no fault stands within a whole run that moves what the lines
-- say, and none behind it, for the run is over there. And two such runs are one: the longer of the two, after as many
-- slots as the other has, is where the other ended; there nothing is to come and nothing waits, and it ends too.
use Rattle.cq_audit.proofs.Terms.{common_steps, rules, ◌≡◌, ◌≢◌, ℕ, ◌⊎◌, List, length, Option, sym, ap, ◌∙◌, inl, inr, arith, Arrival, Setup, IsAuditExact, IsNo, IsReadNo, IsYes, IsLogExact, IsLogFault, AuditRefusal, Line, NoMemory, ◌<◌, ◌≤◌, [], ◌∷◌, ◌++◌, take, drop, refl, map-append, transfers_both, ◌-◌, AllByRecursion, cases_lt, take-append-drop, take-take, end_of, Transfer, Marked, arriving_from, first_slots, arriving_length, Machine, IsStable, Fabric, IsEmptyFabric, LimitedFabricRun, LimitedFabricSlot, LimitedRecord, slots_in, transfers_of_run, AfterBy, reach, run_of_whole, Reaches, StableRun, before_slot, all_weaker, suc, ⊎_elim, cases_order, Partners, one_arrival, one_departure, IsStableTold, in_phase, Begins, BeginsFirst, IsFaultAt, PhaseFault, filter_all, lt-ltb}
use Rattle.cq_audit.proofs.LogLines.{log_is_exact}
use Rattle.cq_audit.proofs.Following.{before_is, before_later, phase_before, phase_later, phase_now, each_moved, one_move, one_stable_run, run_later, run_within}
use Rattle.cq_audit.proofs.PhaseExact.{phase_is_exact}

-- the transfers of records
abbrev pub moved : List LimitedRecord → List Transfer
moved rs = transfers_of_run (slots_in rs)

pub moved_parts : (xs ys : List LimitedRecord) → moved (xs ++ ys) ≡ moved xs ++ moved ys
moved_parts xs ys = search (rules, transfers_both, map-append)

module _ (limits : List (Option ℕ)) (ms : List Machine) (came : List Arrival) where
  -- the transfers of a run of so many slots are of these slots
  pub all_before : (n : ℕ) (f g : Marked Fabric) (rs : List LimitedRecord) →
      LimitedFabricRun IsStable limits ms 0 (first_slots came n) f rs g → AllByRecursion (λ t. t.slot < n) (moved rs)
  all_before n f g rs run = grind (arith, common_steps, arriving_length, all_weaker, run_within)

  module _ (start : Marked Fabric) where
    abbrev pub Runs : ℕ → List LimitedRecord → Marked Fabric → Type 0
    Runs n rs f = LimitedFabricRun IsStable limits ms 0 (first_slots came n) start rs f

    abbrev pub Whole : List LimitedRecord → Marked Fabric → Type 0
    Whole rs end = StableRun limits ms came start rs end

    pub whole_run : (rs : List LimitedRecord) (g : Marked Fabric) → Whole rs g → Runs (length rs) rs g
    whole_run rs g w = grind (arith, common_steps, run_of_whole)

    -- it is over at no slot up to this one
    abbrev pub Going : ℕ → List LimitedRecord → Type 0
    Going slot rs = (m : ℕ) (f : Marked Fabric) → m ≤ slot →
        AfterBy (LimitedFabricSlot IsStable limits ms) came start rs m f → end_of came ≤ m → IsEmptyFabric f.state → ⊥

    pub whole_going : (slot : ℕ) (rs : List LimitedRecord) (g : Marked Fabric) → slot < length rs → Whole rs g →
        Going slot rs
    whole_going slot rs g lt w m f le after late empty = grind (arith, w.first)

    -- where they are all lines, it moves what those up to its end say
    pub followed : (rs : List LimitedRecord) (g : Marked Fabric) (note : List Transfer) → Whole rs g →
        moved rs ≡ note → moved rs ≡ before_slot (length rs) note
    followed rs g note w same = grind (arith, common_steps, filter_all, all_weaker, lt-ltb, all_before, whole_run)

    module _ (note : List Transfer) where
      -- ## A run that goes on past a slot

      pub record Halfway (m n : ℕ) (rs : List LimitedRecord) (end : Marked Fabric) : Type 0 where
        pub state : Marked Fabric
        pub after : Runs m (take m rs) state
        pub rest : LimitedFabricRun IsStable limits ms m (arriving_from came m (n - m)) state (drop m rs) end
        pub before : moved (take m rs) ≡ before_slot m note
        pub parted : before_slot n note ≡ moved (take m rs) ++ moved (drop m rs)

      pub halfway : (m n : ℕ) (rs : List LimitedRecord) (end : Marked Fabric) → m ≤ n → Runs n rs end →
          moved rs ≡ before_slot n note → Halfway m n rs end
      halfway m n rs end le run told =
          let r = reach (LimitedFabricSlot IsStable limits ms) came start rs m n end le run in
          search (arith, rules, moved_parts, take-append-drop m rs, all_before, run_later, before_is, before_later)

      -- ## Whole runs that move what the lines up to their ends say

      not_longer : (rs ss : List LimitedRecord) (g h : Marked Fabric) → Whole rs g → Whole ss h →
          moved rs ≡ before_slot (length rs) note → moved ss ≡ before_slot (length ss) note →
          length rs < length ss → ⊥
      not_longer rs ss g h w v told_r told_s lt =
          let half = halfway (length rs) (length ss) ss h in
          search (arith, rules, whole_run, half, one_stable_run, whole_going, whole_run rs g w)

      -- ## The states that the lines leave no choice of

      abbrev Begun : ℕ → ℕ → Fabric → Type 0
      Begun slot phase f = Begins limits ms came start note slot phase f

      one_first : (slot : ℕ) (f g : Fabric) → BeginsFirst limits ms came start note slot f →
          BeginsFirst limits ms came start note slot g → f ≡ g
      one_first slot f g a b = grind (arith, common_steps, one_stable_run, one_arrival)

      one_begun : (slot phase : ℕ) (f g : Fabric) → Begun slot phase f → Begun slot phase g → f ≡ g
      one_begun slot phase f g (inl a) (inl b) = one_first slot f g a.1 b.1
      one_begun slot phase f g (inl a) (inr b) = absurd (omega arith)
      one_begun slot phase f g (inr a) (inl b) = absurd (omega arith)
      one_begun slot phase f g (inr a) (inr b) =
          search (arith, rules, one_first slot a.1.arrived b.1.arrived a.1.begun b.1.begun, one_move, one_departure)

      -- ## Where the lines of a phase have a fault

      abbrev FaultAt : ℕ → ℕ → PhaseFault → Type 0
      FaultAt slot phase fault = IsFaultAt limits ms came start note slot phase fault

      -- the lines of the phase are the transfers of a stable matching
      record IsSettled (slot phase : ℕ) : Type 0 where
        pub fabric : Fabric
        pub begins : Begun slot phase fabric
        pub pairs : Partners
        pub told : IsStableTold fabric.inputs slot phase (in_phase slot phase note) pairs

      -- so they have none
      none_settled : (slot phase : ℕ) (fault : PhaseFault) → IsSettled slot phase → FaultAt slot phase fault → ⊥
      none_settled slot phase fault s f =
          search (arith, rules, one_begun slot phase s.fabric f.fabric, phase_is_exact.never_both)

      -- where the second phase begins the first is
      first_of : (slot phase : ℕ) (f : Fabric) → Begun slot phase f → phase ≡ 2 → IsSettled slot 1
      first_of slot phase f begun is = grind (arith, common_steps)

      none_passed : (slot phase : ℕ) (fault : PhaseFault) → IsSettled slot 2 → FaultAt slot phase fault → ⊥
      none_passed slot phase fault s f =
          grind (arith, common_steps, none_settled slot phase fault, first_of slot 2 s.fabric s.begins refl)

      -- in one slot there is one
      one_phase : (slot p q : ℕ) (a b : PhaseFault) → FaultAt slot p a → FaultAt slot q b → p ≡ q
      one_phase slot p q a b x y =
          let of_x = first_of slot p x.fabric x.begins in
          search (arith, rules, first_of slot q y.fabric y.begins, none_settled slot p a, none_settled slot q b)

      -- ## A run that goes on past a slot

      -- what is moved in the next slot of a run is what the lines of its phases say, so both are settled
      next_settled : (slot k : ℕ) (old : Marked Fabric) (rs : List LimitedRecord) (end : Marked Fabric) →
          Reaches limits ms came start note slot old →
          ((phase : ℕ) → in_phase slot phase (moved rs) ≡ in_phase slot phase note) →
          LimitedFabricRun IsStable limits ms slot (arriving_from came slot (suc k)) old rs end → IsSettled slot 2
      unfolding arriving_from transfers_of_run
      next_settled slot k old [] end reached same run = absurd run
      next_settled slot k old (r ∷ rs) end reached same run = search (rules, phase_now, run_later, each_moved r.of_slot)

      passed : (slot n : ℕ) (rs : List LimitedRecord) (end : Marked Fabric) → slot < n → Runs n rs end →
          moved rs ≡ before_slot n note → Going slot rs → IsSettled slot 2
      passed slot n rs end lt run told going =
          let h = halfway slot n rs end (omega arith) run told in
          search (arith, rules, next_settled slot (n - slot - 1), take-take, phase_later, phase_before, all_before)

      -- ## Two faults

      -- how far the run has come at a fault
      reached_at : (slot phase : ℕ) (fault : PhaseFault) → FaultAt slot phase fault →
          (old : Marked Fabric) × Reaches limits ms came start note slot old
      reached_at slot phase fault f = grind (arith, common_steps)

      none_later : (s t p q : ℕ) (a b : PhaseFault) → FaultAt s p a → FaultAt t q b → s < t → ⊥
      none_later s t p q a b x y lt = grind (arith, common_steps, reached_at t q b y, none_passed s p a, passed s t)

      one_fault_at : (s t p q : ℕ) (a b : PhaseFault) → FaultAt s p a → FaultAt t q b → (s ≡ t) × (p ≡ q) × (a ≡ b)
      one_fault_at s t p q a b x y = ⊎_elim (λ same.
          let there = rw same at x in
          let here = rw (one_phase t p q a b there y) at there in
          let fabric = one_begun t q here.fabric y.fabric here.begins y.begins in
          (same, one_phase t p q a b there y, search (arith, rules, phase_is_exact.one_fault))) (λ other. absurd
          (⊎_elim (none_later s t p q a b x y) (none_later t s q p b a y x) other)) (cases_order s t)

      -- no phase has a fault where a whole run moves what the lines up to its end say: none of a slot of the run, and
      -- the run reaches no other
      none_followed : (slot phase : ℕ) (fault : PhaseFault) (rs : List LimitedRecord) (end : Marked Fabric) →
          Whole rs end → moved rs ≡ before_slot (length rs) note → FaultAt slot phase fault → ⊥
      none_followed slot phase fault rs end w told f =
          let n = length rs in
          let run = whole_run rs end w in
          let at = reached_at slot phase fault f in
          let h = halfway n slot at.1.records at.0 in
          search (arith, rules, none_passed slot phase fault, passed, whole_going, h, one_stable_run, cases_lt slot n)

    pub one_whole_run : (rs ss : List LimitedRecord) (g h : Marked Fabric) → StableRun limits ms came start rs g →
        StableRun limits ms came start ss h → moved rs ≡ moved ss → (rs ≡ ss) × (g ≡ h)
    one_whole_run rs ss g h w v same = grind (arith, common_steps, not_longer, cases_lt, followed, one_stable_run)

module _ (setup : Setup) (limits : List (Option ℕ)) (came : List Arrival) (log : List ℕ) where
  -- it cannot be read, or what was read is wrong
  abbrev IsWrong : AuditRefusal → Type 0
  IsWrong refusal = ((line : ℕ) × (refusal ≡ Line line) × IsLogFault (length setup.kinds) log line)
      ⊎ IsReadNo setup limits came log refusal

  wrong : (refusal : AuditRefusal) → refusal ≢ NoMemory → IsNo setup limits came log refusal → IsWrong refusal
  wrong refusal some is = grind (arith, common_steps)

  exact : IsLogExact (length setup.kinds)
  exact = log_is_exact (length setup.kinds)

  one_no : (r s : AuditRefusal) → IsWrong r → IsWrong s → r ≡ s
  one_no r s (inl a) (inl b) = a.1 ∙ ap (λ (n : ℕ). Line n) (exact.one_fault log a.0 b.0 a.2 b.2) ∙ sym b.1
  one_no r s (inl a) (inr b) = absurd (exact.never_both b.note log a.0 b.read a.2)
  one_no r s (inr a) (inl b) = absurd (exact.never_both a.note log b.0 a.read b.2)
  one_no r s (inr a) (inr b) =
      search (rules, exact.one_reading a.note b.note log, one_fault_at, none_followed, not_longer, cases_lt)

  never_both : (r : AuditRefusal) → IsYes setup limits came log → IsWrong r → ⊥
  never_both r y (inl a) = exact.never_both y.note log a.0 y.read a.2
  never_both r y (inr a) =
      search (rules, exact.one_reading y.note a.note log, none_followed, followed, not_longer, cases_lt)

pub audit_is_exact : (setup : Setup) (limits : List (Option ℕ)) (came : List Arrival) → IsAuditExact setup limits came
audit_is_exact setup limits came =
    search (rules, one_no setup limits came, never_both setup limits came, wrong setup limits came)
