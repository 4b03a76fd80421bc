-- The lines of a log, by slots and phases. Of lines of earlier slots and then later ones, those before a slot are the
-- first, and those of its phases are among the others. Lines are in order, so where none is of an earlier phase those
-- of this one stand at the front, in order of input, and the others are of later ones. So a log leaves one stable run.
-- In a slot the transfers of the first phase stand before those of the second: where the slot's transfers are the same,
-- so are those of each phase, and they tell the matchings (`transfers_tell_the_matching`). All else follows from the
-- state and what arrives. In a run the transfers of a slot stand before those of later ones. Last, slots that a replay
-- skips: no line is of an earlier slot, and where one is of this slot, none is skipped. And a stretch of no slots leaves
-- everything as it is.
use Rattle.cq_audit.proofs.Terms.{common_steps, rules, ◌≡◌, ℕ, ◌+◌, ◌<◌, ◌≤◌, List, [], ◌∷◌, length, Option, arith, AllByRecursion, Cell, Queued, Machine, Marked, orders_of, transfers_of, Orders, IsStable, Partners, Fabric, FabricSlot, SlotRecord, LimitedFabricRun, LimitedRecord, slots_in, Transfers, transfers_in, transfers_of_run, one_arrival, one_departure, one_transfer, same_record, transfers_tell, all_weaker, in_phase, all_both, all_from_has, looked_up, Bool, true, ◌++◌, refl, ◌⊎◌, take, drop, ap, ⊎_elim, filter, position_or_len, and_left, and_parts, cases_lt, cond_both, eq-eqb, eqb-true, lt-ltb, ltb-true, ne_eqb, cases_Bool, append-nil, append_cancel_left, filter-append, Transfer, AreInOrder, IsTransferBefore, AllBehind, NoneBefore, is_at, AreParted, FirstIsLeast, before_slot, not, first_here, first_later, all_front, all_give, filter_all, filter_none, recursion_from_All, Some, slice_get, Arrival, HasRested, IsInStep, ReplayView, IsStill, IsStillUntil}
use Rattle.std.proofs.lemmas.Bool.Decides.{nat_tests}

-- ## What is kept of lines by a test

module _ (keep : Transfer → Bool) where
  -- no test that all these pass takes a line from them
  keeps_of_kept : (wider : Transfer → Bool) → ((t : Transfer) → keep t ≡ true → wider t ≡ true) →
      (xs : List Transfer) → filter keep (filter wider xs) ≡ filter keep xs
  keeps_of_kept wider all [] = refl
  keeps_of_kept wider all (x ∷ xs) = grind (arith, common_steps, cond_both, all x, keeps_of_kept wider all xs)

-- ## Lines before a slot

module _ (slot : ℕ) where
  pub before_is : (xs ys : List Transfer) → AllByRecursion (λ t. t.slot < slot) xs →
      AllByRecursion (λ t. slot ≤ t.slot) ys → before_slot slot (xs ++ ys) ≡ xs
  before_is xs ys all none = search (arith, rules, filter-append, filter_all, filter_none, all_weaker, nat_tests)

  -- so they are parted in one way
  pub one_parting : (xs ys us vs : List Transfer) → AllByRecursion (λ t. t.slot < slot) xs →
      AllByRecursion (λ t. slot ≤ t.slot) ys → AllByRecursion (λ t. t.slot < slot) us →
      AllByRecursion (λ t. slot ≤ t.slot) vs → xs ++ ys ≡ us ++ vs → (xs ≡ us) × (ys ≡ vs)
  one_parting xs ys us vs a b c d e = search (rules, before_is, append_cancel_left)

  -- those before this slot are among those before a later one
  pub before_later : (to : ℕ) (note : List Transfer) → slot ≤ to →
      before_slot slot (before_slot to note) ≡ before_slot slot note
  before_later to note le = grind (arith, common_steps, keeps_of_kept, ltb-true, lt-ltb)

  -- ## Lines of a phase

  module _ (phase : ℕ) where
    -- earlier lines are none of this phase
    pub phase_later : (xs ys : List Transfer) → AllByRecursion (λ t. t.slot < slot) xs →
        in_phase slot phase (xs ++ ys) ≡ in_phase slot phase ys
    phase_later xs ys all = grind (arith, common_steps, filter-append, filter_none, all_weaker, and_left, ne_eqb)

    -- and so are later ones
    pub phase_now : (xs ys : List Transfer) → AllByRecursion (λ t. slot + 1 ≤ t.slot) ys →
        in_phase slot phase (xs ++ ys) ≡ in_phase slot phase xs
    phase_now xs ys all = search (rules, filter-append, filter_none, all_weaker, and_left, ne_eqb, append-nil)

    -- the lines of the phase are before each later slot
    pub phase_before : (to : ℕ) (note : List Transfer) → slot < to →
        in_phase slot phase (before_slot to note) ≡ in_phase slot phase note
    phase_before to note lt = grind (arith, common_steps, keeps_of_kept, and_parts, eqb-true, lt-ltb)

  -- so the lines of the second phase are those behind the lines of the first
  pub second_behind : (xs ys : List Transfer) → AllByRecursion (λ t. (t.slot ≡ slot) × (t.phase ≡ 1)) xs →
      in_phase slot 2 (xs ++ ys) ≡ in_phase slot 2 ys
  second_behind xs ys first = search (arith, rules, filter-append, filter_none, all_weaker, nat_tests)

-- ## Lines in order

module _ (ports : ℕ) where
  pub first_least : (lines : List Transfer) → AreInOrder ports lines → FirstIsLeast lines
  first_least lines order = grind (arith, common_steps, all_weaker)

  -- lines of no earlier slot are of no earlier phase than its first
  pub none_from : (slot : ℕ) (lines : List Transfer) → AreInOrder ports lines →
      AllByRecursion (λ t. slot ≤ t.slot) lines → NoneBefore slot 1 lines
  none_from slot [] order all = tt
  none_from slot (t ∷ lines) order all = grind (arith, common_steps, cases_lt, none_from slot lines order.2 all.1)

  pub none_first : (lines : List Transfer) → AreInOrder ports lines → NoneBefore 0 1 lines
  none_first lines order = none_from 0 lines order (recursion_from_All _ lines (λ k d lt. omega arith))

  -- behind the second phase of a slot they are of later slots
  pub none_next : (slot : ℕ) (lines : List Transfer) → AreInOrder ports lines → AllBehind slot 2 lines →
      NoneBefore (slot + 1) 1 lines
  none_next slot [] order behind = tt
  none_next slot (t ∷ lines) order behind = search (rules, cases_lt, none_next slot lines order.2 behind.1)

module _ (ports slot phase : ℕ) where
  -- a line behind this phase has only lines behind it behind it
  all_behind : (t : Transfer) (rest : List Transfer) → (slot < t.slot) ⊎ ((slot ≡ t.slot) × (phase < t.phase)) →
      AllByRecursion (IsTransferBefore t) rest → AllBehind slot phase rest
  all_behind t rest behind = all_weaker _ _ (λ u after. grind arith) rest

  none_of_it : (rest : List Transfer) → AllBehind slot phase rest → in_phase slot phase rest ≡ []
  none_of_it rest all = search (arith, rules, filter_none, all_weaker, and_parts, eqb-true, ne_eqb)

  pub parted : (note : List Transfer) (end : ℕ) → end ≡ position_or_len (λ t. not (is_at slot phase t)) note →
      AreInOrder ports note → NoneBefore slot phase note →
      AreParted ports slot phase note (take end note) (drop end note)
  parted [] end is order none = rw is (search (arith, rules))
  parted (t ∷ note) end is order none =
      let other = λ (u : Transfer). not (is_at slot phase u) in
      let had = parted note (position_or_len other note) refl order.2 none.1 in
      ⊎_elim (λ (here : is_at slot phase t ≡ true). rw (is, first_later other t note (ap not here))
      (search (arith, rules, all_front (IsTransferBefore t), had.whole, all_give, and_parts, eqb-true)))
      (λ away. grind (arith, common_steps, first_here, eq-eqb, cases_lt, all_behind, none_of_it))
      (cases_Bool (is_at slot phase t))

-- ## What is noted of a phase

pub transfers_at : (m : Partners) (lists : List (List Queued)) (slot phase : ℕ) →
    AllByRecursion (λ t. (t.slot ≡ slot) × (t.phase ≡ phase)) (transfers_of m lists slot phase)
unfolding transfers_of
transfers_at m lists slot phase = search (arith, rules, all_from_has, looked_up)

-- the transfers of a slot, phase by phase
pub each_moved : (r : SlotRecord) →
    (in_phase r.slot 1 (transfers_in r) ≡ transfers_of r.first r.arrived.inputs r.slot 1)
    × (in_phase r.slot 2 (transfers_in r) ≡ transfers_of r.second r.sent.inputs r.slot 2)
unfolding transfers_in
each_moved r = search (rules, filter-append, filter_all, filter_none, all_weaker, nat_tests, transfers_at)

-- ## One state after each step

-- from one state, by the same transfers
pub one_move : (m n : Partners) (slot phase : ℕ) (a b c d : Fabric) → a ≡ b → IsStable (orders_of a.inputs) m →
    IsStable (orders_of b.inputs) n → transfers_of m a.inputs slot phase ≡ transfers_of n b.inputs slot phase →
    Transfers m a c → Transfers n b d → (m ≡ n) × (c ≡ d)
one_move m n slot phase a b c d same stable_m stable_n moved x y = search (rules, transfers_tell, one_transfer)

-- ## One slot

module _ (ms : List Machine) where
  pub one_stable_slot : (slot : ℕ) (cells : List (Option Cell)) (f g h : Fabric) (r s : SlotRecord) →
      FabricSlot IsStable ms slot cells f r g → FabricSlot IsStable ms slot cells f s h →
      transfers_in r ≡ transfers_in s → (r ≡ s) × (g ≡ h)
  one_stable_slot slot cells f g h r s x y moved =
      let of_r = each_moved r in
      let of_s = each_moved s in
      let arrive = one_arrival ms slot cells r.came s.came f r.arrived s.arrived x.arrive y.arrive in
      let first = one_move r.first s.first r.slot 1 r.arrived s.arrived r.filled s.filled arrive.1 in
      search (rules, same_record, one_departure, first, one_move r.second s.second r.slot 2 r.sent s.sent g h)

pub slot_at : (MayChoose : Orders → Partners → Type 0) (ms : List Machine) (slot : ℕ) (cells : List (Option Cell))
    (f g : Fabric)
    (r : SlotRecord) → FabricSlot MayChoose ms slot cells f r g → AllByRecursion (λ t. t.slot ≡ slot) (transfers_in r)
unfolding transfers_in
slot_at MayChoose ms slot cells f g r step = grind (arith, common_steps, all_both, all_weaker, transfers_at)

-- ## One run

module _ (limits : List (Option ℕ)) (ms : List Machine) where
  -- the transfers of a run are of its slots
  pub run_within : (slot : ℕ) (traffic : List (List (Option Cell))) (f g : Marked Fabric) (rs : List LimitedRecord) →
      LimitedFabricRun IsStable limits ms slot traffic f rs g →
      AllByRecursion (λ t. (slot ≤ t.slot) × (t.slot < slot + length traffic)) (transfers_of_run (slots_in rs))
  unfolding transfers_of_run
  run_within slot (cells ∷ traffic) f g (r ∷ rs) x =
      search (arith, rules, all_both, all_weaker, slot_at IsStable ms, run_within (slot + 1) traffic x.0 g rs)
  run_within slot traffic f g rs x = grind (arith, common_steps)

  pub run_later : (slot : ℕ) (traffic : List (List (Option Cell))) (f g : Marked Fabric) (rs : List LimitedRecord) →
      LimitedFabricRun IsStable limits ms slot traffic f rs g →
      AllByRecursion (λ t. slot ≤ t.slot) (transfers_of_run (slots_in rs))
  run_later slot traffic f g rs run = search (arith, rules, all_weaker, run_within)

  pub one_stable_run : (slot : ℕ) (traffic : List (List (Option Cell))) (f g h : Marked Fabric)
      (rs ss : List LimitedRecord) → LimitedFabricRun IsStable limits ms slot traffic f rs g →
      LimitedFabricRun IsStable limits ms slot traffic f ss h →
      transfers_of_run (slots_in rs) ≡ transfers_of_run (slots_in ss) → (rs ≡ ss) × (g ≡ h)
  unfolding transfers_of_run
  one_stable_run slot (cells ∷ traffic) f g h (r ∷ rs) (s ∷ ss) x y moved =
      let parts = one_parting (slot + 1) (transfers_in r.of_slot) (transfers_of_run (slots_in rs)) in
      let one = one_stable_slot ms slot r.admission.cells f.state x.0.state y.0.state r.of_slot s.of_slot x.1.runs in
      search (arith, rules, parts, all_weaker, run_later, slot_at IsStable ms, one, one_stable_run (slot + 1) traffic)
  one_stable_run slot traffic f g h rs ss x y moved = grind (arith, common_steps)

-- ## Slots that are skipped: up to where nothing happens

-- none of the lines is of an earlier slot
pub all_late : (slot : ℕ) (lines : List Transfer) → NoneBefore slot 1 lines → AllByRecursion (λ t. slot ≤ t.slot) lines
all_late slot lines = all_weaker _ _ (λ t had. grind arith) lines

-- no slot is skipped
pub not_skipped : (came : List Arrival) (slot : ℕ) (lines : List Transfer) → NoneBefore slot 1 lines →
    IsStill came lines slot slot
not_skipped came slot lines before = grind (arith, common_steps, all_late)

-- where there is a line of this slot, no slot is skipped
pub until_here : (came : List Arrival) (slot : ℕ) (lines : List Transfer) (t : Transfer) → NoneBefore slot 1 lines →
    Some t ≡ slice_get lines 0 → t.slot ≡ slot → IsStillUntil came lines slot slot
until_here came slot [] t before first here = cc
until_here came slot (u ∷ lines) t before first here = search (arith, rules, not_skipped came slot (u ∷ lines))

-- ## A stretch of no slots

pub no_rest : (ms : List Machine) (slot : ℕ) (v : ReplayView) → IsInStep ms slot v → HasRested ms slot slot v v
no_rest ms slot v step = search rules

pub ruleset skip_steps = (not_skipped, no_rest, first_least)
