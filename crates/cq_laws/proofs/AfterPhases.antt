-- What the phases of a slot do to slacks, and what they keep.
-- Arrivals. A cell goes in at its cushion or ahead of it; no other cell of the list goes back by more than a place,
-- and no buffer changes, so a slack falls by one at most. The cells that come have the slot that begins, which no
-- older cell has, and the inputs at which they come, which all differ: so no key is twice. Each older cell for the
-- same output in the list has slack 1 at least, so where it is more urgent than the new cell it stands below the new
-- cell's cushion: so the insertion keeps the order. And the cells for each output are those that were there and
-- those that came for it.
-- Departures take the first cell out of each buffer, and nothing else changes. So each cushion falls by one at most,
-- and no input thread changes.
-- The transfer of a stable matching leaves a cell at an input only where the input gave a cell that stood ahead of
-- it, or its output got a cell that is more urgent: else the input and the output would be a pair that blocks. So
-- its input thread falls or its cushion rises, and neither ever goes the other way. It follows that the most urgent
-- cell for an output is never left: it would have slack 1, so a cushion, so a more urgent cell for the same output.
-- Each cell is where it was or has crossed to its output, and the first cell for an output that a list gave is in it
-- no more: so no key is twice, and the cells for each output stay the same.
-- Last what ranking gives, as the fabric sees it: each cell that came has the slot, the input at which it came, and is
-- the one that arrived there.
use Rattle.cq_laws.proofs.Terms.{rules, ◌≡◌, ◌≢◌, ℕ, suc, ◌+◌, ◌<◌, ◌≤◌, ◌⊎◌, ◌↔◌, List, Option, Some, None, refl, sym, ap, ◌∙◌, inl, inr, ⊎_elim, arith, common_steps, slice_get, eq-eqb, same_Some, cushion_of, Queued, Fabric, input, buffer, IsAmong, IsFabric, ListsKeepOrder, Transfers, EachRises, HasSlack, put, KeepsOrder, is_for, first_for, place_for, without_first, key_laws, first_le, each_pair_left, IsListed, place_in, outputs_of, partner_of, depth, HasBetterInput, IsOutputOrder, AreOrdersOf, orders_of, list_taken, HasFor, IsMostUrgentFor, has_there, stands_at, Partners, IsStable, zero, [], ◌∷◌, cases_lt, cases_eq, eqb-true, IsBefore, each_pair_at, length, Key, Cell, Machine, came_to, list_arrived, Arrives, keeps_order_arrival, all_from_has, drop, Departs, rests, list_of, EachFalls, EachArrivesOrFalls, length-map, IsRising, take-append-drop, has_right, Ok, Ranking, ranking, arrival_at, AreForPorts}
use Rattle.cq_laws.proofs.Sound.{from_first, first_at, first_of, left_at, left_or_first, among_put, rising_put, was_waiting, same_cell, Apart, Sound, one_in_order, orders_are, among_insert, insert_has, inserted_at}
use Rattle.cq_laws.proofs.Cushions.{bit_true, cushion_cons, cushion_has, cushion_put, cushion_rises}
pub use Rattle.cq_ideal.proofs.Came.{came_from}

-- ## Slacks after arrivals and after departures

module _ (ms : List Machine) (slot : ℕ) (cells : List (Option Cell)) (came : List (Option Queued)) (old new : Fabric)
    (arrive : Arrives ms slot cells came old new) where
  pub arrivals_fall : EachArrivesOrFalls came old new
  arrivals_fall i t c at = search (arith, rules, arrive.buffers, arrive.lists i, inserted_at)

pub rest_of : (lists : List (List Queued)) (j : ℕ) → list_of (rests lists) j ≡ drop 1 (list_of lists j)
rest_of lists j = grind (arith, common_steps)

pub departures_fall : (ms : List Machine) (gone : List (Option Queued)) (old new : Fabric) → Departs ms gone old new →
    EachFalls 1 old new
departures_fall ms gone old new depart i t c at = search (arith, rules, rest_of, cushion_cons)

-- ## What arrivals keep

-- the cells that came have this slot, their input, and an output of the switch
pub record Keyed (slot ports : ℕ) (came : List (Option Queued)) : Type 0 where
  pub slot_is : (k : ℕ) (q : Queued) → came_to came k ≡ Some q → q.key.slot ≡ slot
  pub input_is : (k : ℕ) (q : Queued) → came_to came k ≡ Some q → q.key.input ≡ k
  pub outputs : (k : ℕ) (q : Queued) → came_to came k ≡ Some q → q.cell.output < ports

-- a cell in a list after a cell may have come was there or is the one that came
pub came_or_was : (f : Fabric) (came : Option Queued) (xs : List Queued) (c : Queued) →
    IsAmong c (list_arrived f came xs) → (came ≡ Some c) ⊎ IsAmong c xs
came_or_was f came xs c has = grind (arith, common_steps, among_insert)

-- a cell for output j came
abbrev pub CameFor : List (Option Queued) → ℕ → Queued → Type 0
CameFor came j c = (k : ℕ) × (came_to came k ≡ Some c) × (c.cell.output ≡ j)

module _ (ms : List Machine) (slot : ℕ) (cells : List (Option Cell)) (came : List (Option Queued)) (old new : Fabric)
    (arrive : Arrives ms slot cells came old new) (keyed : Keyed slot (length old.inputs) came) where
  pub arrived_fabric : IsFabric old → IsFabric new
  arrived_fabric fabric = search (rules, fabric.outputs, among_insert, fabric.own)

  module _ (sound : Sound slot old) (slack : HasSlack 1 old) where
    -- a cell that came has the key of no older one
    new_old : (k : ℕ) (q d : Queued) → came_to came k ≡ Some q → d.key.slot < slot → q.key ≢ d.key
    new_old k q d e lt same =
        let s = keyed.slot_is k q e in
        let t = ap (λ (x : Key). x.slot) same in omega arith

    ordered : (i : ℕ) (q : Option Queued) → came_to came i ≡ q → KeepsOrder (list_arrived old q (input old i))
    ordered i None e = sound.order i
    ordered i (Some n) e = keeps_order_arrival (cushion_of old n) n (input old i) (sound.order i)
        (all_from_has _ (input old i) (λ x k. grind (arith, new_old i n x e, sound.early.waiting i x k)))
        (λ s x at out lt. search (arith, rules, cushion_rises x.key n.key (buffer old x.cell.output) lt))

    pub arrived_sound : Sound (slot + 1) new
    arrived_sound = search (arith, rules, same_Some, new_old, arrived_fabric, among_insert, ordered)

    pub arrived_has : (j : ℕ) (c : Queued) → HasFor new j c ↔ (HasFor old j c ⊎ CameFor came j c)
    arrived_has j c = search (arith, rules, among_insert, insert_has)

-- ## What departures keep

pub rising_rest : (xs : List Queued) → IsRising xs → IsRising (drop 1 xs)
rising_rest xs r = grind (arith, common_steps)

module _ (ms : List Machine) (gone : List (Option Queued)) (slot : ℕ) (old new : Fabric)
    (depart : Departs ms gone old new) where
  pub sent_buffer : (j : ℕ) → buffer new j ≡ drop 1 (buffer old j)
  sent_buffer j = ap (λ b. list_of b j) depart.buffers ∙ rest_of old.buffers j

  was_crossed : (j : ℕ) (c : Queued) → IsAmong c (buffer new j) → IsAmong c (buffer old j)
  was_crossed j c h = grind (arith, common_steps, sent_buffer j, has_right, take-append-drop 1 (buffer old j))

  pub sent_fabric : IsFabric old → IsFabric new
  sent_fabric fabric = search (rules, length-map, fabric.outputs, fabric.own, was_crossed, sent_buffer, rising_rest)

  pub sent_sound : Sound slot old → Sound slot new
  sent_sound sound = search (arith, rules, sent_fabric, was_crossed)

-- ## Whose partner an output is

pub is_partner : (x : Option ℕ) (j : ℕ) → (x ≡ Some j) ⊎ (x ≢ Some j)
is_partner o j = search (arith, rules, cases_eq, same_Some)

-- an output has an input whose partner it is, or none
pub sender : (m : Partners) (j : ℕ) → ((i : ℕ) × (partner_of m i ≡ Some j)) ⊎ ((i : ℕ) → partner_of m i ≢ Some j)
sender [] j = inr (λ i e. cc)
sender (x ∷ m) j = ⊎_elim (λ e. inl (zero, e)) (λ ne. ⊎_elim (λ r. inl (suc r.0, r.1))
    (λ none. inr (λ i e. grind (arith, none, ne))) (sender m j)) (is_partner x j)

-- the first cell for an output is no less urgent than any other for it
pub first_least : (j : ℕ) (xs : List Queued) (s : ℕ) (c f : Queued) → KeepsOrder xs → slice_get xs s ≡ Some c →
    c.cell.output ≡ j → first_for j xs ≡ Some f → (f ≡ c) ⊎ IsBefore f c
first_least j xs s c f order at out is =
    search (arith, rules, first_at (is_for j) xs f is, first_le, eq-eqb, each_pair_at, eqb-true, cases_lt, same_Some)

-- ## Lists without a first cell

-- the first cell for an output is not left
not_left : (j : ℕ) (xs : List Queued) (f : Queued) → KeepsOrder xs → first_for j xs ≡ Some f →
    IsAmong f (without_first j xs) → ⊥
not_left j xs f order is h =
    let r = stands_at (without_first j xs) f h in
    grind (arith, common_steps, first_at (is_for j) xs f is, left_at j xs r.0 f r.1, one_in_order xs)

-- where a cell that stays stood before: no sooner, and behind a cell that was taken one place later
stayed : (p : Option ℕ) (xs : List Queued) (t : ℕ) (c : Queued) → slice_get (list_taken p xs) t ≡ Some c →
    (place : ℕ) × (slice_get xs place ≡ Some c) × (t ≤ place)
    × ((k : ℕ) → p ≡ Some k → place_for k xs ≤ place → place ≡ suc t)
stayed p xs t c h = grind (arith, common_steps, left_at)

-- a partner that is preferred has its first cell ahead
better_ahead : (order : List ℕ) (cells : List Queued) (p : Option ℕ) (j : ℕ) → IsOutputOrder cells order →
    IsListed order j → depth order p < place_in order j →
    (k : ℕ) × (p ≡ Some k) × (place_for k cells < place_for j cells)
better_ahead order cells p j is listed lt = grind (arith, common_steps, is.by_place)

left_or_taken : (p : Option ℕ) (xs : List Queued) (c : Queued) → IsAmong c xs →
    IsAmong c (list_taken p xs) ⊎ ((k : ℕ) × (p ≡ Some k) × (first_for k xs ≡ Some c))
left_or_taken p xs c h = grind (arith, common_steps, left_or_first)

-- ## The transfer of a stable matching

module _ (old new : Fabric) (m : Partners) (fabric : IsFabric old) (order : ListsKeepOrder old) (apart : Apart old)
    (stable : IsStable (orders_of old.inputs) m) (moves : Transfers m old new) where
  are : AreOrdersOf old.inputs (orders_of old.inputs)
  are = orders_are old apart

  -- a buffer is as it was, or got a cell, the first for the output of the input whose partner it is
  same_or_got : (j : ℕ) → (buffer new j ≡ buffer old j) ⊎ ((i : ℕ) × (c : Queued) × (partner_of m i ≡ Some j) ×
      (first_for j (input old i) ≡ Some c) × (buffer new j ≡ put c (buffer old j)))
  same_or_got j = ⊎_elim (λ r. let f = ((are.outputs r.0).offered j).0 (stable.matching.offered r.0 j r.1) in
      inr (r.0, f.0, r.1, f.1, moves.moves.given r.0 j f.0 r.1 f.1)) (search (arith, rules)) (sender m j)

  -- ## Slacks

  -- an output that has an input that it prefers gained a cell that is more urgent
  cushion_gained : (i s : ℕ) (c : Queued) → slice_get (input old i) s ≡ Some c →
      HasBetterInput (orders_of old.inputs) m i c.cell.output → 1 + cushion_of old c ≤ cushion_of new c
  cushion_gained i s c at better =
      let j = c.cell.output in
      let d = ((are.outputs better.0).offered j).0 (stable.matching.offered better.0 j better.1) in
      let is = moves.moves.given better.0 j d.0 better.1 d.1 in
      let f = first_of (is_for j) (input old i) c (has_there (input old i) s c at) (eq-eqb j j refl) in
      let before = (are.inputs j (fabric.outputs i c (has_there (input old i) s c at))).by_key better.0 i d.0 f.0 in
      search (arith, rules, before, first_least j (input old i) s c f.0 (order i), key_laws.on, cushion_put, bit_true)

  pub matching_rises : EachRises 1 old new
  matching_rises i t c at =
      let j = c.cell.output in
      let xs = input old i in
      let st = stayed (partner_of m i) xs t c (ap (λ l. slice_get l t) (sym (moves.moves.taken i)) ∙ at) in
      let le = first_le (is_for j) xs st.0 c st.1 (eq-eqb j j refl) in
      let first = first_of (is_for j) xs c (has_there xs st.0 c st.1) (eq-eqb j j refl) in
      let offered = ((are.outputs i).offered j).1 first in
      let better = better_ahead (outputs_of (orders_of old.inputs) i) xs (partner_of m i) j (are.outputs i) offered in
      search (arith, rules, is_partner, cushion_gained i st.0 c st.1, same_or_got, cushion_put)

  pub slack_risen : (n : ℕ) → HasSlack n old → HasSlack (1 + n) new
  slack_risen n slack i t c at = grind (arith, common_steps, matching_rises i t c at)

  -- ## The cells for an output stay the same

  -- in a buffer there is what was there and what was taken for it
  from_buffer : (j : ℕ) (c : Queued) → IsAmong c (buffer new j) →
      IsAmong c (buffer old j) ⊎ ((i : ℕ) × (partner_of m i ≡ Some j) × (first_for j (input old i) ≡ Some c))
  from_buffer j c h = grind (arith, common_steps, same_or_got j, among_put)

  pub has_after : (j : ℕ) (c : Queued) → HasFor old j c → HasFor new j c
  has_after j c (inr b) = grind (arith, common_steps, same_or_got j, among_put)
  has_after j c (inl w) =
      let left = left_or_taken (partner_of m w.0) (input old w.0) c w.1 in
      grind (arith, common_steps, left, moves.moves.taken w.0, moves.moves.given w.0 j c, from_first, among_put)

  pub has_before : (j : ℕ) (c : Queued) → HasFor new j c → HasFor old j c
  has_before j c h = ⊎_elim (λ w. inl (w.0, was_waiting moves.moves w.0 c w.1, w.2)) (λ b. ⊎_elim (λ k. inr k)
      (λ r. let f = from_first j (input old r.0) c r.2 in inl (r.0, f.0, f.1)) (from_buffer j c b)) h

  -- ## Head of line

  pub least_buffered : HasSlack 0 old → (j : ℕ) (c : Queued) → IsMostUrgentFor old j c → IsAmong c (buffer new j)
  least_buffered slack j c least = ⊎_elim (λ w.
      let at = stands_at (input new w.0) c w.1 in
      search (arith, rules, slack_risen 0 slack w.0 at.0, cushion_has, has_before)) (λ b. b) (has_after j c least.there)

  -- ## What it keeps

  -- a cell that crossed waits nowhere
  moved_waits : (i r j : ℕ) (c f : Queued) → IsAmong c (input new i) → partner_of m r ≡ Some j →
      first_for j (input old r) ≡ Some f → c.key ≢ f.key
  moved_waits i r j c f h p is e =
      search (arith, rules, apart.waiting i r c f, was_waiting moves.moves, from_first, not_left)

  moved_apart : Apart new
  moved_apart =
      let stood = was_waiting moves.moves in
      let had = λ (j : ℕ) (c : Queued) (a : IsAmong c (buffer new j)). has_before j c (inr a) in
      search (arith, rules, apart.waiting, apart.between, stood, moved_waits, from_buffer, same_cell old apart, had)

  pub moved_fabric : IsFabric new
  moved_fabric =
      record {
        square = cc;
        outputs = search (arith, rules, fabric.outputs, was_waiting moves.moves);
        own = λ j c h. grind (arith, has_before j c (inr h), fabric.own j c);
        rising = λ j. ⊎_elim (λ e. rw e (fabric.rising j)) (λ g. rw g.4 (rising_put g.1 (buffer old j) (fabric.rising j)
            (λ d. apart.between g.0 j g.1 d (from_first j (input old g.0) g.1 g.3).0))) (same_or_got j);
      }

-- what is so after a transfer
pub record Moved (slot : ℕ) (old new : Fabric) : Type 0 where
  pub sound : Sound slot new
  pub rises : EachRises 1 old new
  pub slack : (n : ℕ) → HasSlack n old → HasSlack (1 + n) new
  pub has : (j : ℕ) (c : Queued) → HasFor new j c ↔ HasFor old j c

module _ (slot : ℕ) (old new : Fabric) (m : Partners) (sound : Sound slot old)
    (stable : IsStable (orders_of old.inputs) m) (moves : Transfers m old new) where
  pub moved_sound : Sound slot new
  moved_sound = search (arith, rules, moved_fabric, moved_apart, has_before, each_pair_left, was_waiting moves.moves)

  pub moved : Moved slot old new
  moved = search (rules, has_after, has_before, moved_sound, matching_rises, slack_risen)

-- ## What ranking gives

-- where the cells of a slot arrived, each that came to an input is the one that arrives there
pub came_cell : {ms : List Machine} {slot : ℕ} {cells : List (Option Cell)} {came : List (Option Queued)}
    {old new : Fabric} → Arrives ms slot cells came old new → (i : ℕ) (c : Queued) → came_to came i ≡ Some c →
    arrival_at cells i ≡ Some c.cell
came_cell {ms} {slot} {cells} {came} {old} {new} arrives i c is =
    (came_from ms slot 0 cells old.ranks (record { came = came; ranks = new.ranks }) arrives.ranked i c is).cell_is

-- so the cells of a slot that are for the ports of the switch are keyed as arrivals keep it
pub keyed_from : (ms : List Machine) (slot ports class_count : ℕ) (cells : List (Option Cell)) (ranks : List (List ℕ))
    (r : Ranking) → ranking ms slot 0 cells ranks ≡ Ok r → AreForPorts ports class_count cells →
    Keyed slot ports r.came
keyed_from ms slot ports class_count cells ranks r h are = search (arith, rules, came_from ms slot 0 cells ranks r h)
