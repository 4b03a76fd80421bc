-- One slot of the ideal switch and of the fabric, from states that agree. The slack is 1 at least before the slot, 0
-- after the arrivals, 1 after the first transfer, 0 after the departures, and 1 again after the second transfer.
-- After the first transfer each cell that still waits at an input has slack 1, so it comes after a cell that its
-- output has: the ideal list covers the buffer, both send the same cell, and the states agree again.
use Rattle.cq_laws.proofs.Terms.{rules, ◌≡◌, ℕ, ◌+◌, ◌↔◌, List, length, Option, Err, sym, ◌∙◌, inl, inr, arith, drop, zero, suc, ◌⊎◌, [], ◌∷◌, refl, common_steps, Cell, Queued, TagFault, Machine, AreForPorts, IsStable, Fabric, input, buffer, IsAmong, HasSlack, SlotRecord, FabricSlot, Partners, Agrees, IsWholeFabric, ListsKeepOrder, EachIsWhole, Arrives, Transfers, Departs, IsBefore, IsRising, put_all, filled, fronts, rests, all_told, ideal_slot, list_of, HasFor, SendsAlike, slice_get, length-map-range_with_len, length-filled, ranks_kept, all_of_has, stands_at, ranking, orders_of, IdealState, length-map}
use Rattle.cq_laws.proofs.Cushions.{cushion_has}
use Rattle.cq_laws.proofs.AfterPhases.{arrivals_fall, departures_fall, rest_of, Keyed, arrived_sound, arrived_has, arrived_fabric, sent_sound, sent_buffer, rising_rest, sent_fabric, Moved, moved, moved_fabric, keyed_from}
use Rattle.cq_laws.proofs.Sound.{Sound, apart_from, early_from, differ_from, all_before, Apart, never_both, not_before_itself, same_first}
use Rattle.cq_laws.proofs.IdealLists.{among_put_all, put_all_keeps, put_all_new, rising_put_all, list_after}

-- ## Why the outputs send the same cells

-- The ideal list of an output covers the fabric's buffer: it has the cells of the buffer and others that still wait
-- at the inputs, and each of those comes after a cell of the buffer. So the first cells of both are the same, and
-- when they have left, what is left is covered again.

pub same_fronts : (more bs : List (List Queued)) → length more ≡ length bs →
    ((j : ℕ) → slice_get (list_of more j) 0 ≡ slice_get (list_of bs j) 0) → fronts more ≡ fronts bs
same_fronts (a ∷ more) (b ∷ bs) n h = grind (arith, h zero, same_fronts more bs (omega arith) (λ j. h (suc j)))
same_fronts more bs n h = grind (arith, common_steps)

-- Two rising lists, where the first has the cells of the second and others that wait, each behind a more urgent one
-- of the second.
module _ (Waits : Queued → Type 0) where
  pub record Covers (full buf : List Queued) : Type 0 where
    pub up : IsRising full
    pub up' : IsRising buf
    pub to : (c : Queued) → IsAmong c full → Waits c ⊎ IsAmong c buf
    pub back : (c : Queued) → Waits c ⊎ IsAmong c buf → IsAmong c full
    pub behind : (c : Queued) → Waits c → (d : Queued) × IsAmong d buf × IsBefore d c

  -- their fronts are one, and the others of the first are those that wait and the others of the second
  pub record Follows (full buf : List Queued) : Type 0 where
    pub front : slice_get full 0 ≡ slice_get buf 0
    pub to : (c : Queued) → IsAmong c (drop 1 full) → Waits c ⊎ IsAmong c (drop 1 buf)
    pub back : (c : Queued) → Waits c ⊎ IsAmong c (drop 1 buf) → IsAmong c (drop 1 full)

  -- the front does not wait
  front_there : (a : Queued) (more buf : List Queued) → Covers (a ∷ more) buf → IsAmong a buf
  front_there a more buf h = grind (arith, common_steps, never_both, not_before_itself, all_of_has, h.to, h.behind)

  pub follows : (full buf : List Queued) → Covers full buf → Follows full buf
  follows [] [] h = record { front = refl; to = h.to; back = h.back }
  follows [] (b ∷ bs) h = absurd (h.back b (inr (inl refl)))
  follows (a ∷ more) [] h = absurd (front_there a more [] h)
  follows (a ∷ more) (b ∷ bs) h = search (rules, front_there, same_first, all_of_has, not_before_itself, never_both)

-- ## The same tag fault

pub same_fault : (ms : List Machine) (slot : ℕ) (cells : List (Option Cell)) (f : Fabric) (ideal : IdealState)
    (fault : TagFault) → Agrees slot f ideal →
    (ideal_slot ms slot cells ideal ≡ Err fault) ↔ (ranking ms slot 0 cells f.ranks ≡ Err fault)
unfolding ideal_slot
same_fault ms slot cells f ideal fault agrees = search (arith, rules)

-- ## The same departures

-- a cell for output j that waits at an input
abbrev WaitsFor : List (List Queued) → ℕ → Queued → Type 0
WaitsFor inputs j c = (i : ℕ) × IsAmong c (list_of inputs i) × (c.cell.output ≡ j)

-- with slack 1 each such cell comes after one in the buffer
behind_one : (f : Fabric) → HasSlack 1 f → (j : ℕ) (c : Queued) → WaitsFor f.inputs j c →
    (d : Queued) × IsAmong d (buffer f j) × IsBefore d c
behind_one f slack j c w =
    grind (arith, common_steps, stands_at (input f w.0) c w.1, cushion_has c.key (buffer f c.cell.output))

pub sound_from : (slot : ℕ) (f : Fabric) (ideal : IdealState) → Agrees slot f ideal → Sound slot f
sound_from slot f ideal agrees = grind (arith, common_steps, apart_from, early_from)

module _ (ms : List Machine) (slot class_count : ℕ) (cells : List (Option Cell)) (f f' : Fabric) (ideal : IdealState)
    (r : SlotRecord) (agrees : Agrees slot f ideal) (come : AreForPorts (length f.inputs) class_count cells)
    (step : FabricSlot IsStable ms slot cells f r f') where
  pub keyed : Keyed slot (length f.inputs) r.came
  keyed = keyed_from ms slot (length f.inputs) class_count cells f.ranks _ step.arrive.ranked come

  pub old_sound : Sound slot f
  old_sound = sound_from slot f ideal agrees

  pub arrived : Sound (slot + 1) r.arrived
  arrived = arrived_sound ms slot cells r.came f r.arrived step.arrive keyed old_sound agrees.slack

  pub slack_arrived : HasSlack 0 r.arrived
  slack_arrived i t c at =
      grind (arith, common_steps, agrees.slack, arrivals_fall ms slot cells r.came f r.arrived step.arrive i t c at)

  pub first : Moved (slot + 1) r.arrived r.filled
  first = moved (slot + 1) r.arrived r.filled r.first arrived step.first_chosen step.fill

  pub after_sent : Sound (slot + 1) r.sent
  after_sent = sent_sound ms r.gone (slot + 1) r.filled r.sent step.depart first.sound

  pub second : Moved (slot + 1) r.sent f'
  second = moved (slot + 1) r.sent f' r.second after_sent step.second_chosen step.finish

  -- the ideal lists with the arrivals
  abbrev lists : List (List Queued)
  lists = filled r.came ideal.lists

  abbrev full : ℕ → List Queued
  full j = list_of lists j

  full_is : (j : ℕ) → full j ≡ put_all j r.came (list_of ideal.lists j)
  full_is j = list_after r.came ideal.lists (λ k q e. rw agrees.ports (keyed.outputs k q e)) j

  full_rises : (j : ℕ) → IsRising (full j)
  full_rises j = rw (full_is j) (rising_put_all j r.came (list_of ideal.lists j) (agrees.rising j)
      (λ k q d e h same. search (arith, rules, old_sound.early, agrees.same, keyed.slot_is k q e))
      (λ k l q s e e' same. cc (keyed.input_is k q e, keyed.input_is l s e')))

  follow : (j : ℕ) → Follows (WaitsFor r.filled.inputs j) (full j) (buffer r.filled j)
  follow j =
      let has = arrived_has ms slot cells r.came f r.arrived step.arrive keyed old_sound agrees.slack in
      follows (WaitsFor r.filled.inputs j) (full j) (buffer r.filled j)
      (record {
        up = full_rises j;
        up' = first.sound.fabric.rising j;
        to = λ c h. (first.has j c).1 ((has j c).1 (search (arith, rules, agrees.same j c, among_put_all, full_is j)));
        back = λ c h. let had = (has j c).0 ((first.has j c).0 h) in
            search (arith, rules, had, agrees.same j c, put_all_keeps, put_all_new, full_is j);
        behind = behind_one r.filled (first.slack 0 slack_arrived) j;
      })

  as_many : length lists ≡ length f.inputs
  as_many = length-filled r.came ideal.lists ∙ agrees.ports

  pub ports_kept : length f'.inputs ≡ length f.inputs
  ports_kept = cc

  same_gone : fronts lists ≡ r.gone
  same_gone = grind (arith, common_steps, length-filled r.came ideal.lists, same_fronts, follow)

  abbrev after : IdealState
  after = record { lists = rests lists; ranks = all_told ms (fronts lists) r.arrived.ranks }

  after_same : (j : ℕ) (c : Queued) → IsAmong c (list_of after.lists j) ↔ HasFor f' j c
  after_same j c =
      let left = sent_buffer ms r.gone (slot + 1) r.filled r.sent step.depart j in (
        λ h. (second.has j c).1 (rw (step.depart.inputs, left) ((follow j).to c (rw (rest_of lists j) at h))),
        λ h. rw (rest_of lists j) ((follow j).back c (rw (step.depart.inputs, left) at ((second.has j c).0 h))),
      )

  pub same_slot : SendsAlike ms slot cells ideal r.gone f'
  unfolding ideal_slot
  same_slot =
      let fall = departures_fall ms r.gone r.filled r.sent step.depart in
      let sent = first.slack 0 slack_arrived in
      let slack = second.slack 0 (λ i t c at. grind (arith, common_steps, sent, fall i t c at)) in
      let ports = length-map lists (λ (xs : List Queued). drop 1 xs) ∙ as_many ∙ sym ports_kept in
      let agree : Agrees (slot + 1) f' after =
      search (rules, same_gone, rest_of, rising_rest, full_rises, after_same, differ_from, all_before, second.sound) in
      search (arith, rules, after, same_gone)

-- ## Each phase keeps a fabric, and that each output has one rank state

pub arrivals_keep : (ms : List Machine) (slot class_count : ℕ) (cells : List (Option Cell))
    (came : List (Option Queued)) (old new : Fabric) → IsWholeFabric old →
    AreForPorts (length old.inputs) class_count cells → Arrives ms slot cells came old new → IsWholeFabric new
arrivals_keep ms slot class_count cells came old new whole come arrive =
    let keyed = keyed_from ms slot (length old.inputs) class_count cells old.ranks _ arrive.ranked come in
    search (arith, rules, ranks_kept, arrived_fabric)

pub transfer_keeps : (m : Partners) (old new : Fabric) → IsWholeFabric old → ListsKeepOrder old → Apart old →
    IsStable (orders_of old.inputs) m → Transfers m old new → IsWholeFabric new
transfer_keeps m old new whole order apart stable moves = grind (arith, common_steps, moved_fabric)

pub departures_keep : (ms : List Machine) (gone : List (Option Queued)) (old new : Fabric) → IsWholeFabric old →
    Departs ms gone old new → IsWholeFabric new
unfolding all_told
departures_keep ms gone old new whole depart = grind (arith, common_steps, sent_fabric, length-map-range_with_len)

pub slot_keeps : (ms : List Machine) (slot class_count : ℕ) (cells : List (Option Cell)) (f g : Fabric)
    (ideal : IdealState) (r : SlotRecord) → Agrees slot f ideal → length f.ranks ≡ length f.inputs →
    AreForPorts (length f.inputs) class_count cells → FabricSlot IsStable ms slot cells f r g → EachIsWhole f r g
slot_keeps ms slot class_count cells f g ideal r agrees ranks come step =
    let begun : IsWholeFabric f = record { fabric = agrees.fabric; ranks = ranks } in
    let came = arrivals_keep ms slot class_count cells r.came f r.arrived begun come step.arrive in
    let sound = arrived ms slot class_count cells f g ideal r agrees come step in
    let sound' = after_sent ms slot class_count cells f g ideal r agrees come step in
    search (arith, rules, departures_keep, transfer_keeps, transfer_keeps r.first r.arrived)
