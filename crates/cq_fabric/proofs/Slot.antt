-- A slot of a fabric over its lists and buffers, phase by phase, whatever stable matchings it takes. What each phase
-- asks for follows from the state that agrees with an ideal one: all keys differ, the cells that come are the only
-- ones of this slot, and each cell that waits has slack 1, so that the more urgent cells for an output stand below
-- the cushion of one that comes. Of the rooms it is enough that the buffer of each output for which a cell waits or
-- comes has room for one: where the first matching fills that room, the output sends a cell and has it again.
use Rattle.cq_fabric.proofs.Terms.{common_steps, rules, ◌≡◌, ℕ, zero, suc, ◌+◌, ◌-◌, ◌<◌, ◌≤◌, true, List, [], ◌∷◌, length, get_or, drop, Option, Some, refl, sym, subst, ⊎_elim, arith, IfSome, filter, cases_lt, cond_both, eq-eqb, get_or-map, get_or_past, length-drop, length-map, same_Some, Cell, Queued, arrival_at, is_for, Machine, count_for, LimiterView, AreForPorts, Ranking, fronts, list_of, orders_of, Partners, IsMatching, IsStable, HaveCells, partner_or_free, length_put, SendsAlike, IsAmong, waiting_for, came_to, Arrives, Transfers, Departs, SlotRecord, FabricSlot, from_first, was_waiting, Sound, came_from, keyed_from, HoldsFabric, IsNewest, Queues, ComeApart, FitLists, CanCross, fabric_of, Keyed, arrived_sound, moved_sound, sent_sound, same_slot, sound_from, all_from_has, came_or_was}
use Rattle.std.proofs.lemmas.List.FromFn.{length-range_with_len}
use Rattle.cq_base.proofs.Pooled.{looked_few}
use Rattle.cq_prefs.specs.Moves.{transfers_of}
use Rattle.cq_laws.proofs.Entered.{can_cross as firsts_cross, fits_list}
use Rattle.cq_fabric.proofs.Known.{AreRanked, BuffersHaveRoom, HaveArrived, HaveJudged, HaveMoved, HaveSent, ListsHaveRoom}
use Rattle.cq_fabric.proofs.Limits.{held_at}
use Rattle.cq_fabric.proofs.Newest.{newest_arrived}
use Rattle.cq_fabric.proofs.Queued.{has_cell}

-- ## Cells that wait or come for an output

counted_one : (j : ℕ) (xs : List Queued) (c : Queued) → IsAmong c xs → is_for j c ≡ true →
    1 ≤ length (filter (is_for j) xs)
counted_one j [] c h e = absurd h
counted_one j (x ∷ xs) c h e = grind (arith, common_steps, cond_both, counted_one j xs c)

waits_one : (j : ℕ) (lists : List (List Queued)) (i : ℕ) (c : Queued) → IsAmong c (list_of lists i) →
    c.cell.output ≡ j → 1 ≤ waiting_for j lists
waits_one j [] i c h e = absurd h
waits_one j (cells ∷ lists) zero c h e = let one = counted_one j cells c h (eq-eqb c.cell.output j e) in omega arith
waits_one j (cells ∷ lists) (suc i) c h e = let one = waits_one j lists i c h e in omega arith

arrives_one : (j : ℕ) (cells : List (Option Cell)) (i : ℕ) (cell : Cell) → arrival_at cells i ≡ Some cell →
    cell.output ≡ j → 1 ≤ count_for j cells
arrives_one j [] i cell h e = absurd (let P : ⊥ = cc in P)
arrives_one j (o ∷ cells) zero cell h e = grind (arith, common_steps, same_Some, eq-eqb)
arrives_one j (o ∷ cells) (suc i) cell h e = grind (arith, common_steps, arrives_one j cells i cell h e)

-- ## The cells of one slot can cross

can_cross : (slot : ℕ) (q : Queues) (ranks : List (List ℕ)) → Sound slot (fabric_of q ranks) →
    ((i j : ℕ) (c : Queued) → IsAmong c (list_of q.inputs i) → c.cell.output ≡ j →
    length (list_of q.buffers j) < get_or q.to_outputs j 0) → CanCross q
can_cross slot q ranks sound room =
    record {
      apart = search (rules, sound.apart.waiting);
      room = λ i j has. let first = from_first j (list_of q.inputs i) has.0 has.1 in room i j has.0 first.0 first.1;
      keys = (firsts_cross slot (fabric_of q ranks) sound).keys;
    }

-- a list without its first cell is shorter by one, or empty as before
length_rest : (xs : List Queued) → length (drop 1 xs) ≡ length xs - 1
length_rest xs = omega (arith, length-drop 1 xs)

-- how many transfers a matching has
pub few_cross : (m : Partners) (lists : List (List Queued)) (slot phase : ℕ) → IsMatching (orders_of lists) m →
    length (transfers_of m lists slot phase) ≤ length lists
unfolding transfers_of
few_cross m lists slot phase matching = grind (arith, common_steps, looked_few, length-range_with_len, length-map)

-- ## A slot

module _ {ms : List Machine} {slot : ℕ} {q0 : Queues} {ranks0 : List (List ℕ)} {cells : List (Option Cell)}
    {classes : ℕ} {came : List (Option Queued)} {ranks1 : List (List ℕ)}
    (known : AreRanked ms slot q0 ranks0 cells classes came ranks1) where
  -- the cells that came, and the states of the machines then
  abbrev now : Ranking
  now = record { came = came; ranks = ranks1 }

  pub come : AreForPorts (length q0.inputs) classes cells
  come = subst (λ n. AreForPorts n classes cells) (sym known.ports) known.for_ports

  pub keyed : Keyed slot (length q0.inputs) came
  keyed = keyed_from ms slot (length q0.inputs) classes cells ranks0 now known.ranked come

  sound0 : Sound slot (fabric_of q0 ranks0)
  sound0 = sound_from slot (fabric_of q0 ranks0) known.ideal known.agrees

  arrival : (i : ℕ) (c : Queued) → came_to came i ≡ Some c → arrival_at cells i ≡ Some c.cell
  arrival i c is = (came_from ms slot 0 cells ranks0 now known.ranked i c is).cell_is

  pub came_outputs : (i : ℕ) (c : Queued) → came_to came i ≡ Some c → c.cell.output < length q0.inputs
  came_outputs i c is = keyed.outputs i c is

  -- no waiting cell has the key of one that came, which has its own slot, and no two of these have the same
  pub come_apart : ComeApart came q0.inputs
  come_apart =
      search (arith, rules, sound0.apart.waiting, sound0.early.waiting, keyed.slot_is, keyed.input_is)

  pub fits_lists : ListsHaveRoom q0 cells → FitLists came q0
  fits_lists room i c is =
      search (arith, rules, room i, arrival, fits_list ms slot classes cells came _ known.ideal known.agrees come)

  module _ {q1 : Queues} (arrived : HaveArrived q0 came q1) where
    pub arrive : Arrives ms slot cells came (fabric_of q0 ranks0) (fabric_of q1 ranks1)
    arrive = search (arith, rules)

    -- a cell that came is the newest of its list
    pub came_newest : (i : ℕ) (c : Queued) → came_to came i ≡ Some c → IsNewest c (list_of q1.inputs i)
    came_newest i c is =
        search (arith, rules, newest_arrived, all_from_has, sound0.early.waiting, keyed.slot_is)

    sound1 : Sound (slot + 1) (fabric_of q1 ranks1)
    sound1 = search (rules, arrived_sound, arrive, keyed, sound0)

    -- a cell that waits at an input now waited there, or came
    one_waits : (i j : ℕ) (c : Queued) → IsAmong c (list_of q1.inputs i) → c.cell.output ≡ j →
        1 ≤ waiting_for j q0.inputs + count_for j cells
    one_waits i j c h e = search (rules, arrives_one, arrival, waits_one, came_or_was)

    module _ (room : BuffersHaveRoom (length ms) q0 cells) where
      room1 : (i j : ℕ) (c : Queued) → IsAmong c (list_of q1.inputs i) → c.cell.output ≡ j →
          length (list_of q1.buffers j) < get_or q1.to_outputs j 0
      room1 i j c h e = let out = sound1.fabric.outputs i c h in search (arith, rules, one_waits i j c h e)

      pub can_cross_first : CanCross q1
      can_cross_first = can_cross (slot + 1) q1 ranks1 sound1 room1

      module _ {m1 : Partners} {q2 : Queues} (moved1 : HaveMoved m1 q1 q2) where
        -- the first cell for an output at the input that is its partner
        crossing : HaveCells m1 q1.inputs
        crossing = has_cell q1 m1 can_cross_first moved1.stable.matching

        -- an output that sends a cell held one: it stood in its buffer, or crossed to it now
        sent_was_held : (j : ℕ) → 1 ≤ length (list_of q2.buffers j) →
            1 ≤ waiting_for j q0.inputs + count_for j cells + length (list_of q0.buffers j)
        sent_was_held j some = ⊎_elim (λ r.
            let cell = crossing r.0 j r.1 in search (arith, rules, from_first, one_waits r.0 j cell.0))
            (λ free. search (arith, rules)) (partner_or_free m1 j)

        module _ {before judged : LimiterView} (holds : HoldsFabric (fabric_of q0 ranks0) before)
            (judges : HaveJudged cells before judged) where
          -- so the number that is kept of it is not 0
          pub held_before : (j : ℕ) → IfSome (came_to (fronts q2.buffers) j) (λ _. 0 < get_or judged.held j 0)
          held_before j =
              grind (arith, common_steps, length-map, get_or-map, get_or_past, cases_lt, sent_was_held, held_at)

        module _ {ranks2 : List (List ℕ)} {q3 : Queues} (sent : HaveSent ms q1 ranks1 q2 ranks2 q3) where
          pub fill : Transfers m1 (fabric_of q1 ranks1) (fabric_of q2 ranks1)
          fill = record { moves = moved1.moves; ranks = refl }

          pub depart : Departs ms (fronts q2.buffers) (fabric_of q2 ranks1) (fabric_of q3 ranks2)
          depart = record { sent = refl; buffers = sent.buffers; inputs = sent.inputs; ranks = sent.told }

          sound3 : Sound (slot + 1) (fabric_of q3 ranks2)
          sound3 = search (arith, rules, sent_sound, depart, moved_sound, sound1, fill)

          -- no buffer is longer than before the first matching
          no_longer : (j : ℕ) → length (list_of q3.buffers j) ≤ length (list_of q1.buffers j)
          no_longer j =
              ⊎_elim (λ r. let cell = crossing r.0 j r.1 in
              grind (arith, common_steps, moved1.moves.given r.0 j cell.0 r.1 cell.1, length_put, length_rest))
              (λ free. grind (arith, common_steps, moved1.moves.kept j free, length_rest)) (partner_or_free m1 j)

          pub can_cross_second : CanCross q3
          can_cross_second = search (arith, rules, can_cross, sound3, was_waiting moved1.moves, room1, no_longer)

          module _ {m2 : Partners} {q4 : Queues} (moved2 : HaveMoved m2 q3 q4) where
            -- what is recorded of the slot
            abbrev pub recorded : SlotRecord
            recorded =
                record {
                  slot = slot;
                  came = came;
                  arrived = fabric_of q1 ranks1;
                  first = m1;
                  filled = fabric_of q2 ranks1;
                  gone = fronts q2.buffers;
                  sent = fabric_of q3 ranks2;
                  second = m2;
                }

            pub is_slot : FabricSlot IsStable ms slot cells (fabric_of q0 ranks0) recorded (fabric_of q4 ranks2)
            is_slot = grind (arith, common_steps, arrive, fill, depart)

            pub alike : SendsAlike ms slot cells known.ideal (fronts q2.buffers) (fabric_of q4 ranks2)
            alike = same_slot ms slot classes cells _ _ known.ideal recorded known.agrees come is_slot
