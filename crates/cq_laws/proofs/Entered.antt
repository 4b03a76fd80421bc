-- What lists and buffers ask for. In a state that agrees with an ideal one each cell that waits is of an earlier
-- slot, so a cell that comes has another key; and each has slack 1, so that the more urgent cells for an output stand
-- below the cushion of one that comes. All keys differ in each state of a slot, so the cells that cross have keys
-- that are new in their buffers.
use Rattle.cq_laws.proofs.Terms.{rules, ◌≡◌, ℕ, ◌+◌, List, length, Option, Some, Ok, arith, Cell, Queued, Machine, IdealState, IsStable, Partners, Agrees, FirstsCanCross, FitsList, Fabric, buffer, input, Arrives, Departs, Transfers, came_to, ranking, all_from_has, orders_of, AreForPorts}
use Rattle.cq_laws.proofs.AfterPhases.{arrived_sound, sent_sound, moved_sound, came_from, keyed_from}
use Rattle.cq_laws.proofs.Cushions.{cushion_rises}
use Rattle.cq_laws.proofs.Sound.{from_first, Sound, firsts_differ}
use Rattle.cq_laws.proofs.OneSlot.{sound_from}

pub can_cross : (slot : ℕ) (f : Fabric) → Sound slot f → FirstsCanCross f
can_cross slot f sound = record {
  differ = firsts_differ f sound.apart;
  keys = λ i j c found. search (rules, all_from_has, sound.apart.between i j c, from_first j (input f i) c found);
}

module _ (ms : List Machine) (slot class_count : ℕ) (cells : List (Option Cell)) (came : List (Option Queued))
    (f : Fabric) (ideal : IdealState) (agrees : Agrees slot f ideal)
    (come : AreForPorts (length f.inputs) class_count cells) where
  pub fits_list : (ranks : List (List ℕ)) →
      ranking ms slot 0 cells f.ranks ≡ Ok (record { came = came; ranks = ranks }) → (i : ℕ) (c : Queued) →
      came_to came i ≡ Some c → FitsList f i c
  fits_list ranks ranked i c is =
      let keyed = keyed_from ms slot (length f.inputs) class_count cells f.ranks _ ranked come in
      let sound = sound_from slot f ideal agrees in
      let arrival = came_from ms slot 0 cells f.ranks _ ranked i c is in
      let rises = λ (d : Queued). cushion_rises d.key c.key (buffer f d.cell.output) in
      search (arith, rules, come.inputs i, keyed.outputs, all_from_has, sound.early.waiting, keyed.slot_is i c, rises)

  module _ (arrived : Fabric) (arrive : Arrives ms slot cells came f arrived) where
    sound_arrived : Sound (slot + 1) arrived
    sound_arrived = arrived_sound ms slot cells came f arrived arrive (keyed_from ms slot (length f.inputs)
        class_count cells f.ranks (record { came = came; ranks = arrived.ranks }) arrive.ranked come)
        (sound_from slot f ideal agrees) agrees.slack

    pub can_cross_first : FirstsCanCross arrived
    can_cross_first = can_cross (slot + 1) arrived sound_arrived

    pub can_cross_second : (m : Partners) (filled sent : Fabric) (gone : List (Option Queued)) →
        IsStable (orders_of arrived.inputs) m → Transfers m arrived filled → Departs ms gone filled sent →
        FirstsCanCross sent
    can_cross_second m filled sent gone stable fill depart = can_cross (slot + 1) sent (sent_sound ms gone (slot + 1)
        filled sent depart (moved_sound (slot + 1) arrived filled m sound_arrived stable fill))
