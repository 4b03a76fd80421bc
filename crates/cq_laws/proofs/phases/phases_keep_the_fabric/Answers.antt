use Rattle.cq_laws.proofs.Terms.{admission, rules, marks_kept}
use Rattle.cq_laws.proofs.Sound.{apart_from}
use Rattle.cq_laws.proofs.OneSlot.{arrivals_keep, departures_keep, slot_keeps, transfer_keeps}
use Rattle.cq_laws.proofs.phases.phases_keep_the_fabric.Goals as goal

pub returns : goal.returns
unfolding admission
returns c = search (rules, arrivals_keep, transfer_keeps, apart_from, departures_keep, slot_keeps, marks_kept)
