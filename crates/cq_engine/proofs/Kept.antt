-- How many cells for an output there are, through a slot with stable matchings: passed on to the crates above.
use Rattle.cq_engine.proofs.Terms.{stable_limited_slot, stable_slot}
use Rattle.cq_fabric.proofs.Kept.{lists_kept, outputs_kept}
pub use Rattle.cq_fabric.proofs.Kept.{limited_lists_kept, limited_outputs_kept}

pub ruleset kept_steps =
    (lists_kept, outputs_kept, limited_lists_kept, limited_outputs_kept, stable_slot, stable_limited_slot)
