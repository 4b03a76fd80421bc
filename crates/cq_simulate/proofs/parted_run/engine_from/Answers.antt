use Rattle.cq_simulate.proofs.Terms.{◌∙◌, arith, rules, length-map-range_with_len}
use Rattle.cq_simulate.proofs.TakenUp.{can_go_on}
use Rattle.cq_simulate.proofs.parted_run.engine_from.Goals as goal

pub thaw-requires : goal.thaw-requires
thaw-requires c =
    let are = c.in_ok-ports.ensures in
    let goes_on = can_go_on c.requires.sound c.requires.fit are.classes c.as_slice-limits.ensures
    (c.as_slice-from.ensures.value ∙ are.from_inputs) (c.as_slice-to.ensures.value ∙ are.to_outputs) in
    search (arith, rules, length-map-range_with_len)
