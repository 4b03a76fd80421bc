use Rattle.cq_audit.proofs.Terms.{◌≡◌, arith, rules, length, length-map, common_steps}
use Rattle.cq_audit.proofs.Slots.{AreNew, in_step_first}
use Rattle.cq_audit.proofs.replay.Replay.new.Given as given
use Rattle.cq_audit.proofs.replay.Replay.new.Goals as goal
use Rattle.cq_audit.proofs.replay.Replay.new.Goals.{After-of}

-- there is a rank for each port
many : (g : given.Over) (c : After-of g) → c.len-ports.result ≡ length c.args.ranks.items
many g c = search (arith, rules)

-- what was made
made : (g : given.Over) (c : After-of g) →
    AreNew (length c.args.ranks.items) c.in_ok-queues_for.field-0 c.in_ok-new.field-0
made g c = search (arith, rules)

pub returns : goal.returns
returns g c =
    let at = (goal.at.returns g c).After-of in
    let each = many g at in
    let is = made g at in
    record {
      fixed = c.of.ensures.fixed;
      limits = c.in_ok-new.ensures.limits;
      fabric = grind (arith, common_steps);
      from_inputs = rw each at c.in_ok-queues_for.ensures.from_inputs;
      to_outputs = rw each at c.in_ok-queues_for.ensures.to_outputs;
      in_step = search (arith, rules, in_step_first is c.of.result, length-map);
    }
