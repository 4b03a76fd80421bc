use Rattle.cq_list.proofs.Terms.{◌∙◌, ap, length, arith}
use Rattle.cq_list.proofs.Finger.{fingers_less, refilled}
use Rattle.cq_list.proofs.fingers.Fingers.take.Goals as goal

pub returns : goal.returns
returns c places place had =
    let lent = c.as_mut_slice.ensures.value in
    rw (refilled c.self.inside.fingers.items c.shift.new.fingers (omega (arith, c.shift.auto.fingers, ap length lent)))
    (fingers_less places c.as_mut_slice.result.now place c.shift.new.fingers (rw (lent ∙ c.self.view_is) had)
    c.shift.ensures)
