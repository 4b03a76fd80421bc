use Rattle.cq_list.proofs.Terms.{◌∙◌, sym, ap, length, arith}
use Rattle.cq_list.proofs.Finger.{ends_inside, fingers_kept, fingers_more, fingers_set, refilled}
use Rattle.cq_list.proofs.fingers.Fingers.put.Goals as goal

pub returns-then-ahead-len : goal.returns-then-ahead-len
returns-then-ahead-len c places place long had ends =
    fingers_kept places c.args.self.now c.args.ahead.count place had (c.if-ahead-len.true ∙ sym long)

pub returns : goal.returns
returns c places place long had ends =
    let now = fingers_set places c.args.self.now c.args.ahead c.set.new.self had ends c.set.ensures in
    let lent = c.as_mut_slice.ensures.value in
    rw (refilled c.self.inside.fingers.items c.shift.new.fingers (omega (arith, c.shift.auto.fingers, ap length lent)))
    (fingers_more places c.as_mut_slice.result.now c.args.ahead.count place c.shift.new.fingers
    (rw (lent ∙ c.self.view_is) now) (ends_inside places ends) c.shift.ensures)
