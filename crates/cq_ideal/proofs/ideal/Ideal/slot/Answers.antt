use Rattle.cq_ideal.proofs.Terms.{rules, ◌+◌, arith}
use Rattle.cq_ideal.proofs.Slot.{Begun, can_arrive, can_take_in, judged_slot, placed, seen}
use Rattle.cq_ideal.proofs.ideal.Ideal.slot.Given as given
use Rattle.cq_ideal.proofs.ideal.Ideal.slot.Goals as goal
use Rattle.cq_ideal.proofs.ideal.Ideal.slot.Goals.{After-self}

-- where the slot begins
known : (g : given.Over) (c : After-self g) →
    Begun g.R.Rank.machine c.args.slot c.args.arrivals.now c.args.self.now c.self.inside.ranks c.self.inside.queues
    c.self.inside.limiter c.args.sent.now
known g c = search (arith, rules)

pub take_in-requires : goal.take_in-requires
take_in-requires g c = search (arith, rules, can_take_in, known g (goal.at.take_in-requires g c).After-self)

pub arrive-requires : goal.arrive-requires
arrive-requires g c =
    let begins = known g (goal.at.arrive-requires g c).After-self in
    search (arith, rules, can_arrive begins c.take_in.ensures.judged c.in_default.ensures.taken)

pub send-requires : goal.send-requires
send-requires g c =
    let begins = known g (goal.at.send-requires g c).After-self in
    search (arith, rules, placed begins c.take_in.ensures.judged c.in_default.ensures.taken c.arrive.new.self)

pub invariant_of-self-2 : goal.invariant_of-self-2
invariant_of-self-2 g c =
    let begins = known g (goal.at.invariant_of-self-2 g c).After-self in
    search (arith, rules, placed begins c.take_in.ensures.judged c.in_default.ensures.taken c.arrive.new.self)

pub returns-in-Err : goal.returns-in-Err
returns-in-Err g c =
    let begins = known g (goal.at.returns-in-Err g c).After-self in
    search (arith, rules, judged_slot begins c.take_in.ensures.judged)

pub returns : goal.returns
returns g c =
    let begins = known g (goal.at.returns g c).After-self in
    let p = placed begins c.take_in.ensures.judged c.in_default.ensures.taken c.arrive.new.self c.arrive.ensures.lists
    c.arrive.ensures.rooms c.take_in.ensures.fixed c.take_in.ensures.many in
    let new = seen c.send.new.ranks c.send.new.queues c.send.new.limiter (c.args.slot + 1) c.self.inside.stopped in
    rw p.limited_ok (search (arith, rules, p.spare new, begins))
