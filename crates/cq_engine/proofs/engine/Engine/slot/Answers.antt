use Rattle.cq_engine.proofs.Terms.{rules, ◌≡◌, ◌+◌, ◌*◌, ◌≤◌, ℕ, length, map, ap, ◌∙◌, arith, append_assoc, length-append, length-map, common_steps, row_fits, EngineView, HaveArrived, HaveSent, admits_are, came_newest, came_outputs, can_cross_first, can_cross_second, come_apart, few_cross, fits_lists, held_before, GoStraight, length-told}
use Rattle.cq_engine.proofs.Shown.{Begun, begun, can_take_in, taken}
use Rattle.cq_engine.proofs.Slot.{moved_of, slot_done, whole_slot}
use Rattle.cq_engine.proofs.StraightSlot.{held_straight, whole_straight}
use Rattle.cq_engine.proofs.engine.Engine.slot.Given as given
use Rattle.cq_engine.proofs.engine.Engine.slot.Goals as goal
use Rattle.cq_engine.proofs.engine.Engine.slot.Goals.{After-arrive, After-depart, After-of_outputs-gone, After-pass-crossed, After-self}

-- ## Numbers

twice_few : (p q n first second now after : ℕ) → first ≤ p * p → p ≡ n → second ≤ q * q → q ≡ n → after ≡ now →
    after + (first + second) ≤ now + 2 * (n * n)
twice_few p q n first second now after one e two f is = grind (arith, common_steps)

-- ## What is known, call by call

-- where the slot begins
known : (g : given.Over) (c : After-self g) →
    Begun (map g.R.Rank.machine c.self.inside.ranks.fixed) c.args.slot c.args.arrivals.now c.self.inside.queues
    c.self.inside.ranks.states c.self.inside.limiter c.self.inside.look c.self.inside.figures
known g c = search (arith, rules, begun)

-- clauses see as many machines as there are inputs
ports_seen : (g : given.Over) (c : After-self g) → length c.self.inside.queues.inputs ≡ length c.args.self.now.fixed
ports_seen g c = search (arith, rules, known, length-map)

-- once it has arrived
arrived : (g : given.Over) (c : After-arrive g) →
    HaveArrived c.self.inside.queues c.take_in.new.came c.arrive.new.self
arrived g c = search (arith, rules)

-- once the outputs have sent, and the machines are told
sent : (g : given.Over) (c : After-depart g) →
    HaveSent (map g.R.Rank.machine c.self.inside.ranks.fixed) c.arrive.new.self c.take_in.new.ranks.states
    c.cross-first.new.queues c.depart.new.ranks.states c.depart.new.queues
sent g c = search (arith, rules)

-- ## What is known of the straight way

-- each cell that came is at the place of its output
straight : (g : given.Over) (c : After-of_outputs-gone g) →
    GoStraight c.self.inside.queues c.take_in.new.came c.of_outputs-gone.result.now
straight g c = search rules

-- no more cells cross than there are ports
few_proposed : (g : given.Over) (c : After-pass-crossed g) →
    length c.self.inside.queues.inputs ≡ length c.args.self.now.fixed →
    GoStraight c.self.inside.queues c.take_in.new.came c.of_outputs-gone.result.now →
    c.pass-crossed.new.figures.proposals + (c.pass-crossed.result + 0)
    ≤ c.args.self.now.figures.proposals + 2 * (length c.args.self.now.fixed * length c.args.self.now.fixed)
few_proposed g c seen is = search (arith, rules, row_fits)

-- ## What the calls ask for

pub take_in-requires : goal.take_in-requires
take_in-requires g c = search (arith, rules, can_take_in (known g (goal.at.take_in-requires g c).After-self))

pub go_straight-requires : goal.go_straight-requires
go_straight-requires g c =
    let begins = known g (goal.at.go_straight-requires g c).After-self in
    came_outputs (taken begins c.take_in.ensures.judged c.in_default.ensures.taken).ranked

pub of_outputs-gone-requires : goal.of_outputs-gone-requires
of_outputs-gone-requires g c = search (arith, rules)

pub pass-crossed-requires : goal.pass-crossed-requires
pass-crossed-requires g c =
    let at = goal.at.pass-crossed-requires g c in
    let come = taken (known g at.After-self) c.take_in.ensures.judged c.in_default.ensures.taken in
    let is = straight g at.After-of_outputs-gone in
    let counts = come.running.in_step.counts in
    search (arith, rules, length-map, held_straight come is, counts.inputs, counts.outputs)

pub count_proposals-requires : goal.count_proposals-requires
count_proposals-requires g c =
    let at = goal.at.count_proposals-requires g c in
    search (arith, rules, few_proposed g at.After-pass-crossed, ports_seen g, straight g)

pub arrive-requires : goal.arrive-requires
arrive-requires g c =
    let at = goal.at.arrive-requires g c in
    let come = taken (known g at.After-self) c.take_in.ensures.judged c.in_default.ensures.taken in
    search (arith, rules, fits_lists come.ranked, come_apart come.ranked)

pub count_inputs-requires : goal.count_inputs-requires
count_inputs-requires g c =
    let at = goal.at.count_inputs-requires g c in
    let come = taken (known g at.After-self) c.take_in.ensures.judged c.in_default.ensures.taken in
    search (arith, rules, came_outputs come.ranked, came_newest come.ranked, arrived g at.After-arrive, come)

pub cross-first-requires-clause-can : goal.cross-first-requires-clause-can
cross-first-requires-clause-can g c =
    let at = goal.at.cross-first-requires-clause-can g c in
    let come = taken (known g at.After-self) c.take_in.ensures.judged c.in_default.ensures.taken in
    let cells = can_cross_first come.ranked (arrived g at.After-arrive) come.buffer_room in
    search (arith, rules, ports_seen g at.After-self)

pub depart-requires : goal.depart-requires
depart-requires g c =
    let at = goal.at.depart-requires g c in
    let come = taken (known g at.After-self) c.take_in.ensures.judged c.in_default.ensures.taken in
    let moved = moved_of c.cross-first.ensures.crossed in
    let holds = held_before come.ranked (arrived g at.After-arrive) come.buffer_room moved come.running.holds in
    let counts = come.running.in_step.counts in
    search (arith, rules, length-map, ap length c.arrive.ensures.buffers, holds come.judged, counts.outputs)

pub cross-second-requires-clause-can : goal.cross-second-requires-clause-can
cross-second-requires-clause-can g c =
    let at = goal.at.cross-second-requires-clause-can g c in
    let come = taken (known g at.After-self) c.take_in.ensures.judged c.in_default.ensures.taken in
    let moved = moved_of c.cross-first.ensures.crossed in
    let second = can_cross_second come.ranked (arrived g at.After-arrive) come.buffer_room moved in
    let cells = second (sent g at.After-depart) in search (arith, rules, few_cross, ports_seen g at.After-self)

pub count_proposals-requires-2 : goal.count_proposals-requires-2
count_proposals-requires-2 g c =
    search (arith, rules, twice_few, ports_seen g (goal.at.count_proposals-requires-2 g c).After-self)

-- ## What the slot comes to

pub invariant_of-self-2 : goal.invariant_of-self-2
invariant_of-self-2 g c =
    let at = goal.at.returns g c in
    let come = taken (known g at.After-self) c.take_in.ensures.judged c.in_default.ensures.taken in
    let released = c.depart.ensures.sent.released in
    let whole = whole_slot come (arrived g at.After-arrive) c.cross-first.ensures.crossed (sent g at.After-depart)
    c.cross-second.ensures.crossed released c.count_proposals-2.new.figures (search (arith, rules)) in
    search (arith, rules, length-told)

pub returns-in-Err-clause-answer : goal.returns-in-Err-clause-answer
returns-in-Err-clause-answer g c =
    let at = goal.at.returns-in-Err-clause-answer g c in
    let holds = (known g at.After-self).running.holds in search (arith, rules, admits_are)

pub invariant_of-self-then-go_straight : goal.invariant_of-self-then-go_straight
invariant_of-self-then-go_straight g c =
    let at = goal.at.returns-then-go_straight g c in
    let come = taken (known g at.After-self) c.take_in.ensures.judged c.in_default.ensures.taken in
    let is = straight g at.After-of_outputs-gone in
    let many = rw is.ports at c.pass-crossed.ensures.many in
    let told = rw c.take_in.ensures.fixed at c.pass-crossed.ensures.sent.told in
    let whole = whole_straight come is _ told c.pass-crossed.ensures.sent.released c.count_proposals.new.figures
    (search (arith, rules, many)) in
    search (arith, rules, length-told)

pub returns-then-go_straight : goal.returns-then-go_straight
returns-then-go_straight g c =
    let at = goal.at.returns-then-go_straight g c in
    let come = taken (known g at.After-self) c.take_in.ensures.judged c.in_default.ensures.taken in
    let is = straight g at.After-of_outputs-gone in
    let many = rw is.ports at c.pass-crossed.ensures.many in
    let did = c.pass-crossed.ensures in
    let told = rw c.take_in.ensures.fixed at did.sent.told in
    let whole = whole_straight come is _ told did.sent.released c.count_proposals.new.figures
    (search (arith, rules, many)) in
    record {
      answer = search (arith, rules, admits_are);
      slot = slot_done _ c.self.view_is come whole did.sent.left (rw (← is.ports) did.note)
          (rw (← is.ports) did.note_room);
      went_on = search (arith, rules, few_proposed g at.After-pass-crossed (ports_seen g at.After-self) is);
      made = search (arith, rules);
      stopped = ap (λ (v : EngineView). v.stopped) c.self.view_is ∙ c.requires.running;
      stays = tt;
    }

pub returns : goal.returns
returns g c =
    let at = goal.at.returns g c in
    let come = taken (known g at.After-self) c.take_in.ensures.judged c.in_default.ensures.taken in
    let sent_is = c.depart.ensures.sent in
    let whole = whole_slot come (arrived g at.After-arrive) c.cross-first.ensures.crossed (sent g at.After-depart)
    c.cross-second.ensures.crossed sent_is.released c.count_proposals-2.new.figures (search (arith, rules)) in
    record {
      answer = search (arith, rules, admits_are);
      slot = slot_done _ c.self.view_is come whole sent_is.left (search (rules, append_assoc))
          (search (arith, rules, length-append));
      went_on = search (arith, rules, twice_few, ports_seen g at.After-self);
      made = search (arith, rules);
      stopped = search (arith, rules);
      stays = tt;
    }

-- ## What stays

pub returns-in-Err-clause-stays : goal.returns-in-Err-clause-stays
returns-in-Err-clause-stays g c = search (arith, rules)

pub returns-in-Err-clause-made : goal.returns-in-Err-clause-made
returns-in-Err-clause-made g c = search (arith, rules)
