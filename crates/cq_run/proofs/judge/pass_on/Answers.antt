use Rattle.cq_run.proofs.Terms.{left_in_packets, arith, rules, ◌≡◌, ◌∷◌, []}
use Rattle.cq_run.proofs.judge.pass_on.Goals as goal

pub build_passed-requires : goal.build_passed-requires
build_passed-requires g c =
    let one : c.in_ok-captures.captures ≡ c.args.capture ∷ [] = c.in_ok-captures.ensures in
    let is = rw c.as_slice.ensures at c.in_ok-crossed.ensures.crossed.switched in
    search (arith, rules, left_in_packets)

pub returns-clause-passing : goal.returns-clause-passing
returns-clause-passing g c =
    let one : c.in_ok-captures.captures ≡ c.args.capture ∷ [] = c.in_ok-captures.ensures in
    let is = rw (c.as_slice.ensures, one) at c.in_ok-crossed.ensures.crossed in
    let written = rw (c.into_switched.ensures, one) at c.in_ok-build_passed.ensures in
    search (arith, rules)
