use Rattle.cq_audit.proofs.Terms.{arith, rules, cells_of, take_all}
use Rattle.cq_audit.proofs.PhaseExact.{ToldBy, right_at, wrong_at}
use Rattle.cq_audit.proofs.told.told.Goals as goal

pub returns-then-not-is_right-clause-wrong : goal.returns-then-not-is_right-clause-wrong
returns-then-not-is_right-clause-wrong c = wrong_at _ _ _ _ _ _ c.lines-test.true c.requires.lines c.requires.rise
    c.lines.invariant c.index-lists-line.is (search rules)

pub lines-preserved : goal.lines-preserved
lines-preserved c = rw c.join.ensures (right_at _ _ _ _ _ _ c.lines-test.true c.requires.lines c.requires.rise
    c.lines.invariant c.index-lists-line.is (search rules) (search rules))

pub returns-clause-right : goal.returns-clause-right
returns-clause-right c =
    let ended : ToldBy (cells_of c.args.lists.now) c.args.lines.now c.lines.pairs = search (arith, rules, take_all) in
    ended.right
