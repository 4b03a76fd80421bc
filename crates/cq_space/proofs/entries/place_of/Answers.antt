use Rattle.cq_space.proofs.Terms.{refl, arith}
use Rattle.cq_space.proofs.InMemory.{finds, finds_none, says_pushed, pushed_first}
use Rattle.cq_space.proofs.entries.place_of.Goals as goal

pub returns-in-Some-clause-ok : goal.returns-in-Some-clause-ok
returns-in-Some-clause-ok c = finds c.args.entries.now.items _ _ _ c.deref.ensures.value c.in-Some.ensures

pub returns-clause-ok : goal.returns-clause-ok
returns-clause-ok c =
    let none = finds_none c.args.entries.now.items _ c.args.name.now c.deref.ensures.value c.in_default.ensures in
    pushed_first c.args.entries.now.items c.push.new.self.items _ c.args.name.now c.len-at.result
    c.in_ok-push.ensures.items c.in_ok-from_str.ensures.ok (omega arith) none

pub returns-clause-same : goal.returns-clause-same
returns-clause-same c =
    says_pushed c.args.entries.now.items c.push.new.self.items _ c.in_ok-push.ensures.items refl refl refl
