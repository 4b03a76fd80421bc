use Rattle.cq_run.proofs.Terms.{arith, rules, refl, InTurn}
use Rattle.cq_run.proofs.Ends.{causes_at, emulated_at, halted_so, words_end}
use Rattle.cq_run.proofs.Chain.{from_front}
use Rattle.cq_run.proofs.top.switch_top.Goals as goal

pub returns : goal.returns
returns g c =
    let ends = c.run-end.ensures.ends in
    let is = c.answer.ensures.status in
    record {
      answer = search (arith, rules, ends);
      causes = λ r. causes_at _ r _ _ _ _ _ _ _ is (ends r) refl;
      headline = λ r. emulated_at InTurn r _ _ _ _ _ _ _ is (ends r);
      no_command = words_end InTurn from_front _ _ _ _ _ _ _ is (ends from_front);
      unbegun = halted_so _ is c.run-end.ensures.unbegun;
      closed = c.run-end.ensures.closed;
    }
