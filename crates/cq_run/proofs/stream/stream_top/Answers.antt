use Rattle.cq_run.proofs.Terms.{map, string_bytes, Ahead}
use Rattle.cq_run.proofs.Ends.{causes_at, emulated_at, halted_so, words_end, others, streams}
use Rattle.cq_run.proofs.Chain.{from_front}
use Rattle.cq_run.proofs.stream.stream_top.Goals as goal

-- all other words: each clause is that of `switch_top`, along the equations of the words and of the pace
pub returns-in-None : goal.returns-in-None
returns-in-None g c =
    let e = others c.streamed.result (λ t. t.now) (map string_bytes c.args.words.now) c.streamed.ensures.streamed
    c.in-None.is in rw (e.0, e.1) c.switch_top.ensures

-- `stream CONFIG`: the end is that of the command `run CONFIG`, at the pace that reads ahead
pub returns-in-Some : goal.returns-in-Some
returns-in-Some g c =
    let e = streams c.streamed.result (λ t. t.now) (map string_bytes c.args.words.now) c.streamed.ensures.streamed
    c.in-Some.config c.in-Some.is in
    let runs = c.in-Some.ensures.runs in
    let ends = c.stream-end.ensures.ends in
    let is = c.answer.ensures.status in
    record {
      answer = rw (e.0, e.1) (λ r. record {
        end = c.stream-end.result;
        ends = rw runs (ends r);
        status = is;
        tells = c.answer.ensures.tells;
      });
      causes = rw (e.0, e.1) (λ r. causes_at Ahead r _ _ _ _ _ _ _ is (ends r) runs);
      headline = rw (e.0, runs) (λ r. emulated_at Ahead r _ _ _ _ _ _ _ is (ends r));
      no_command = rw (e.0, runs) (words_end Ahead from_front _ _ _ _ _ _ _ is (ends from_front));
      unbegun = halted_so _ is c.stream-end.ensures.unbegun;
      closed = c.stream-end.ensures.closed;
    }
