use Rattle.cq_laws.proofs.LeastSlack.{by_arrivals, more_after, arrival_place, least_of_run, more_at_first}
use Rattle.cq_laws.proofs.least_slack.least_slack_is_on_arrival.Goals as goal

pub returns : goal.returns
returns c = record {
  run = least_of_run;
  slot = by_arrivals;
  kept = λ ms slot class_count cells f g ideal r agrees come step x has.
      more_after ms slot class_count cells f g ideal r agrees come step x has.ports;
  looked = more_after;
  begin = more_at_first;
  place = arrival_place;
}
