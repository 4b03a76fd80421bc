use Rattle.cq_simulate.proofs.Terms.{length-map-range_with_len, rules, arith, err_from_is_err_and, ideal_departures, ran_ideal, limited_same_sent}
use Rattle.cq_simulate.proofs.TakenUp.{machine_count, room_at}
use Rattle.cq_simulate.proofs.ideal_run.run_ideal_packed.Goals as goal

pub run_slots-ran-requires-clause-ready : goal.run_slots-ran-requires-clause-ready
run_slots-ran-requires-clause-ready c = search (arith, rules, length-map-range_with_len, room_at, machine_count)

pub returns-in_err-ran-clause-refused : goal.returns-in_err-ran-clause-refused
unfolding ideal_departures ran_ideal
returns-in_err-ran-clause-refused c = search (arith, rules, err_from_is_err_and, limited_same_sent)

pub returns-clause-sent : goal.returns-clause-sent
unfolding ideal_departures ran_ideal
returns-clause-sent c = search (arith, rules, limited_same_sent)
