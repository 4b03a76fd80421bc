use Rattle.cq_simulate.proofs.Terms.{arith, refl}
use Rattle.cq_scfq.proofs.Alike.{count}
use Rattle.cq_simulate.proofs.TakenUp.{can_go_on}
use Rattle.cq_simulate.proofs.laws.taken_up_states_can_go_on.Goals as goal

pub returns : goal.returns
returns c = λ t s from fit sound. can_go_on sound fit (count t.setup (omega (arith, fit.tables.setup))) refl refl refl
