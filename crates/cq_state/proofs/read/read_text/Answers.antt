use Rattle.cq_state.proofs.Terms.{append-nil, arith, common_steps, eqb-true}
use Rattle.cq_state.proofs.OneText.{each_told, state_again}
use Rattle.cq_state.proofs.Written.{Completes}
use Rattle.cq_state.proofs.read.read_text.Goals as goal

-- where the text may end its lines are those of a state, so what is gathered is that state
pub returns-then-may_end-clause-read : goal.returns-then-may_end-clause-read
unfolding Completes
returns-then-may_end-clause-read c =
    grind (arith, common_steps, each_told c.lines.invariant.lines, state_again, append-nil, eqb-true)
