use Rattle.cq_run.proofs.Terms.{arith}
use Rattle.cq_run.proofs.Put.{all_left, none_left, one_cut, one_put}
use Rattle.cq_run.proofs.say.put_line.Goals as goal

pub pieces-init : goal.pieces-init
pieces-init g c = all_left c.args.pieces.now _

pub pieces-preserved : goal.pieces-preserved
pieces-preserved g c = one_put c.args.pieces.now c.pieces.invariant _ c.pieces-test.true
    c.in_ok-put_piece.ensures

pub returns-in_err-put_piece : goal.returns-in_err-put_piece
returns-in_err-put_piece g c = one_cut c.args.pieces.now c.pieces.invariant _ c.pieces-test.true
    c.from_residual.result c.from_residual.ensures.0 c.in_err-put_piece.ensures

pub returns : goal.returns
returns g c = none_left c.args.pieces.now c.pieces.invariant (omega (arith, c.pieces-test.false)) c.put_all.ensures.all
