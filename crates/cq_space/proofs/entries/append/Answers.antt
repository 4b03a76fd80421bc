use Rattle.cq_space.proofs.Terms.{err_from_is_err_and}
use Rattle.cq_space.proofs.InMemory.{unlengthened}
use Rattle.cq_space.proofs.entries.append.Goals as goal

pub returns-in_err-extend_from_slice-in-Some-clause-err :
    goal.returns-in_err-extend_from_slice-in-Some-clause-err
returns-in_err-extend_from_slice-in-Some-clause-err c =
    let is_err = err_from_is_err_and c.from_residual.result c.from_residual.ensures.1 in
    rw (is_err.1) (unlengthened c.args.entries.now c.args.at c.index-entries-at.result c.in-Some.bytes
    c.extend_from_slice.new.self c.requires.there c.in-Some.is c.in_err-extend_from_slice-in-Some.ensures.items)
