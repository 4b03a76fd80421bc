use Rattle.cq_run.proofs.Terms.{arith}
use Rattle.cq_run.proofs.Crossed.{file_is}
use Rattle.cq_run.proofs.build.build_passed.Goals as goal

pub returns : goal.returns
returns c =
    let some = c.requires.tables.setup.ports in
    rw (file_is _ _ _ c.in_ok-places.ensures 0 (omega arith) c.in-Some.ensures) at c.build_file.ensures
