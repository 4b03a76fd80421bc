-- What each step asks follows from the range and the shape of the state, and of cells that were found. What a step that
-- fails says of the clauses, and that a state is sound that passes all, is in the lemmas of `judge_steps`.
use Rattle.cq_resume.proofs.Judging.{tally_from}
use Rattle.cq_resume.proofs.sound.judge_found.Goals as goal

pub returns-clause-tally : goal.returns-clause-tally
returns-clause-tally c = tally_from _ _ _ _ c.requires.known c.in-Some.tally
    (rw (c.in-Some.is, c.deref.ensures.value, c.as_slice.ensures) at c.in_ok-tally.ensures.tally)
