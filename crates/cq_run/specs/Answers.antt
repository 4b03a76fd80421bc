-- What the program answers, and what that means.
use Rattle.std.specs.Prelude.{◌≡◌, ℕ, List, Result}
use Rattle.cq_base.specs.declared.status.Status.{Status}
use Rattle.cq_run.specs.declared.stop.Stop.{Stop}
use Rattle.cq_run.specs.World.{World, Taken}
use Rattle.cq_run.specs.Ending.{Ends, status_of}
use Rattle.cq_run.specs.Line.{Tells}
use Rattle.cq_run.specs.Pace.{Pace}
use Rattle.cq_run.specs.Reader.{Reader}

-- the answer is the status of an end that the words may come to, and the error sink is told of that end
pub record Answers (pace : Pace) (r : Reader) (unread unwritten : List ℕ → Type 0) (untaken : Type 0)
    (words : List (List ℕ)) (old new : World) (err_old err_new : Taken) (answer : Status) : Type 0 where
  pub end : Result (Unit {0}) Stop
  pub ends : Ends pace r unread unwritten untaken words old new end
  pub status : answer ≡ status_of end
  pub tells : Tells end err_old err_new
