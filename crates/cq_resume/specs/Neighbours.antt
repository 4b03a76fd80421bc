-- Only proofs use this.
-- What a test of each item and the next one comes to.
use Rattle.std.specs.Prelude.{Bool, List}
use Rattle.std.specs.List.{IsAllAdjacentAnswer}

-- where it answers yes each item and the next one passed, and where it answers no some two did not
pub record IsOfNeighbours {X : Type 0} (Test : X → X → Bool → Type 0) (items : List X) (answer : Bool) : Type 0 where
  pub each : IsAllAdjacentAnswer Test items answer
