-- The calls of a file space.
use Rattle.std.specs.Prelude.{ℕ, List}

-- the calls that can fail; those that begin something have the name
pub data Call : Type 0 where
  StartRead : (name : List ℕ) → Call
  Read : Call
  StartWrite : (name : List ℕ) → Call
  Write : Call
  Finish : Call
