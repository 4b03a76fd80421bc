-- Only proofs use this.
-- Inputs in order of number.
use Rattle.std.specs.Prelude.{ℕ, nat_lt, List}
use Rattle.cq_prefs.specs.FirstCells.{put_by}

-- the inputs with input i, before the first that has a greater number
abbrev pub with_input : ℕ → List ℕ → List ℕ
with_input i inputs = put_by nat_lt i inputs
