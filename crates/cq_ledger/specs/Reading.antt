-- Only proofs use this.
-- The words of a ledger beside a state of the proposals.
use Rattle.std.specs.Prelude.{ℕ, suc, ◌≡◌, ◌<◌, List, slice_index}
use Rattle.cq_prefs.specs.Orders.{Orders, ports}
use Rattle.cq_prefs.specs.Proposals.{State, position_held}

-- the words after the first are the positions of the state
abbrev pub Shows : Orders → List ℕ → State → Type 0
Shows o words s = (j : ℕ) → j < ports o → slice_index words (suc j) ≡ position_held s j
