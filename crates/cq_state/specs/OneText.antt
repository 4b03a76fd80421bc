-- States and texts stand one for one.
use Rattle.std.specs.Prelude.{◌≡◌, ℕ, List}
use Rattle.cq_state.specs.declared.state.State.{State}
use Rattle.cq_state.specs.State.{IsInRange, state_lines, state_text}
use Rattle.cq_state.specs.StateText.{Line, IsStateText}

-- the text of a state in range is allowed, no two such states have the same text, and there is one for each text
-- that is allowed
pub record HaveOneText : Type 0 where
  pub allowed : (s : State) → IsInRange s → IsStateText (state_lines s) (state_text s)
  pub one_state : (s t : State) → IsInRange s → IsInRange t → state_text s ≡ state_text t → s ≡ t
  pub each_told : (xs : List Line) (text : List ℕ) → IsStateText xs text → (s : State) × IsInRange s ×
      (xs ≡ state_lines s)
