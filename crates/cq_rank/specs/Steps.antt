-- What a machine goes through between two idle slots.
use Rattle.std.specs.Prelude.{ℕ, ◌<◌, List, [], ◌∷◌}
use Rattle.cq_rank.specs.Machine.{Machine}

-- a cell of this class was given its rank, or a cell of this level and this rank was sent
pub data Step : Type 0 where
  Given : ℕ → Step
  Sent : ℕ → ℕ → Step

-- the state after these steps
abbrev pub after : Machine → List Step → List ℕ → List ℕ
after m [] state = state
after m (Given class ∷ steps) state = after m steps (m.given state class)
after m (Sent level rank ∷ steps) state = after m steps (m.sent state level rank)

-- each cell that is given a rank is of one of the classes
abbrev pub AreOfClasses : ℕ → List Step → Type 0
AreOfClasses classes [] = Unit {0}
AreOfClasses classes (Given class ∷ steps) = (class < classes) × AreOfClasses classes steps
AreOfClasses classes (Sent level rank ∷ steps) = AreOfClasses classes steps
