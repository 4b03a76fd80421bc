-- Whether files are read ahead of judging, and what the count of faults may show then.
use Rattle.std.specs.Prelude.{◌≡◌, ◌⊎◌, ℕ, if◌then◌else◌, List, is_some}
use Rattle.cq_space.specs.Causes.{Rose}
use Rattle.cq_words.specs.Streamed.{streamed}

-- when a file is read
pub data Pace : Type 0 where
  -- once all that is judged before it was accepted
  InTurn : Pace
  -- or ahead of that
  Ahead : Pace

-- the pace of the program: it reads ahead for the words `stream CONFIG` alone
abbrev pub pace_of : List (List ℕ) → Pace
pace_of words = if is_some (streamed words) then Ahead else InTurn

-- the count of faults where the answer tells of none. It is as before; only where files are read ahead may it have
-- risen, and then this holds too
abbrev pub Uncounted : Pace → Type 0 → ℕ → ℕ → Type 0
Uncounted InTurn outrun before now = now ≡ before
Uncounted Ahead outrun before now = (now ≡ before) ⊎ (Rose before now × outrun)

-- there is such a name
pub record AnyName (unread : List ℕ → Type 0) : Type 0 where
  pub name : List ℕ
  pub is : unread name
