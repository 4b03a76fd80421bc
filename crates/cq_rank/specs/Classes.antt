-- The classes that a machine is made for, and the numbers that it keeps of them.
use Rattle.std.proofs.Common.{◌≡◌, refl, ap}
use Rattle.std.specs.Prelude.{ℕ, ◌<◌, ◌≤◌, List, [], ◌∷◌, length, slice_index_or}
use Rattle.std.specs.List.{AllByRecursion}
use Rattle.cq_base.specs.Limits.{level_count, most_classes}
use Rattle.cq_base.specs.declared.setup.ClassRow.{ClassRow}

-- there are classes, and not too many, each is of one of the levels, and each costs something
pub record AreClasses (rows : List ClassRow) : Type 0 where
  pub some : 0 < length rows
  pub few : length rows ≤ most_classes
  pub level : AllByRecursion (λ row. row.level < level_count) rows
  pub cost : AllByRecursion (λ row. 0 < row.cost) rows

-- the row of a class
abbrev pub row_at : List ClassRow → ℕ → ClassRow
row_at rows class = slice_index_or rows class (record { level = 0; priority = 0; cost = 0 })

-- the numbers of classes: in order, of each its level, its priority and its cost
unfoldable pub numbers_of : List ClassRow → List ℕ
numbers_of [] = []
numbers_of (row ∷ rows) = row.level ∷ row.priority ∷ row.cost ∷ numbers_of rows

-- the classes that these numbers are of
unfoldable pub rows_of : List ℕ → List ClassRow
rows_of [] = []
rows_of (level ∷ []) = []
rows_of (level ∷ (priority ∷ [])) = []
rows_of (level ∷ (priority ∷ (cost ∷ numbers))) =
    record { level = level; priority = priority; cost = cost } ∷ rows_of numbers

-- numbers are of the classes that they were taken of
pub rows_again : (rows : List ClassRow) → rows_of (numbers_of rows) ≡ rows
unfolding numbers_of rows_of
rows_again [] = refl
rows_again (row ∷ rows) = ap (λ (l : List ClassRow). row ∷ l) (rows_again rows)
