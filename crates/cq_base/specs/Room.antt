-- What clauses see of a list with room for more items.
use Rattle.std.specs.Prelude.{ℕ, List}

-- the items in order, and how many more there is room for
pub record RoomView (T : Type 0) : Type 0 where
  pub items : List T
  pub spare : ℕ
