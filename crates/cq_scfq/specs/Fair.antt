-- Self-clocked fair queueing (Golestani 1994), with a virtual time for each level, where an idle slot sets all
-- numbers to 0.
use Rattle.std.specs.Prelude.{ℕ, ◌+◌, max, List, length, slice_set, slice_index, replicate}
use Rattle.cq_base.specs.declared.setup.ClassRow.{ClassRow}
use Rattle.cq_base.specs.Limits.{level_count}
use Rattle.cq_rank.specs.Classes.{row_at}
use Rattle.cq_rank.specs.Machine.{Machine}

-- The state is a tag for each class, and behind them a virtual time for each level. This is the one of a class's level.
abbrev pub time_of : List ClassRow → List ℕ → ℕ → ℕ
time_of rows s c = slice_index s (length rows + (row_at rows c).level)

-- a cell of class c is ranked by the cost of its class after the greater of its class's tag and its level's virtual
-- time
abbrev pub fair_rank : List ClassRow → List ℕ → ℕ → ℕ
fair_rank rows s c = max (slice_index s c) (time_of rows s c) + (row_at rows c).cost

-- the tags and the virtual times are 0
abbrev pub all_zero : List ClassRow → List ℕ
all_zero rows = replicate (length rows + level_count) 0

-- The rank becomes the tag of its class. The rank that is sent becomes the virtual time of its level. Where none is
-- sent all numbers become 0.
abbrev pub fair : List ClassRow → Machine
fair rows = record {
  classes = length rows;
  size = length rows + level_count;
  level = λ c. (row_at rows c).level;
  ranked = fair_rank rows;
  given = λ s c. slice_set s c (fair_rank rows s c);
  sent = λ s l r. slice_set s (length rows + l) r;
  idle = λ s. all_zero rows;
  floor = λ s c. slice_index s c;
}
