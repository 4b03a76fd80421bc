-- The blocks of a list behind the first, and the sums of their runs of 32, of which the first may be short of some.
use Rattle.std.specs.Prelude.{◌≡◌, ℕ, ◌+◌, ◌-◌, ◌*◌, ◌<◌, ◌≤◌, ◌^◌, List, [], length, min, take, slice_index, slice_index_or}
use Rattle.std.specs.List.{concat}
use Rattle.cq_base.specs.Limits.{most_ports}
use Rattle.cq_list.specs.Split.{count_of}

-- the blocks of a run
abbrev pub run_blocks : ℕ
run_blocks = 32

-- how many places there are, and how many of them are each output's
pub record SumView : Type 0 where
  pub places : ℕ
  pub counts : List ℕ

-- how many are output j's
abbrev pub own_in : SumView → ℕ → ℕ
own_in s j = slice_index s.counts j

-- a sum with some places in place of others
pub record IsExchanged (gone new : List ℕ) (before after : SumView) : Type 0 where
  pub places : after.places + length gone ≡ before.places + length new
  pub counts : (j : ℕ) → j < most_ports → own_in after j + count_of j gone ≡ own_in before j + count_of j new
  pub each : length after.counts ≡ length before.counts

-- the later sum has these places more, or less
abbrev pub HasMore : SumView → SumView → List ℕ → Type 0
HasMore before after more = IsExchanged [] more before after

abbrev pub HasLess : SumView → SumView → List ℕ → Type 0
HasLess before after less = IsExchanged less [] before after

-- these places more still fit into the sum
pub record HasRoom (s : SumView) (more : List ℕ) : Type 0 where
  pub places : s.places + length more < 2 ^ 64
  pub counts : (j : ℕ) → j < most_ports → own_in s j + count_of j more < 2 ^ 64

-- these places are among those of the sum
pub record HasThese (s : SumView) (some : List ℕ) : Type 0 where
  pub places : length some ≤ s.places
  pub counts : (j : ℕ) → j < most_ports → count_of j some ≤ own_in s j

-- the blocks, of how many the first run is short, and for how many there is memory
pub record BlocksView : Type 0 where
  pub blocks : List (List ℕ)
  pub offset : ℕ
  pub capacity : ℕ

-- the sum is that of the blocks from one place on up to another
pub record IsBetween (blocks : List (List ℕ)) (from to : ℕ) (s : SumView) : Type 0 where
  pub places : length (concat (take from blocks)) + s.places ≡ length (concat (take to blocks))
  pub counts : (j : ℕ) → j < most_ports →
      count_of j (concat (take from blocks)) + own_in s j ≡ count_of j (concat (take to blocks))
  pub each : length s.counts ≡ most_ports

-- each run has its sum, that of the blocks from where it begins up to where the next one does, and there are as many
-- runs as so many blocks need
pub record AreRuns (blocks : List (List ℕ)) (sums : List SumView) (begins : ℕ → ℕ) (count : ℕ) : Type 0 where
  pub enough : count ≤ run_blocks * length sums
  pub few : run_blocks * length sums < count + run_blocks
  pub each : (r : ℕ) (none : SumView) → r < length sums →
      IsBetween blocks (begins r) (begins (r + 1)) (slice_index_or sums r none)

-- the block at which run r begins, where the first is short of so many
abbrev pub begin_of : ℕ → ℕ → ℕ
begin_of offset r = run_blocks * r - offset

-- the runs of the blocks
abbrev pub AreSums : List (List ℕ) → ℕ → List SumView → Type 0
AreSums blocks offset sums = AreRuns blocks sums (begin_of offset) (length blocks + offset)

-- as many runs as one block more needs, so that the last may have no block
abbrev pub AreOpen : List (List ℕ) → ℕ → List SumView → Type 0
AreOpen blocks offset sums = AreRuns blocks sums (begin_of offset) (length blocks + offset + 1)

-- a block came: the runs ahead of one are right, and those from it on begin a block too late
abbrev pub late_from : ℕ → ℕ → ℕ → ℕ
late_from offset next r = begin_of offset r + min 1 (r + 1 - next)

abbrev pub ArePassing : List (List ℕ) → ℕ → List SumView → ℕ → Type 0
ArePassing blocks offset sums next = AreRuns blocks sums (late_from offset next) (length blocks + offset)

-- a block went: the runs ahead of one are right, and those from it on begin a block too early
abbrev pub early_from : ℕ → ℕ → ℕ → ℕ
early_from offset next r = begin_of offset r - min 1 (r + 1 - next)

abbrev pub AreTaking : List (List ℕ) → ℕ → List SumView → ℕ → Type 0
AreTaking blocks offset sums next = AreRuns blocks sums (early_from offset next) (length blocks + offset + 1)

-- the runs of the blocks have their sums, the first has room for a block at least, and there are no more places than
-- can be counted
pub record AreSummed (blocks : List (List ℕ)) (offset : ℕ) (sums : List SumView) : Type 0 where
  pub runs : AreSums blocks offset sums
  pub short : offset < run_blocks
  pub fits : length (concat blocks) < 2 ^ 64

-- the block at which the run of a place begins, and how many places stand ahead of this run
pub record IsStart (v : BlocksView) (place begin ahead : ℕ) : Type 0 where
  pub run : ℕ
  pub begins : begin ≡ begin_of v.offset run
  pub counted : ahead ≡ length (concat (take begin v.blocks))
  pub late : ahead ≤ place
  pub early : place < length (concat (take (begin_of v.offset (run + 1)) v.blocks))
