-- Which block stands where. Each block of the pool stands once, in the order or among the free ones. So a block that is
-- changed in the pool changes at its one place in the order and nowhere else; a block that comes in under a number that
-- was free or is new stands nowhere in the order, so that the blocks there stay; and so do the others where the first
-- one becomes free.
use Rattle.cq_urgency.proofs.Terms.{cases_lt, length-append, common_steps, rules, ◌≡◌, ◌≢◌, ℕ, zero, suc, ◌+◌, ◌<◌, ◌≤◌, List, [], ◌∷◌, ◌++◌, length, get_or, set, take, drop, refl, ap, ◌∙◌, arith, length-set, length-take, length-drop, get_or-set_same, get_or-set_other, drop-map, ◌==◌, insert, sum_by, cases_Bool, cases_eq, lt-ltb, ltb-true, eq-eqb, ne_eqb, cond-false, length_push, length-map, map-set, take-map, get_or-map, get_or_read, get_or_past, take_all, length-insert, sum_by-cons, sum_by_push, sum_by-insert, get_or-le-sum_by, Queued, BlocksView, block_at, cells_in_all, counts_behind, get_or-insert_below, halved, without_first, in_order, bit, times, has, ArePlaced, ComesIn, map-insert, most_cells, ◌-◌}
use Rattle.cq_urgency.specs.Blocks.{IsParted}
use Rattle.std.proofs.lemmas.List.Sums.{sum-map}
use Rattle.std.proofs.lemmas.List.{drop-set-add, drop-set-lt, get_or-append_right, get_or_append_left, with_items_is}

-- ## How often a number stands in a list

bit_same : (m n : ℕ) → m ≡ n → bit (m == n) ≡ 1
bit_same m n e = ap bit (eq-eqb m n e)

times_read : (xs : List ℕ) (i number : ℕ) → i < length xs → number ≡ get_or xs i number → 1 ≤ times number xs
times_read xs i number inside is = grind (arith, common_steps, get_or-le-sum_by, bit_same)

has_inside : (pool : List (List Queued)) (n : ℕ) → 1 ≤ has pool n → n < length pool
has_inside pool n some = grind (arith, common_steps, ltb-true, cases_Bool)

-- ## Blocks in their order

-- the blocks stay where only one changes that is not in the order
same_order : (pool pool' : List (List Queued)) (number : ℕ) →
    ((n : ℕ) → n ≢ number → block_at pool' n ≡ block_at pool n) → (order : List ℕ) → times number order ≡ 0 →
    in_order pool' order ≡ in_order pool order
same_order pool pool' number others [] none = refl
same_order pool pool' number others (x ∷ xs) none =
    grind (arith, common_steps, sum_by-cons, bit_same, same_order pool pool' number others xs)

-- a block changes at its place
set_order : (pool : List (List Queued)) (block : List Queued) (order : List ℕ) (i number : ℕ) → i < length order →
    number ≡ get_or order i number → number < length pool → times number order ≤ 1 →
    in_order (set pool number block) order ≡ set (in_order pool order) i block
set_order pool block [] i number inside is there once = absurd (omega arith)
set_order pool block (x ∷ xs) zero number inside is there once =
    grind (arith, common_steps, sum_by-cons, bit_same, get_or-set_same, same_order, get_or-set_other)
set_order pool block (x ∷ xs) (suc i) number inside is there once =
    grind (arith, common_steps, sum_by-cons, times_read, get_or-set_other, bit_same, set_order pool block xs i number)

-- ## Counts of blocks

-- the cells of the first block and the counts behind it add up to the cells
pub counts_all : (blocks : List (List Queued)) (counts : List ℕ) → counts ≡ counts_behind blocks → 0 < length blocks →
    length (block_at blocks 0) + sum_by (λ n. n) counts ≡ cells_in_all blocks
counts_all blocks counts is some = grind (arith, common_steps, sum_by-cons, sum-map)

-- and so do those ahead of a place
pub counts_ahead : (blocks : List (List Queued)) (counts : List ℕ) (behind place : ℕ) → counts ≡ counts_behind blocks →
    0 < length blocks → place ≡ behind + 1 →
    length (block_at blocks 0) + sum_by (λ n. n) (take behind counts) ≡ cells_in_all (take place blocks)
counts_ahead blocks counts behind place is some next = grind (arith, common_steps, take-map, sum-map, sum_by-cons)

-- the counts where a block changes
pub count_set : (blocks : List (List Queued)) (block : List Queued) (i : ℕ) (counts : List ℕ) {now : List ℕ} {len : ℕ} →
    now ≡ drop 1 (set (0 ∷ counts) i len) → len ≡ length block → counts ≡ counts_behind blocks → i < length blocks →
    now ≡ counts_behind (set blocks i block)
count_set [] block i counts put long is inside = absurd (omega arith)
count_set (b ∷ bs) block zero counts put long is inside = cc
count_set (b ∷ bs) block (suc i) counts put long is inside = grind (arith, common_steps, map-set)

-- and where it is split
pub count_split : (blocks : List (List Queued)) (i : ℕ) (counts : List ℕ) {now : List ℕ} →
    now ≡ insert (drop 1 (set (0 ∷ counts) i 32)) i 32 → counts ≡ counts_behind blocks →
    length (block_at blocks i) ≡ most_cells → now ≡ counts_behind (halved blocks i)
count_split [] i counts put is full = absurd (omega arith)
count_split (b ∷ bs) zero counts put is full = rw (put, is) (cc (length-drop 32 b))
count_split (b ∷ bs) (suc n) counts put is full =
    let next : suc n + 1 ≡ suc (n + 1) = omega arith in
    rw put (search (arith, rules, length-take 32 (block_at bs n), length-drop 32 (block_at bs n), map-insert, map-set))

-- ## The number of a free block

-- the number of a free block is one of the pool's
pub free_there : (pool : List (List Queued)) (free free' : List ℕ) (number : ℕ) → free ≡ free' ++ number ∷ [] →
    ((n : ℕ) → times n free ≤ has pool n) → number < length pool
free_there pool free free' number whole within =
    search (arith, rules, sum_by_push, bit_same number number refl, has_inside pool number)

pub comes_free : (pool : List (List Queued)) (free free' : List ℕ) (block block' : List Queued) (number : ℕ) →
    free ≡ free' ++ number ∷ [] → block' ≡ block → ((n : ℕ) → times n free ≤ has pool n) →
    ComesIn pool free (set pool number block') free' block number
comes_free pool free free' block block' number whole e within =
    let inside = free_there pool free free' number whole within in
    grind (arith, common_steps, get_or-set_same, get_or-set_other, sum_by_push, length-set, length_push)

-- the second half of a block goes over to one behind it, or ahead of it, in the pool
ruleset both = (get_or_append_left, get_or-append_right, get_or-set_same, get_or-set_other, length-set, length-append)

pub parted_behind : (front back : List (List Queued)) {from to : ℕ} {x y : List Queued} → from < to →
    length front ≡ to → 0 < length back → x ≡ take 32 (block_at (front ++ back) from) →
    y ≡ drop 32 (block_at (front ++ back) from) →
    IsParted (front ++ back) (set front from x ++ set back 0 y) from to
parted_behind front back less mid some left half = search (arith, rules, both, cases_lt, cases_eq)

pub parted_ahead : (front back : List (List Queued)) {from to : ℕ} {x y : List Queued} → to < from →
    length front ≡ from → 0 < length back → x ≡ take 32 (block_at (front ++ back) from) →
    y ≡ drop 32 (block_at (front ++ back) from) →
    IsParted (front ++ back) (set front to y ++ set back 0 x) from to
parted_ahead front back less mid some left half = search (arith, rules, both, cases_lt, cases_eq)

-- the second half of a block goes over to one that came in
module _ (pool pool' : List (List Queued)) (free free' : List ℕ) (block : List Queued) (number other : ℕ)
    (inside : number < length pool) (used : times number free ≡ 0)
    (within : (n : ℕ) → times n free ≤ has pool n) (q : ComesIn pool free pool' free' block other) where
  pub came_apart : other ≢ number
  came_apart e = grind (arith, common_steps, lt-ltb number (length pool) inside, bit_same, cases_Bool)

  pub comes_parted : (now : List (List Queued)) → IsParted pool' now number other →
      ComesIn (set pool number (take 32 (block_at pool number))) free now free' (drop 32 (block_at pool number)) other
  comes_parted now is =
      let stay = is.others in
      search (arith, rules, length-set, get_or-set_other, came_apart, get_or-set_same, q.others, q.once, cases_eq, stay)

-- ## Fields that stand for blocks

-- the fields are in order, and stand for these blocks
pub record Kept (pool : List (List Queued)) (first : ℕ) (order counts free : List ℕ) (blocks : List (List Queued)) :
    Type 0 where
  pub placed : ArePlaced pool first order counts free
  pub seen : in_order pool order ≡ blocks

pub kept : {pool : List (List Queued)} {first : ℕ} {order counts free : List ℕ} {most : ℕ} {v : BlocksView} →
    ArePlaced pool first order counts free → record { blocks = in_order pool order; most = most } ≡ v →
    Kept pool first order counts free v.blocks
kept p view = record { placed = p; seen = ap (λ (w : BlocksView). w.blocks) view }

module _ {pool : List (List Queued)} {first : ℕ} {order counts free : List ℕ} {blocks : List (List Queued)}
    (w : Kept pool first order counts free blocks) where
  pub as_many : length order ≡ length blocks
  as_many = grind (arith, common_steps, length-map)

  pub as_many_counts : counts ≡ counts_behind blocks
  as_many_counts = w.placed.counted ∙ ap counts_behind w.seen

  -- the block at a place in the order
  module _ {i number : ℕ} (is : number ≡ get_or order i number) (inside : i < length blocks) where
    pub in_order_there : i < length order
    in_order_there = let many = as_many in omega arith

    pub in_pool : number < length pool
    in_pool = grind (arith, common_steps, in_order_there, times_read, has_inside)

    pub not_freed : times number free ≡ 0
    not_freed = search (arith, rules, in_order_there, cases_Bool, times_read)

    pub block_same : block_at pool number ≡ block_at blocks i
    block_same = grind (arith, common_steps, get_or-map, in_order_there)

    -- what is read in the pool is the block
    pub read_is : {read : List Queued} → read ≡ get_or pool number read → read ≡ block_at blocks i
    read_is e = grind (arith, common_steps, get_or_read, in_pool, block_same)

    pub changed : (block : List Queued) (counts' : List ℕ) → counts' ≡ counts_behind (set blocks i block) →
        Kept (set pool number block) first order counts' free (set blocks i block)
    changed block counts' counted =
        grind (arith, common_steps, in_order_there, set_order, in_pool, cases_Bool, length-set)

  -- another block comes in
  module _ {pool' : List (List Queued)} {free' : List ℕ} {block : List Queued} {number : ℕ}
      (q : ComesIn pool free pool' free' block number) where
    fresh : times number order ≡ 0
    fresh = grind (arith, common_steps, bit_same, cases_Bool)

    pub come : (first' i : ℕ) (counts' : List ℕ) → i ≤ length order → first' ≡ get_or (insert order i number) 0 first' →
        counts' ≡ counts_behind (insert blocks i block) →
        Kept pool' first' (insert order i number) counts' free' (insert blocks i block)
    come first' i counts' le led counted = search (rules, map-insert, same_order, fresh, sum_by-insert, length-insert)

  -- the first block is in order where it is another one
  pub popped : 0 < length blocks → (block : List Queued) →
      Kept (set pool first block) first order counts free (set blocks 0 block)
  popped some block =
      changed w.placed.led some block counts (count_set blocks block 0 counts refl refl as_many_counts some)

-- ## A block that comes in

-- the first block
pub started : {pool pool' : List (List Queued)} {first number : ℕ} {order counts free free' order' : List ℕ}
    {blocks : List (List Queued)} {block : List Queued} → Kept pool first order counts free blocks → blocks ≡ [] →
    ComesIn pool free pool' free' block number → order' ≡ order ++ number ∷ [] →
    Kept pool' number order' counts free' (block ∷ [])
started w none q now = rw now (grind (arith, common_steps, come, as_many_counts))

-- a full block split
pub split : {pool pool' : List (List Queued)} {first : ℕ} {order counts free free' order' counts' : List ℕ}
    {blocks : List (List Queued)} (w : Kept pool first order counts free blocks) {i number other : ℕ} →
    ComesIn (set pool number (take 32 (block_at pool number))) free pool' free' (drop 32 (block_at pool number)) other →
    number ≡ get_or order i number → i < length blocks → order' ≡ insert order (i + 1) other →
    counts' ≡ counts_behind (halved blocks i) → Kept pool' first order' counts' free' (halved blocks i)
split {pool = pool} {first = first} {counts' = counts'} w {i} {number} q is inside now counted =
    let fronted = changed w is inside (take 32 (block_at pool number)) _ refl in
    let come = come fronted q first (i + 1) counts' in
    rw now (search (arith, rules, get_or-insert_below, block_same w is, in_order_there w is, come))

-- ## The first block becomes free

pub freed : {pool : List (List Queued)} {first first' : ℕ} {order counts free : List ℕ} {blocks : List (List Queued)} →
    Kept pool first order counts free blocks → 0 < length blocks → first' ≡ get_or (drop 1 order) 0 first' →
    Kept pool first' (drop 1 order) (drop 1 counts) (free ++ first ∷ []) (drop 1 blocks)
freed w some led = grind (arith, common_steps, as_many w, sum_by-cons, sum_by_push, length_push, drop-map)

-- ## The first cell taken out

pub emptied : (blocks : List (List Queued)) (block : List Queued) → length (block_at blocks 0) ≡ 1 →
    drop 1 (set blocks 0 block) ≡ without_first blocks
emptied blocks block one = grind (arith, common_steps, eq-eqb)

pub without_cell : (blocks : List (List Queued)) → 0 < length blocks → 1 < length (block_at blocks 0) →
    without_first blocks ≡ set blocks 0 (drop 1 (block_at blocks 0))
without_cell blocks some more = grind (arith, common_steps, cond-false, ne_eqb)

-- the count of a block that is set
pub ruleset set_steps = (drop-set-lt, drop-set-add)

-- ## What the functions do

-- a block in place of a free one
pub ruleset free_steps = (free_there, comes_free)

-- the second half of a block goes over to another one
pub ruleset move_steps = (parted_behind, parted_ahead, length-set, get_or_read)

-- and to one that came in
pub ruleset half_steps = (came_apart, comes_parted, with_items_is, length-set, get_or_read)

-- the block at a place is read
pub ruleset block_steps = (kept, in_pool, read_is)

-- the cells ahead of a place are counted
pub ruleset ahead_steps = (kept, as_many_counts, counts_ahead, counts_all, take_all)

-- a cell goes into the first block of all, or into another one
pub ruleset start_steps = (kept, started)

pub ruleset insert_steps = (kept, in_pool, read_is, changed, count_set, as_many_counts, length-set)

-- a full block is split
pub ruleset cut_steps = (kept, in_pool, not_freed, block_same, as_many, as_many_counts, count_split, split, length-set)

-- the first cell goes, and a block without cells
pub ruleset pop_steps = (kept, in_pool, read_is, popped, length-set)

pub ruleset freed_steps = (kept, freed, get_or_past)
