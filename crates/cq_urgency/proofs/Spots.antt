-- Where a key belongs among blocks of rising cells. The cells of a block come before those of the blocks behind it. So
-- where a block begins with a lesser key, all cells ahead of it have lesser keys; and where the next block begins with
-- none, no cell from there on has one. The cells of lesser key are thus those ahead of the block and those of its own.
-- Where the last cell of all has a lesser key, so have all cells of its block, and the spot is its end.
--
-- A full block that is split keeps each place: in its front half, or in its back half behind 32 cells more.
--
-- No block is empty, and each but the first has 32 cells at least. Only the first block gets fewer cells, and a block
-- that is split has 64. So the blocks are few: 32 times their number is at most 31 more than the number of cells, and
-- where one is split, so it is afterwards.
use Rattle.cq_urgency.proofs.Terms.{sym, subst, all_at, ap, rules, ◌≡◌, ℕ, zero, suc, ◌+◌, ◌*◌, ◌/◌, ◌-◌, ◌<◌, ◌≤◌, true, false, List, [], ◌∷◌, ◌++◌, length, take, Some, length-append, length-set, length-take, length-drop, get_or-set_same, arith, common_steps, slice_get, AllByRecursion, cases_Bool, take-append-le, take-take, take-set, length-insert, get_or-insert_below, get_or-insert_at, sum_by_more, Key, Queued, is_before, IsBefore, IsRising, cushion, key_laws, flattened, block_at, halved, AreFilled, AreBegun, IsSpot, starts_before, all_weaker, all_front, all_back, most_cells, few_kept, filter_all, filter_none}
use Rattle.cq_urgency.proofs.Flattened.{flattened-halved, length-flattened}
use Rattle.cq_urgency.proofs.Halving.{cushion-append}

-- ## What holds of joined lists

rising_parts : (xs ys : List Queued) → IsRising (xs ++ ys) →
    IsRising xs × IsRising ys × AllByRecursion (λ x. AllByRecursion (IsBefore x) ys) xs
rising_parts [] ys r = (tt, r, tt)
rising_parts (x ∷ xs) ys r = grind (arith, common_steps, all_front, all_back, rising_parts xs ys r.1)

pub rising_block : (blocks : List (List Queued)) (i : ℕ) → IsRising (flattened blocks) → IsRising (block_at blocks i)
rising_block [] i r = tt
rising_block (b ∷ bs) zero r = (rising_parts b (flattened bs) r).0
rising_block (b ∷ bs) (suc i) r = rising_block bs i (rising_parts b (flattened bs) r).1

-- ## Ahead of a block, and from a block on

lesser_ahead : (key : Key) (blocks : List (List Queued)) (i : ℕ) → starts_before key (block_at blocks i) ≡ true →
    (x : Queued) → AllByRecursion (IsBefore x) (flattened blocks) → is_before x.key key ≡ true
lesser_ahead key [] i e x a = cc
lesser_ahead key (b ∷ bs) zero e x a = grind (arith, common_steps, key_laws.on)
lesser_ahead key (b ∷ bs) (suc i) e x a = lesser_ahead key bs i e x (all_back (IsBefore x) b (flattened bs) a)

-- no block is empty
abbrev AreSome : List (List Queued) → Type 0
AreSome blocks = AllByRecursion (λ block. 0 < length block) blocks

filled_some : (blocks : List (List Queued)) → AreFilled blocks → AreSome blocks
filled_some blocks f = search (arith, rules, all_weaker)

none_behind : (key : Key) (blocks : List (List Queued)) → IsRising (flattened blocks) → AreSome blocks →
    (0 < length blocks → starts_before key (block_at blocks 0) ≡ false) → cushion key (flattened blocks) ≡ 0
none_behind key blocks r some first = grind (arith, common_steps, filter_none, all_weaker, cases_Bool, key_laws.on)

cushion_in : (key : Key) (blocks : List (List Queued)) (i : ℕ) → IsRising (flattened blocks) → AreSome blocks →
    i < length blocks → starts_before key (block_at blocks i) ≡ true →
    (i + 1 < length blocks → starts_before key (block_at blocks (i + 1)) ≡ false) →
    length (flattened (take i blocks)) + cushion key (block_at blocks i) ≡ cushion key (flattened blocks)
cushion_in key [] i r some inside e behind = absurd (omega arith)
cushion_in key (b ∷ bs) zero r some inside e behind =
    search (arith, rules, none_behind key bs, rising_parts b (flattened bs) r, behind, cushion-append)
cushion_in key (b ∷ bs) (suc i) r some inside e behind =
    let parts = rising_parts b (flattened bs) r in
    search (arith, rules, length-append, filter_all, all_weaker, lesser_ahead, cushion_in key bs i, cushion-append)

-- a block has a cell, so that its last one is there
pub some_at : (blocks : List (List Queued)) (i : ℕ) {block : List Queued} {n : ℕ} → n ≡ length block →
    block ≡ block_at blocks i → i < length blocks → AreFilled blocks → (0 < n) × (n - 1 < length block)
some_at blocks i long is inside f = grind (arith, common_steps, filled_some)

-- ## A last cell of lesser key

-- where the last cell of a rising list has a lesser key, all cells have one
all_lesser : (key : Key) (xs : List Queued) (k : ℕ) (x : Queued) → IsRising xs → slice_get xs k ≡ Some x →
    k + 1 ≡ length xs → is_before x.key key ≡ true → AllByRecursion (λ y. is_before y.key key ≡ true) xs
all_lesser key [] k x r at end e = tt
all_lesser key (y ∷ ys) zero x r at end e = grind (arith, common_steps)
all_lesser key (y ∷ ys) (suc k) x r at end e =
    grind (arith, common_steps, all_at, key_laws.on, all_lesser key ys k x r.1)

starts_lesser : (key : Key) (xs : List Queued) → 0 < length xs →
    AllByRecursion (λ y. is_before y.key key ≡ true) xs → starts_before key xs ≡ true
starts_lesser key xs some a = grind (arith, common_steps)

-- ## The spot of a key

module _ (key : Key) (blocks : List (List Queued)) (r : IsRising (flattened blocks)) (f : AreFilled blocks) where
  pub spot_first : (place : ℕ) → AreBegun key blocks place → place ≡ 0 → 0 < length blocks →
      IsSpot blocks (cushion key (flattened blocks)) 0 0
  spot_first place begun none some = grind (arith, common_steps, none_behind, filled_some, begun.behind)

  pub spot_in : (place block within : ℕ) {own : List Queued} → AreBegun key blocks place → block + 1 ≡ place →
      within ≡ cushion key own → own ≡ block_at blocks block →
      IsSpot blocks (cushion key (flattened blocks)) block within
  spot_in place block within begun next is read = search (rules, few_kept, cushion_in, filled_some, length-flattened)

  -- behind the last cell of all
  pub spot_end : (last within place : ℕ) (block : List Queued) (x : Queued) → last + 1 ≡ length blocks →
      block ≡ block_at blocks last → within ≡ length block → place + 1 ≡ within → slice_get block place ≡ Some x →
      is_before x.key key ≡ true → IsSpot blocks (cushion key (flattened blocks)) last within
  spot_end last within place block x end is long whole at e =
      let lesser = all_lesser key block place x (subst IsRising (sym is) (rising_block blocks last r)) at (cc) e in
      let all = ap length (filter_all (λ y. is_before y.key key) block lesser) in
      search (arith, rules, starts_lesser, all, cushion_in, filled_some, length-flattened)

-- ## The spot where a block was split

module _ (blocks : List (List Queued)) (i : ℕ) (inside : i < length blocks)
    (full : length (block_at blocks i) ≡ most_cells) where
  longer : length (halved blocks i) ≡ length blocks + 1
  longer = grind (arith, common_steps, length-set, length-insert)

  ahead_same : take i (halved blocks i) ≡ take i blocks
  ahead_same = grind (arith, common_steps, length-set, length-take, take-append-le, take-take, take-set)

  front_length : length (block_at (halved blocks i) i) ≡ 32
  front_length =
      grind (arith, common_steps, length-set, get_or-insert_below, get_or-set_same, length-take 32 (block_at blocks i))

  back_length : length (block_at (halved blocks i) (i + 1)) ≡ 32
  back_length = grind (arith, common_steps, length-set, get_or-insert_at, length-drop 32 (block_at blocks i))

  module _ {new : List (List Queued)} (is : new ≡ halved blocks i) {ahead o : ℕ} (spot : IsSpot blocks ahead i o) where
    pub in_front_half : o ≤ 32 → IsSpot new ahead i o × (length (block_at new i) < most_cells)
    in_front_half early = rw is (search (arith, rules, longer, ahead_same, front_length))

    pub in_back_half : {place p : ℕ} → place ≡ i + 1 → p + 32 ≡ o →
        IsSpot new ahead place p × (length (block_at new place) < most_cells)
    in_back_half next late =
        rw (is, next) (grind (arith, common_steps, longer, ahead_same, front_length, back_length, sum_by_more))

-- ## Blocks that are filled

-- each block has 32 cells at least
abbrev AreHalf : List (List Queued) → Type 0
AreHalf blocks = AllByRecursion (λ block. 32 ≤ length block) blocks

-- and the first one has so many
abbrev AreLed : ℕ → List (List Queued) → Type 0
AreLed least [] = Unit {0}
AreLed least (block ∷ blocks) = (least ≤ length block) × AreHalf blocks

led_halved : (least : ℕ) (b : List Queued) (bs : List (List Queued)) (i : ℕ) → least ≤ 32 → AreLed least (b ∷ bs) →
    length (block_at (b ∷ bs) i) ≡ most_cells → AreLed least (halved (b ∷ bs) i)
led_halved least b bs zero few a full = grind (arith, common_steps, length-take 32 b, length-drop 32 b)
led_halved least b [] (suc i) few a full = absurd (omega arith)
led_halved least b (c ∷ bs) (suc i) few a full = search (arith, rules, led_halved 32 c bs i)

pub filled_halved : (blocks : List (List Queued)) (i : ℕ) → AreFilled blocks → length (block_at blocks i) ≡ most_cells →
    AreFilled (halved blocks i)
filled_halved blocks i f full = search (arith, rules, led_halved 1)

-- ## Few blocks

half_few : (blocks : List (List Queued)) → AreHalf blocks → 32 * length blocks ≤ length (flattened blocks)
half_few [] a = omega arith
half_few (b ∷ bs) a = grind (arith, common_steps, length-append, half_few bs a.1)

-- there is room for one more block where a full one is split
pub room_to_split : (blocks : List (List Queued)) (i most room : ℕ) → AreFilled blocks → i < length blocks →
    length (block_at blocks i) ≡ most_cells → length (flattened blocks) ≤ room → most ≡ room / 32 + 1 →
    length blocks < most
room_to_split blocks i most room f inside full fits enough =
    let more = longer blocks i inside full in
    search (arith, rules, filled_halved, flattened-halved, half_few, length-append)

-- the last block looked at, and the one to which a key belongs
pub ruleset spot_steps = (spot_first, spot_in, spot_end, some_at, rising_block)

-- a full block split in two
pub ruleset split_steps = (room_to_split, flattened-halved, filled_halved, in_front_half, in_back_half)
