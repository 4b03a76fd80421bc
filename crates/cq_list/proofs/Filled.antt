-- Blocks that are filled: each but the last has 16 places at least. This is told of each block by its own length, so
-- it stays where a block gets no shorter, where one of 16 places or more comes in, and where any block goes. There
-- are never many more blocks than a sixteenth of the places. Where a full block is split in two, a place of it stands
-- in the half to which it belongs, and each half has room for one more.
use Rattle.cq_list.proofs.Terms.{insert_end, common_steps, rules, ◌≡◌, ℕ, zero, suc, ◌+◌, ◌*◌, ◌<◌, ◌≤◌, List, [], ◌∷◌, ◌++◌, length, get_or, set, arith, length-append, length-set, length-take, length-drop, insert, remove, concat, length-remove, AreFilled, HaveMemory, joined, pulled, least_places, length-insert, get_or_read, insert-append_right, insert-append_left, ◌-◌, take, drop, take-append-drop, take-append-le, take-take, take-set, length-take-le, get_or-set_same, get_or-insert_at, get_or-insert_below, most_places, IsSpot}
use Rattle.cq_list.proofs.Blocks.{remove_in, push_in, joined_at, pulled_at, append_in, insert_in, split_in}
use Rattle.cq_list.proofs.Sums.{ahead_next, length_added}

pub few_blocks : (blocks : List (List ℕ)) → AreFilled blocks →
    least_places * length blocks ≤ length (concat blocks) + least_places
few_blocks [] filled = omega arith
few_blocks (b ∷ bs) filled = grind (arith, common_steps, length-append, few_blocks bs)

-- so there is memory for one more
pub room_for_block :
    (blocks : List (List ℕ)) (capacity : ℕ) → AreFilled blocks → HaveMemory (length (concat blocks)) capacity →
    length blocks < capacity
room_for_block blocks capacity filled memory = let few = few_blocks blocks filled in omega arith

pub many_in :
    (blocks : List (List ℕ)) (i : ℕ) → AreFilled blocks → i + 1 < length blocks →
    least_places ≤ length (get_or blocks i [])
many_in blocks zero filled inside = grind (arith, common_steps)
many_in [] (suc i) filled inside = absurd (omega arith)
many_in (b ∷ bs) (suc i) filled inside = grind (arith, common_steps, many_in bs i)

-- ## The first block and the others

pub filled_rest : (b : List ℕ) (bs : List (List ℕ)) → AreFilled (b ∷ bs) → AreFilled bs
filled_rest b bs filled = search (arith, rules)

-- others behind the same first block, where there were some
pub filled_behind :
    (b : List ℕ) (bs cs : List (List ℕ)) → AreFilled (b ∷ bs) → (0 < length cs → 0 < length bs) → AreFilled cs →
    AreFilled (b ∷ cs)
filled_behind b bs cs filled as_many new = grind (arith, common_steps)

-- ## A block in another one's place, one more, and one less

pub filled_set :
    (blocks : List (List ℕ)) (i : ℕ) (block : List ℕ) → AreFilled blocks →
    (i + 1 < length blocks → least_places ≤ length block) → AreFilled (set blocks i block)
filled_set [] i block filled many = tt
filled_set (b ∷ bs) zero block filled many = search (arith, rules)
filled_set (b ∷ bs) (suc i) block filled many = search (arith, rules, length-set, filled_set bs i block)

pub filled_longer :
    (blocks : List (List ℕ)) (i : ℕ) (block : List ℕ) → AreFilled blocks → length (get_or blocks i []) ≤ length block →
    AreFilled (set blocks i block)
filled_longer blocks i block filled longer = grind (arith, common_steps, filled_set, many_in)

pub filled_pushed :
    (blocks : List (List ℕ)) (block : List ℕ) → AreFilled blocks →
    ((i : ℕ) → i + 1 ≡ length blocks → least_places ≤ length (get_or blocks i [])) → AreFilled (blocks ++ block ∷ [])
filled_pushed [] block filled many = tt
filled_pushed (b ∷ bs) block filled many =
    grind (arith, common_steps, many 0, λ (i : ℕ). many (suc i), filled_pushed bs block)

pub filled_split :
    (blocks : List (List ℕ)) (i : ℕ) (front back : List ℕ) → AreFilled blocks → i < length blocks →
    least_places ≤ length front → least_places ≤ length back → AreFilled (insert (set blocks i front) (i + 1) back)
filled_split [] i front back filled inside long longer = absurd (omega arith)
filled_split (b ∷ bs) zero front back filled inside long longer = search (arith, rules)
filled_split (b ∷ bs) (suc i) front back filled inside long longer =
    search (rules, filled_behind, filled_rest, filled_split bs i front back)

pub filled_without : (blocks : List (List ℕ)) (i : ℕ) → AreFilled blocks → AreFilled (remove blocks i)
filled_without [] i filled = grind (arith, common_steps)
filled_without (b ∷ bs) zero filled = filled_rest b bs filled
filled_without (b ∷ bs) (suc i) filled = grind (arith, common_steps, length-remove, filled_without bs i)

-- ## A short block filled up

module _ (blocks : List (List ℕ)) (i : ℕ) (filled : AreFilled blocks) (inside : i + 1 < length blocks) where
  pub filled_joined : AreFilled (joined blocks i)
  filled_joined = grind (arith, common_steps, many_in, length-append, filled_set, filled_without)

  -- then it has more than the least, unless it is the last one now
  pub longer_joined : i + 1 < length (joined blocks i) → least_places < length (get_or (joined blocks i) i [])
  longer_joined later = grind (arith, common_steps, length-set, length-remove, many_in, joined_at, length-append)

  module _ (many : 32 < length (get_or blocks (i + 1) [])) where
    pub filled_pulled : AreFilled (pulled blocks i)
    filled_pulled = search (rules, many_in, length-append, length-drop, filled_set)

    pub longer_pulled : least_places < length (get_or (pulled blocks i) i [])
    longer_pulled = search (rules, many_in, length-take, pulled_at, length-append)

-- a place more in one of the blocks
pub ruleset put_steps = (append_in, insert_in, filled_longer, length-insert, get_or_read)

-- other blocks behind the first
pub ruleset rest_steps = (filled_rest, filled_behind)

-- a block more at the end
pub ruleset push_steps = (push_in, insert_end, filled_pushed, room_for_block)

-- a place less in one of the blocks
pub ruleset take_steps = (remove_in, length-remove, filled_set)

-- ## A full block split in two

-- the blocks, where block i was split in two
pub record IsHalved (blocks new : List (List ℕ)) (i : ℕ) : Type 0 where
  pub same : concat new ≡ concat blocks
  pub filled : AreFilled new
  pub front : length (get_or new i []) < most_places
  pub back : length (get_or new (i + 1) []) < most_places
  pub in_front : (place o : ℕ) → IsSpot blocks place i o → o < 32 → IsSpot new place i o
  pub in_back : (place o : ℕ) → IsSpot blocks place i o → 32 ≤ o → IsSpot new place (i + 1) (o - 32)

module _ (blocks new : List (List ℕ)) (i : ℕ) (inside : i < length blocks) (filled : AreFilled blocks)
    (full : length (get_or blocks i []) ≡ 64)
    (is : new ≡ insert (set blocks i (take 32 (get_or blocks i []))) (i + 1) (drop 32 (get_or blocks i []))) where
  front_half : get_or new i [] ≡ take 32 (get_or blocks i [])
  front_half = rw is (grind (arith, common_steps, get_or-insert_below, get_or-set_same, length-set))

  back_half : get_or new (i + 1) [] ≡ drop 32 (get_or blocks i [])
  back_half = rw is (grind (arith, common_steps, get_or-insert_at, length-set))

  front_long : length (get_or new i []) ≡ 32
  front_long = rw front_half (length-take-le 32 (get_or blocks i []) (omega arith))

  back_long : length (get_or new (i + 1) []) ≡ 32
  back_long = rw back_half (omega (arith, length-drop 32 (get_or blocks i [])))

  one_more : length new ≡ length blocks + 1
  one_more = rw is (grind (arith, common_steps, length-insert, length-set))

  same_ahead : take i new ≡ take i blocks
  same_ahead = rw is (grind (arith, common_steps, take-append-le, take-take, take-set, length-set, length-take))

  pub halves_are : IsHalved blocks new i
  halves_are = record {
    same = rw is (split_in blocks i _ _ inside (take-append-drop 32 (get_or blocks i [])));
    filled = rw is (filled_split blocks i _ _ filled inside (omega (arith, length-take-le 32 (get_or blocks i [])))
        (omega (arith, length-drop {A = ℕ})));
    front = omega (arith, front_long);
    back = omega (arith, back_long);
    in_front = search (arith, rules, one_more, front_long, same_ahead);
    in_back =
        search (arith, rules, one_more, front_long, back_long, same_ahead, ahead_next length length_added new i);
  }

-- a place in one of the two halves
pub ruleset split_steps = (insert-append_right, insert-append_left)
