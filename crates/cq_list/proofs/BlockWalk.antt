-- A walk along the blocks from the first of a run on, and over the sums of runs from both ends. What stands ahead of
-- the block behind a block is what stands ahead of it, and its own: what is counted grows by a block's numbers, or a
-- sum's. The first block stands apart: the places of a list are its own, and then those of the others, of which is
-- asked from the first block's end on.
use Rattle.cq_list.specs.Sums.{AreSums, SumView, begin_of, own_in}
use Rattle.cq_list.proofs.Terms.{take-append-add, rules, ◌≡◌, ℕ, ◌+◌, ◌-◌, ◌<◌, ◌≤◌, Bool, List, [], ◌++◌, length, get_or, take, drop, arith, length-append, take-append-drop, common_steps, filter, concat, take-append-le, drop_more, append-nil, filter-append, concat-append, place_of_nth, is_output, count_of, most_ports, IsSpot, IsAhead, few_kept, length-take, take_all, sym, insert, remove, insert-append_right, remove-append_right}
use Rattle.cq_list.proofs.Nth.{nth_inside, nth_in_front, nth_behind}
use Rattle.cq_list.proofs.Sums.{ahead_next, all_ahead, count_added, length_added}
use Rattle.cq_list.proofs.Runs.{read_sum}

pub nth_end : {X : Type 0} (p : X → Bool) (k : ℕ) (xs : List X) → k ≡ length (filter p xs) →
    place_of_nth p k xs ≡ length xs
nth_end p k xs all = grind (arith, common_steps, nth_behind p k xs [], append-nil xs)

pub take_past : (xs ys : List ℕ) (n : ℕ) → length xs ≤ n → take n (xs ++ ys) ≡ xs ++ take (n - length xs) ys
take_past xs ys n past = grind (arith, common_steps, take-append-add xs ys (n - length xs))

-- what stands ahead of a block is no more than all
pub ahead_fits : {blocks : List (List ℕ)} {j i places own : ℕ} → IsAhead blocks j i places own →
    (places ≤ length (concat blocks)) × (own ≤ length (concat blocks))
ahead_fits {j = j} ahead = search (rules, all_ahead length length_added, all_ahead (count_of j) (count_added j))

module _ (blocks : List (List ℕ)) (i : ℕ) {block : List ℕ} (inside : i < length blocks)
    (block_is : block ≡ get_or blocks i []) where
  parts_are : concat blocks ≡ concat (take i blocks) ++ (block ++ concat (drop (i + 1) blocks))
  parts_are = rw block_is
      (cc (take-append-drop i blocks, concat-append (take i blocks) (drop i blocks), drop_more blocks i [] inside))

  -- what stands ahead of the block behind it
  pub ahead_on : {j places own : ℕ} → IsAhead blocks j i places own →
      IsAhead blocks j (i + 1) (places + length block) (own + count_of j block)
  ahead_on {j} ahead = search (arith, rules, ahead_next length length_added, ahead_next (count_of j) (count_added j))

  -- how many of the places ahead of one of the block are an output's
  pub count_within : (j left place : ℕ) → left ≤ length block → length (concat (take i blocks)) + left ≡ place →
      count_of j (concat (take i blocks)) + count_of j (take left block) ≡ count_of j (take place (concat blocks))
  count_within j left place early is =
      search (arith, rules, parts_are, take-append-add, take-append-le, filter-append, length-append)

  -- the place of number k where the block has it
  module _ {j k places own : ℕ} (ahead : IsAhead blocks j i places own) (late : own ≤ k)
      (early : k < own + count_of j block) {place at within : ℕ} (is : place ≡ places + within) (in_block : at ≡ i)
      (found : within ≡ place_of_nth (is_output j) (k - own) block) where
    pub nth_found : (place ≡ place_of_nth (is_output j) k (concat blocks)) × IsSpot blocks place at within
    nth_found = search (arith, rules, nth_behind, parts_are, nth_in_front, nth_inside, block_is)

-- ## Run by run

module _ {blocks : List (List ℕ)} (offset : ℕ) {sums : List SumView} (had : AreSums blocks offset sums) (run : ℕ)
    {sum : SumView} (inside : run < length sums) (read : sum ≡ get_or sums run sum) {j : ℕ}
    (known : j < most_ports) where
  -- what stands ahead of the run behind it
  pub run_on : {places own : ℕ} → IsAhead blocks j (begin_of offset run) places own →
      IsAhead blocks j (begin_of offset (run + 1)) (places + sum.places) (own + own_in sum j)
  run_on ahead = let own = read_sum had inside read in let count = own.counts j known in search (arith, rules, own)

-- ## The first block, and the others behind it

module _ (b : List ℕ) (bs : List (List ℕ)) (n : ℕ) (long : n ≡ length b) where
  -- what stands ahead of the end, of the others alone
  pub ahead_behind : (j places own k : ℕ) → k ≡ count_of j b → places ≡ length (b ++ concat bs) →
      own ≡ count_of j (b ++ concat bs) → IsAhead bs j (length bs) (places - n) (own - k)
  ahead_behind j places own k few all every = grind (arith, common_steps, take_all, length-append, filter-append)

  pub count_behind : (j place : ℕ) → n < place →
      count_of j (take place (b ++ concat bs)) ≡ count_of j b + count_of j (take (place - n) (concat bs))
  count_behind j place past = grind (arith, common_steps, take_past, length-append, filter-append)

  pub insert_later : (place y : ℕ) → n ≤ place →
      insert (b ++ concat bs) place y ≡ b ++ insert (concat bs) (place - n) y
  insert_later place y past = insert-append_right b (concat bs) n place y (sym long) past

  pub remove_later : (place k : ℕ) → n + place ≡ k → remove (b ++ concat bs) k ≡ b ++ remove (concat bs) place
  remove_later place k at = grind (arith, common_steps, remove-append_right b (concat bs) n k)

-- how many are ahead of a place
pub ruleset count_ahead_steps = (count_behind, few_kept, length-take)

-- what counts the places of blocks
pub ruleset count_steps = (count_within, ahead_next, length_added, count_added, few_kept, length-take, take_all)

-- what looks for the run of a place from both ends
pub ruleset find_from_ends_steps = (run_on, ahead_fits, take_all)
