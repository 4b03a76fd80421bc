-- The sums of runs of blocks. A sum is known by what stands ahead of the two blocks between which its blocks stand, so
-- that what is said of places and of an output's places is shown once, of anything that is added up along places.
-- Where blocks change in one run, its sum is exchanged, and the others stay. Where the first block goes or comes, all
-- is done: the first run is short of one more or less. Else a block goes over at each border of two runs behind it:
-- this border moves by one block, and the others stay.
use Rattle.cq_list.specs.Sums.{AreRuns, ArePassing, AreOpen, AreSums, AreSummed, AreTaking, BlocksView, HasLess, HasMore, HasRoom, HasThese, IsBetween, IsExchanged, SumView, begin_of}
use Rattle.cq_list.proofs.Sums.{length_went, length_came, HasBoth, IsAdded, IsChanged, ahead, ahead_next, all_ahead, block_came, block_set, block_went, count_added, length_added, one_between}
use Rattle.cq_list.proofs.Terms.{drop_all, ◌/◌, append-nil, get_or_read, get_or-set_other, get_or-set_same, length-set, take_all, cases_eq, cases_lt, common_steps, rules, ◌≡◌, ◌≢◌, ℕ, ◌+◌, ◌-◌, ◌^◌, ◌⊎◌, ◌<◌, ◌≤◌, List, [], ◌++◌, length, get_or, set, take, drop, insert, remove, concat, ap, ◌∙◌, arith, count_of}

-- what a slice of a vector leaves of the vector
pub whole : {X : Type 0} (n : ℕ) (xs old : List X) → n ≡ length xs → length old ≡ length xs →
    take n (xs ++ drop (length xs) old) ≡ xs
whole n xs old size same = grind (arith, common_steps, drop_all, append-nil)

-- ## One sum

module _ {old : List (List ℕ)} {from to : ℕ} {s : SumView} (had : IsBetween old from to s) where
  these : {some : List ℕ} → ((m : List ℕ → ℕ) → IsAdded m → ahead m old from + m some ≤ ahead m old to) →
      HasThese s some
  these inside =
      search (arith, rules, inside length length_added, λ (j : ℕ). inside (count_of j) (count_added j), had.counts)

  -- where they are none of its blocks, and there are no more places than can be counted
  room : {more : List ℕ} {all : ℕ} → all < 2 ^ 64 →
      ((m : List ℕ → ℕ) → IsAdded m → ahead m old to + m more ≤ ahead m old from + all) → HasRoom s more
  room fits apart =
      search (arith, rules, apart length length_added, λ (j : ℕ). apart (count_of j) (count_added j), had.counts)

-- ## A sum that is exchanged

exchanged : {s t : SumView} {gone new old now : List ℕ} → IsExchanged gone new s t →
    ((m : List ℕ → ℕ) → IsAdded m → m now + m gone ≡ m old + m new) → IsExchanged old now s t
exchanged had is =
    search (arith, rules, is length length_added, λ (j : ℕ). is (count_of j) (count_added j), had.counts)

-- ## A run

-- the sums where one is set
ruleset set_sum = (get_or-set_same, get_or-set_other, cases_eq, length-set)

pub read_sum : {blocks : List (List ℕ)} {sums : List SumView} {begins : ℕ → ℕ} {count r : ℕ} {s : SumView} →
    AreRuns blocks sums begins count → r < length sums → s ≡ get_or sums r s →
    IsBetween blocks (begins r) (begins (r + 1)) s
read_sum {r = r} {s} had inside read = rw read (had.each r s inside)

module _ (blocks : List (List ℕ)) (i : ℕ) {block : List ℕ} (inside : i < length blocks)
    (read : block ≡ get_or blocks i block) where
  over : (m : List ℕ → ℕ) → IsAdded m → ahead m blocks (i + 1) ≡ ahead m blocks i + m block
  over m added = ahead_next m added blocks i block inside (get_or_read blocks i block inside read [])

module _ {blocks : List (List ℕ)} {sums : List SumView} {begins : ℕ → ℕ} {count : ℕ}
    (had : AreRuns blocks sums begins count) (r : ℕ) (there : r < length sums) {s : SumView}
    (first : s ≡ get_or sums r s) where
  own : IsBetween blocks (begins r) (begins (r + 1)) s
  own = read_sum had there first

  pub has_room : {more : List ℕ} → length (concat blocks) + length more < 2 ^ 64 → HasRoom s more
  has_room {more} fits =
      room own fits (λ m added. omega (arith, all_ahead m added blocks (begins (r + 1)), added.few more))

  -- it has each of its blocks, and room for the one ahead of it or behind it
  module _ (i : ℕ) {block : List ℕ} (inside : i < length blocks) (read : block ≡ get_or blocks i block) where
    pub gives : begins r ≤ i → i < begins (r + 1) → HasThese s block
    gives early late = these own (λ m added. one_between m added blocks (begins r) i (begins (r + 1)) block early late
        inside (get_or_read blocks i block inside read []))

    pub takes : length (concat blocks) < 2 ^ 64 → (begins r ≡ i + 1) ⊎ (begins (r + 1) ≡ i) → HasRoom s block
    takes fits beside = room own fits (λ m added.
        search (arith, rules, over blocks i inside read m added, all_ahead m added blocks))

-- ## Blocks that change in one run

-- the borders of runs ahead of a run and its own stay, and those behind it move on by what came
module _ {old now : List (List ℕ)} {p lost come : ℕ} {gone new : List ℕ} {begins ends : ℕ → ℕ} {run : ℕ}
    (change : IsChanged p lost come gone new old now)
    (moves : (k : ℕ) → (k ≤ run → (begins k ≤ p) × (ends k ≡ begins k))
    × (run < k → (p + lost ≤ begins k) × (ends k + lost ≡ begins k + come))) where
  edge : (m : List ℕ → ℕ) → IsAdded m → (k : ℕ) →
      (k ≤ run → ahead m now (ends k) ≡ ahead m old (begins k))
      × (run < k → ahead m now (ends k) + m gone ≡ ahead m old (begins k) + m new)
  edge m added k = search (arith, rules, moves k, change.before m added, change.behind m added)

  runs_changed : {sums : List SumView} {count most : ℕ} {s t : SumView} → AreRuns old sums begins count →
      run < length sums → s ≡ get_or sums run s → IsExchanged gone new s t → most ≡ count →
      AreRuns now (set sums run t) ends most
  runs_changed {sums} {s = s} {t} had there first swap as_many =
      let places = edge length length_added in
      let counts = λ (j : ℕ). edge (count_of j) (count_added j) in
      search (arith, rules, places, counts, had.each, swap.counts, set_sum)

module _ {blocks : List (List ℕ)} {offset : ℕ} {sums : List SumView} {block : List ℕ} {s t : SumView} where
  -- the first run is then short of one less
  pub came_first : AreSums blocks offset sums → 0 < offset → offset ≤ 32 → s ≡ get_or sums 0 s → HasMore s t block →
      AreSums (insert blocks 0 block) (offset - 1) (set sums 0 t)
  came_first had some most first more =
      let came = block_came blocks 0 block (omega arith) in
      runs_changed came (λ k. search (arith, rules)) had (omega arith) first more (omega arith)

  module _ {p run : ℕ} (own : run ≡ (p + offset) / 32) (first : s ≡ get_or sums run s) (short : offset < 32) where
    pub came_passing : AreOpen blocks offset sums → p ≤ length blocks → HasMore s t block →
        ArePassing (insert blocks p block) offset (set sums run t) (run + 1)
    came_passing had inside more =
        let came = block_came blocks p block inside in
        runs_changed came (λ k. search (arith, rules)) had (omega arith) first more (omega arith)

    module _ (had : AreSums blocks offset sums) (inside : p < length blocks) (read : block ≡ get_or blocks p [])
        (less : HasLess s t block) where
      pub went_taking : AreTaking (remove blocks p) offset (set sums run t) (run + 1)
      went_taking =
          let went = block_went blocks p block inside read in
          runs_changed went (λ k. search (arith, rules)) had (omega arith) first less (omega arith)

      -- the first run is then short of one more
      pub went_first : p ≡ 0 → AreSums (remove blocks p) (offset + 1) (set sums run t)
      went_first is =
          let went = block_went blocks p block inside read in
          runs_changed went (λ k. search (arith, rules)) had (omega arith) first less (omega arith)

-- ## A border that moves

pub still_read : (sums : List SumView) (next : ℕ) (t : SumView) {u : SumView} → 1 ≤ next →
    u ≡ get_or (set sums (next - 1) t) next u → u ≡ get_or sums next u
still_read sums next t {u} late second = second ∙ get_or-set_other sums (next - 1) next t u (omega arith)

module _ {blocks : List (List ℕ)} {sums : List SumView} {begins ends : ℕ → ℕ} {count next : ℕ}
    {s t u v : SumView} (had : AreRuns blocks sums begins count) (late : 1 ≤ next) (inside : next < length sums)
    (same : (k : ℕ) → k ≢ next → ends k ≡ begins k) (first : s ≡ get_or sums (next - 1) s)
    (second : u ≡ get_or (set sums (next - 1) t) next u) where
  -- these places go over from the run ahead of the border to the one behind it, or back
  gone_over : {gone new : List ℕ} →
      ((m : List ℕ → ℕ) → IsAdded m → ahead m blocks (ends next) + m gone ≡ ahead m blocks (begins next) + m new) →
      IsExchanged gone new s t → IsExchanged new gone u v →
      AreRuns blocks (set (set sums (next - 1) t) next v) ends count
  gone_over moved give get =
      let places = moved length length_added in
      let counts = λ (j : ℕ). moved (count_of j) (count_added j) in
      search (arith, rules, still_read, had.each, give.counts, get.counts, places, counts, set_sum, same)

  module _ (i : ℕ) {block : List ℕ} (there : i < length blocks) (read : block ≡ get_or blocks i block) where
    pub passing_on : begins next ≡ i + 1 → ends next ≡ i → HasLess s t block → HasMore u v block →
        AreRuns blocks (set (set sums (next - 1) t) next v) ends count
    passing_on was is less more =
        gone_over (λ m added. rw (was, is) (omega (arith, over blocks i there read m added, added.few []))) less more

    pub taking_on : begins next ≡ i → ends next ≡ i + 1 → HasMore s t block → HasLess u v block →
        AreRuns blocks (set (set sums (next - 1) t) next v) ends count
    taking_on was is more less =
        gone_over (λ m added. rw (was, is) (omega (arith, over blocks i there read m added, added.few []))) more less

same_ahead : {X : Type 0} (xs : List X) (i k : ℕ) → (i < length xs → i ≡ k) → (k < length xs → i ≡ k) →
    take i xs ≡ take k xs
same_ahead xs i k one other = grind (arith, common_steps, take_all, cases_lt i (length xs), cases_lt k (length xs))

-- where all borders that have blocks behind them are right, the sums are
pub settled : {blocks : List (List ℕ)} {sums : List SumView} {begins right : ℕ → ℕ} {count : ℕ} →
    AreRuns blocks sums begins count →
    ((k : ℕ) → k ≤ length sums → begins k < length blocks → begins k ≡ right k) →
    ((k : ℕ) → k ≤ length sums → right k < length blocks → begins k ≡ right k) → AreRuns blocks sums right count
settled {blocks} {sums} {begins} {right} had one other =
    let same = λ (k : ℕ) (le : k ≤ length sums). same_ahead blocks (begins k) (right k) (one k le) (other k le) in
    search (arith, rules, same, had.each)

-- ## A place, or some, of one block

parted : (block front back : List ℕ) (n : ℕ) → block ≡ front ++ back → length front ≡ n →
    (take n block ≡ front) × (drop n block ≡ back)
parted block front back n whole long = grind (arith, common_steps)

module _ {blocks : List (List ℕ)} {offset capacity : ℕ} {sums : List SumView} {view : BlocksView}
    (had : AreSummed blocks offset sums)
    (is : record { blocks = blocks; offset = offset; capacity = capacity } ≡ view) {i : ℕ}
    (within : i < length view.blocks) where
  seen : blocks ≡ view.blocks
  seen = ap (λ (v : BlocksView). v.blocks) is

  inside : i < length blocks
  inside = rw seen within

  there : (i + offset) / 32 < length sums
  there = omega (arith, inside)

  pub sum_room : {s : SumView} {more : List ℕ} → s ≡ get_or sums ((i + offset) / 32) s →
      length (concat view.blocks) + length more < 2 ^ 64 → HasRoom s more
  sum_room first fits = has_room had.runs ((i + offset) / 32) there first (rw seen fits)

  module _ {block : List ℕ} (read : block ≡ get_or blocks i block) where
    block_is : block ≡ get_or blocks i []
    block_is = get_or_read blocks i block inside read []

    set_changed : (new : List ℕ) → IsChanged i 1 1 block new blocks (set blocks i new)
    set_changed new = block_set blocks i block inside block_is new

    pub sum_has : {s : SumView} {rest some : List ℕ} → s ≡ get_or sums ((i + offset) / 32) s →
        HasBoth block rest some → HasThese s some
    sum_has first both = these (read_sum had.runs there first) (λ m added.
        let run : ℕ = (i + offset) / 32 in
        let one = one_between m added blocks (begin_of offset run) i (begin_of offset (run + 1)) block in
        search (arith, rules, one, inside, block_is, both.each m added))

    summed_set : {new : List ℕ} {s t : SumView} → s ≡ get_or sums ((i + offset) / 32) s →
        IsExchanged block new s t → length (concat blocks) + length new < 2 ^ 64 + length block →
        AreSummed (set blocks i new) offset (set sums ((i + offset) / 32) t)
    summed_set {new} first swap few =
        let inside = inside in
        let changed = set_changed new in
        let all = changed.all length length_added in
        record {
          runs = runs_changed changed (λ k. search (arith, rules)) had.runs there first swap (omega arith);
          short = had.short;
          fits = omega arith;
        }

    pub summed_more : {new more : List ℕ} {s t : SumView} → HasBoth new block more →
        s ≡ get_or sums ((i + offset) / 32) s → HasMore s t more →
        length (concat view.blocks) + length more < 2 ^ 64 →
        AreSummed (set blocks i new) offset (set sums ((i + offset) / 32) t)
    summed_more put first has fits =
        let long = put.each length length_added in
        let seen = ap (λ (l : List (List ℕ)). length (concat l)) seen in
        summed_set first (exchanged has (λ m added. omega (arith, put.each m added, added.few []))) (omega arith)

    pub summed_less : {new less : List ℕ} {s t : SumView} → HasBoth block new less →
        s ≡ get_or sums ((i + offset) / 32) s → HasLess s t less →
        AreSummed (set blocks i new) offset (set sums ((i + offset) / 32) t)
    summed_less out first has =
        let long = out.each length length_added in
        summed_set first (exchanged has (λ m added. omega (arith, out.each m added, added.few []))) (omega arith)

    module _ (front back : List ℕ) (whole : block ≡ front ++ back) where
      pub split_fits : length (concat (set blocks i front)) + length back < 2 ^ 64
      split_fits =
          let all = (set_changed front).all length length_added in omega (arith, ap length whole, length_added.both)

      pub split_in_two : {new : List (List ℕ)} → length front ≡ 32 → new ≡ insert (set blocks i front) (i + 1) back →
          new ≡
          insert (set view.blocks i (take 32 (get_or view.blocks i []))) (i + 1) (drop 32 (get_or view.blocks i []))
      split_in_two half new_is = grind (arith, common_steps, seen, block_is, parted block front back 32)

-- a block that goes
pub ruleset remove_steps = (length_went, whole, went_first, went_taking)

-- a block that comes
pub ruleset insert_steps = (length_came, whole, came_passing)
