-- What is added up along places, as their number or how many of them are an output's, is added up along blocks. So
-- what stands ahead of a block tells what stands between two. Where some blocks stand in place of others, what stands
-- ahead of a block behind them changes by what these add up to, and what stands ahead of a block before them stays.
use Rattle.cq_list.proofs.Terms.{append-nil, common_steps, rules, ◌≡◌, ℕ, zero, suc, ◌+◌, ◌-◌, ◌<◌, ◌≤◌, List, [], ◌∷◌, ◌++◌, Some, length, get_or, set, slice_get, take, drop, insert, remove, concat, refl, sym, ap, ◌∙◌, arith, concat-append, length-append, length-take-le, take-append-add, take-append-drop, take-append-le, take-take, take_more, filter-append, few_kept, count_of, is_output}
use Rattle.cq_list.specs.Sums.{SumView, own_in}
use Rattle.std.proofs.lemmas.List.{set_split}
use Rattle.std.proofs.Math.Seq.{drop-cons}

pub record IsAdded (m : List ℕ → ℕ) : Type 0 where
  pub both : (xs ys : List ℕ) → m (xs ++ ys) ≡ m xs + m ys
  pub few : (xs : List ℕ) → m xs ≤ length xs

pub length_added : IsAdded length
length_added = search (arith, rules, length-append)

pub count_added : (j : ℕ) → IsAdded (count_of j)
count_added j = search (arith, rules, filter-append, length-append, few_kept (is_output j))

-- what stands ahead of block i
abbrev pub ahead : (List ℕ → ℕ) → List (List ℕ) → ℕ → ℕ
ahead m blocks i = m (concat (take i blocks))

module _ (m : List ℕ → ℕ) (added : IsAdded m) where
  joined : (xs ys : List (List ℕ)) → m (concat (xs ++ ys)) ≡ m (concat xs) + m (concat ys)
  joined xs ys = rw concat-append (added.both (concat xs) (concat ys))

  parts : (xs ys zs : List (List ℕ)) →
      m (concat (xs ++ (ys ++ zs))) ≡ m (concat xs) + (m (concat ys) + m (concat zs))
  parts xs ys zs = rw (joined xs (ys ++ zs), joined ys zs) refl

  pub ahead_next : (blocks : List (List ℕ)) (i : ℕ) (block : List ℕ) → i < length blocks → block ≡ get_or blocks i [] →
      ahead m blocks (i + 1) ≡ ahead m blocks i + m block
  ahead_next blocks i block inside is = grind (arith, common_steps, take_more, joined, append-nil)

  -- what stands ahead of any block is no more than all, and so no more than there are places
  part_of : (blocks : List (List ℕ)) (i : ℕ) → ahead m blocks i ≤ m (concat blocks)
  part_of blocks i = grind (arith, joined (take i blocks) (drop i blocks), take-append-drop i blocks)

  pub all_ahead : (blocks : List (List ℕ)) (i : ℕ) → ahead m blocks i ≤ length (concat blocks)
  all_ahead blocks i = omega (arith, part_of blocks i, added.few (concat blocks))

  upwards : (blocks : List (List ℕ)) (i k : ℕ) → i ≤ k → ahead m blocks i ≤ ahead m blocks k
  upwards blocks i k le = rw (← take-take i k blocks le) (part_of (take k blocks) i)

  -- a block between two
  pub one_between : (blocks : List (List ℕ)) (from i to : ℕ) (block : List ℕ) → from ≤ i → i < to → i < length blocks →
      block ≡ get_or blocks i [] → ahead m blocks from + m block ≤ ahead m blocks to
  one_between blocks from i to block early late inside is =
      let on = ahead_next blocks i block inside is in
      omega (arith, upwards blocks from i early, upwards blocks (i + 1) to (omega arith))

  -- ## A place more or less in a block

  pub put_into : (xs : List ℕ) (i x : ℕ) → m (insert xs i x) ≡ m xs + m (x ∷ [])
  put_into xs i x =
      let whole = ap m (take-append-drop i xs) in omega (arith, added.both (take i xs), added.both (x ∷ []) (drop i xs))

  pub taken_from : (xs : List ℕ) (i x : ℕ) → slice_get xs i ≡ Some x → m (remove xs i) + m (x ∷ []) ≡ m xs
  taken_from xs zero x at = grind (arith, common_steps, added.both (x ∷ []) (drop 1 xs))
  taken_from xs (suc i) x at =
      grind (arith, common_steps, added.both (take 1 xs), taken_from (drop 1 xs) i x)

-- these places are some and more: so what is added up along them
pub record HasBoth (whole some more : List ℕ) : Type 0 where
  pub each : (m : List ℕ → ℕ) → IsAdded m → m whole ≡ m some + m more

pub both_put : {xs new : List ℕ} (i : ℕ) {x : ℕ} → new ≡ insert xs i x → HasBoth new xs (x ∷ [])
both_put {xs} i {x} is = rw is (record { each = λ m added. put_into m added xs i x })

pub both_left : {xs left : List ℕ} (i : ℕ) {x : ℕ} → slice_get xs i ≡ Some x → left ≡ remove xs i →
    HasBoth xs left (x ∷ [])
both_left {xs} i {x} at is = rw is (record { each = λ m added. sym (taken_from m added xs i x at) })

pub both_parts : {whole xs ys : List ℕ} → whole ≡ xs ++ ys → HasBoth whole xs ys
both_parts {xs = xs} {ys} is = rw is (record { each = λ m added. added.both xs ys })

-- ## Blocks in place of others

-- at block p so many blocks with these places are gone, and so many with those stand there
pub record IsChanged (p lost come : ℕ) (gone new : List ℕ) (old now : List (List ℕ)) : Type 0 where
  pub before : (m : List ℕ → ℕ) → IsAdded m → (i : ℕ) → i ≤ p → ahead m now i ≡ ahead m old i
  pub behind : (m : List ℕ → ℕ) → IsAdded m → (i k : ℕ) → p + lost ≤ i → k + lost ≡ i + come →
      ahead m now k + m gone ≡ ahead m old i + m new
  pub all : (m : List ℕ → ℕ) → IsAdded m → m (concat now) + m gone ≡ m (concat old) + m new
  pub long : length now + lost ≡ length old + come

spliced : (front mid more rest : List (List ℕ)) →
    IsChanged (length front) (length mid) (length more) (concat mid) (concat more) (front ++ (mid ++ rest))
    (front ++ (more ++ rest))
spliced front mid more rest = record {
  before = λ m added i early. ap (λ l. m (concat l))
      (take-append-le i front (more ++ rest) early ∙ sym (take-append-le i front (mid ++ rest) early));
  behind = λ m added i k past same.
      let n : ℕ = i - length front - length mid in
      let was : i ≡ length front + (length mid + n) = omega arith in
      let is : k ≡ length front + (length more + n) = omega arith in
      let parts = parts m added front in
      rw (was, is) (simp take-append-add (omega arith));
  all = λ m added. omega (arith, parts m added front mid rest, parts m added front more rest);
  long = grind (arith, common_steps, length-append);
}

whole_at : (blocks : List (List ℕ)) (i : ℕ) → i < length blocks →
    take i blocks ++ (get_or blocks i [] ∷ drop (suc i) blocks) ≡ blocks
whole_at blocks i inside = rw (← drop-cons blocks i [] inside) (take-append-drop i blocks)

-- a block came
pub block_came : (blocks : List (List ℕ)) (p : ℕ) (block : List ℕ) → p ≤ length blocks →
    IsChanged p 0 1 [] block blocks (insert blocks p block)
block_came blocks p block inside =
    simp (length-take-le p blocks inside, take-append-drop, append-nil) at
    (spliced (take p blocks) [] (block ∷ []) (drop p blocks))

pub length_came : (blocks : List (List ℕ)) (p : ℕ) (block : List ℕ) → p ≤ length blocks →
    length (concat (insert blocks p block)) ≡ length (concat blocks) + length block
length_came blocks p block inside = let all = (block_came blocks p block inside).all length length_added in omega arith

module _ (blocks : List (List ℕ)) (i : ℕ) (gone : List ℕ) (inside : i < length blocks)
    (read : gone ≡ get_or blocks i []) where
  -- a block went
  pub block_went : IsChanged i 1 0 gone [] blocks (remove blocks i)
  block_went = rw read (simp (length-take-le i blocks (omega arith), whole_at blocks i inside, append-nil) at
      (spliced (take i blocks) (get_or blocks i [] ∷ []) [] (drop (suc i) blocks)))

  pub length_went : length (concat (remove blocks i)) + length gone ≡ length (concat blocks)
  length_went = let all = block_went.all length length_added in omega arith

  -- another one stands in its place
  pub block_set : (block : List ℕ) → IsChanged i 1 1 gone block blocks (set blocks i block)
  block_set block = rw (read, set_split blocks i block inside)
      (simp (length-take-le i blocks (omega arith), whole_at blocks i inside, append-nil) at
      (spliced (take i blocks) (get_or blocks i [] ∷ []) (block ∷ []) (drop (suc i) blocks)))

-- ## A sum, output by output

-- the first so many outputs have these places in place of those, and the others are as they were
pub record IsBegun (n : ℕ) (gone new : List ℕ) (before after : SumView) : Type 0 where
  pub places : after.places + length gone ≡ before.places + length new
  pub done : (j : ℕ) → j < n → own_in after j + count_of j gone ≡ own_in before j + count_of j new
  pub left : (j : ℕ) → n ≤ j → own_in after j ≡ own_in before j
  pub each : length after.counts ≡ length before.counts
