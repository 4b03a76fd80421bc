-- Two lists whose items belong together, place by place. What holds of the items of the one holds of those of the
-- other where it holds of any two that belong together. What it says that a name was looked up: its cell arrives in
-- its slot at its input, before the next slot, and has the name's key. So names and found cells belong together, place
-- by place. Each found cell is one that arrives: so it goes to one of the outputs, is of one of the classes, and came
-- to one of the inputs. Names that stand by input and then by slot: sorted by both they stand so, but for names that
-- are the same; and where no two are the same they do. The name of an arrival, if there is one, is found by halving.
-- So no cell is named twice exactly where the names that were found stand strictly in order: order changes nothing of
-- which names are the same.
use Rattle.cq_resume.proofs.Terms.{rules, arith, ◌≡◌, ℕ, ◌+◌, ◌<◌, ◌≤◌, ◌↔◌, List, [], ◌∷◌, ◌++◌, length, get_or, map, take, refl, None, Some, Bool, common_steps, filter_map, Option, IsSome, AllByRecursion, AllPairs, AllZip, take_more, All-from_recursion, All, recursion_from_All, Arrival, Queued, AreGone, AreFound, IsTold, names_of, told_of, waiting_name, sent_name, IsGone, Sent, arriving_cell, key_of, named_in, queued_of, Gone, Name, Named, State, IsOfSwitch, IsTraffic, ◌≢◌, eqb, false, Bor, ◌&&◌, IsPermutation, Called, ComputesKey, Mut, AllAdjacentBelow, IsDistinct, list_any, IsSortedByKey, Ordering, nat_cmp, ordering_then, cases_lt, eq-eqb, eqb-true, false_from_ne_true, always_returns_same, list_any_at, list_any_none, IsDistinct-IsPermutation, IsDistinct-from_apart, apart_from_distinct, IsNameBefore, IsNameNotAfter, IsPermutation-sym, AreArrivals, all_has, all_of_has, all_from_has, Has, each_pair, all_pairs, EachPair, StateRefusal, filter}
use Rattle.std.proofs.lemmas.Bool.Decides.{nat_tests}
use Rattle.std.specs.Ordering.{ordering_index}
use Rattle.std.specs.List.Sorted.{IsBinarySearchResult, IsSearchInRange}
use Rattle.std.proofs.Common.{Result, Ok, Err, is_ok}
use Rattle.cq_base.proofs.Each.{one_there}
use Rattle.cq_resume.specs.Sound.{IsOnlyFor}
use Rattle.cq_resume.proofs.Cut.{not_falling}
use Rattle.cq_resume.specs.declared.refusal.StateRefusal.TheVariants as refusal
use Rattle.cq_resume.proofs.Coming.{found_at}
use Rattle.cq_resume.proofs.Lanes.{name_on, next_pairs}

module _ {A B : Type 0} (R : A → B → Type 0) where
  -- what holds of no items and goes on with one more of each
  pub zip_by : (P : List A → List B → Type 0) → P [] [] →
      ((x : A) (y : B) (xs : List A) (ys : List B) → R x y → AllZip R xs ys → P xs ys → P (x ∷ xs) (y ∷ ys)) →
      (xs : List A) (ys : List B) → AllZip R xs ys → P xs ys
  zip_by P none more [] [] zips = none
  zip_by P none more (x ∷ xs) (y ∷ ys) zips = more x y xs ys zips.0 zips.1 (zip_by P none more xs ys zips.1)
  zip_by P none more xs ys zips = absurd zips

  -- each of the one list has its own in the other
  pub zip_mate : (xs : List A) (ys : List B) → AllZip R xs ys → (x : A) → Has xs x → (y : B) × Has ys y × R x y
  zip_mate = zip_by _ (λ x has. absurd has) (search (arith, rules))

  pub zip_both : (xs : List A) (ys : List B) (xs' : List A) (ys' : List B) → AllZip R xs ys → AllZip R xs' ys' →
      AllZip R (xs ++ xs') (ys ++ ys')
  zip_both xs ys xs' ys' first second = zip_by (λ xs ys. AllZip R (xs ++ xs') (ys ++ ys')) second
      (λ x y xs ys own zips rest. (own, rest)) xs ys first

  -- one more of each
  pub zip_more : (xs : List A) (i : ℕ) (d : A) (ys new : List B) (y : B) → i < length xs → AllZip R (take i xs) ys →
      R (get_or xs i d) y → new ≡ ys ++ y ∷ [] → AllZip R (take (i + 1) xs) new
  zip_more xs i d ys new y inside zips own is = grind (arith, common_steps, zip_both, take_more)

  -- what is said of each item of the one list is said of its own in the other
  pub all_alike : (P : A → Type 0) (Q : B → Type 0) → ((x : A) (y : B) → R x y → P x ↔ Q y) → (xs : List A)
      (ys : List B) → AllZip R xs ys → AllByRecursion P xs ↔ AllByRecursion Q ys
  all_alike P Q same = zip_by _ (search rules) (search (arith, rules))

  -- and so it is where it is said by places
  pub all_as : (P : A → Type 0) (Q : B → Type 0) → ((x : A) (y : B) → R x y → P x ↔ Q y) → (xs : List A)
      (ys : List B) → AllZip R xs ys → All P xs ↔ AllByRecursion Q ys
  all_as P Q same xs ys zips = search (rules, all_alike P Q same xs ys zips, recursion_from_All, All-from_recursion)

  -- what holds of each item by its own
  pub each_right : (Q : B → Type 0) → ((x : A) (y : B) → R x y → Q y) → (xs : List A) (ys : List B) → AllZip R xs ys →
      AllByRecursion Q ys
  each_right Q give = zip_by (λ xs ys. AllByRecursion Q ys) tt (search (rules, give))

  -- and of two of one side
  module _ (P : A → A → Type 0) (Q : B → B → Type 0)
      (same : (x x' : A) (y y' : B) → R x y → R x' y' → P x x' ↔ Q y y') where
    pub pairs_alike : (xs : List A) (ys : List B) → AllZip R xs ys → AllPairs P xs ↔ AllPairs Q ys
    pairs_alike xs ys zips =
        let each = zip_by (λ xs ys. EachPair P xs ↔ EachPair Q ys) (search rules) (search (arith, rules, all_alike)) in
        search (arith, rules, each xs ys, all_pairs Q ys, all_pairs P xs, each_pair P xs, each_pair Q ys)

  -- where each item of the first list comes to something that its own comes to, the lists come to the same
  pub same_mapped : {C : Type 0} (f : A → Option C) (g : B → C) → ((x : A) (y : B) → R x y → f x ≡ Some (g y)) →
      (xs : List A) (ys : List B) → AllZip R xs ys → filter_map f xs ≡ map g ys
  same_mapped f g give = zip_by (λ xs ys. filter_map f xs ≡ map g ys) refl (search (arith, rules))

-- ## One name

-- what the cell of a name is
pub record IsCellOf (came : List Arrival) (c : Named) (q : Queued) : Type 0 where
  pub arrives : arriving_cell came c ≡ Some q.cell
  pub key : q.key ≡ key_of c

pub is_cell_of : (came : List Arrival) (c : Named) (q : Queued) → queued_of came c ≡ Some q → IsCellOf came c q
is_cell_of came c q is = search (arith, rules)

pub told_facts : (came : List Arrival) (next : ℕ) (c : Named) (q : Queued) → IsTold came next c q →
    (c.slot < next) × IsCellOf came c q
told_facts came next c q is = grind (arith, nat_tests)

-- those of an input are the cells of its names
pub sifted : (came : List Arrival) (i : ℕ) (xs : List Named) →
    filter_map (queued_of came) (filter (λ c. eqb c.input i) xs)
    ≡ filter (λ q. eqb q.key.input i) (filter_map (queued_of came) xs)
sifted came i [] = refl
sifted came i (c ∷ xs) = grind (arith, common_steps, sifted came i xs)

-- ## All names

-- a name and the found one stand for the same arrival
pub record IsOf (came : List Arrival) (next : ℕ) (c : Named) (n : Name) : Type 0 where
  pub early : c.slot < next
  pub cell : IsCellOf came c n.queued

-- the names of a state and those that were found, in the order of the lines
pub names_zip : (came : List Arrival) (s : State) (listed buffered : List Queued) (sent : List Gone) →
    AreFound came s.head.next s.listed listed → AreFound came s.head.next s.buffered buffered →
    AreGone came s.head.next s.sent sent → AllZip (IsOf came s.head.next) (named_in s) (names_of listed buffered sent)
names_zip came s listed buffered sent first second third =
    let waits = zip_by (IsTold came s.head.next) (λ cs qs. AllZip (IsOf came s.head.next) cs (map waiting_name qs)) tt
    (search (rules, told_facts)) in
    let left = zip_by (IsGone came s.head.next) (λ ds gs. AllZip (IsOf came s.head.next)
    (map (λ (d : Sent). d.cell) ds) (map sent_name gs)) tt (search (rules, told_facts)) in
    search (rules, zip_both, waits, left)

module _ (ports classes : ℕ) (came : List Arrival) (traffic : IsTraffic ports classes came) (next : ℕ) where
  -- the output and the class of a found cell are in range
  abbrev pub IsFor : Queued → Type 0
  IsFor q = (q.cell.output < ports) × (q.cell.class < classes)

  pub one_for : (c : Named) (q : Queued) → IsTold came next c q → IsFor q
  one_for c q is =
      let found = found_at came c.slot c.input q.cell in
      search (arith, rules, all_of_has (IsOfSwitch ports classes) came, traffic.in_range, found, told_facts)

-- ## Sorted names

abbrev pub arrival_key : Name → ℕ × ℕ
arrival_key n = (n.queued.key.input, n.queued.key.slot)

abbrev pub pair_cmp : ℕ × ℕ → ℕ × ℕ → Ordering
pair_cmp a b = ordering_then (nat_cmp a.0 b.0) (nat_cmp a.1 b.1)

pub names_sorted : {F : Type 0} {g : Mut F (Bor Name × Unit {0}) (ℕ × ℕ)} {f : F} (xs : List Name) →
    ((key : Name → ℕ × ℕ) → ComputesKey g key f → IsSortedByKey key pair_cmp xs) →
    ((a : Bor Name × Unit {0}) (r : ℕ × ℕ) (f' : F) → Called g f a r f' → (r ≡ arrival_key a.0.now) × (f' ≡ f)) →
    AllAdjacentBelow IsNameNotAfter xs (length xs)
names_sorted {g = g} {f = f} xs sorted calls k d inside =
    grind (arith, nat_tests, sorted arrival_key (always_returns_same g (λ a r. r ≡ arrival_key a.0.now) f calls) k d)

-- ## Names that differ

-- whether two names are the same
abbrev pub same_name : Name → Name → Bool
same_name a b = eqb a.queued.key.slot b.queued.key.slot && eqb a.queued.key.input b.queued.key.input

eqb_flips : (m n : ℕ) → eqb m n ≡ eqb n m
eqb_flips m n = grind (arith, nat_tests)

pub still_differ : (xs ys : List Name) → IsPermutation xs ys → IsDistinct same_name xs → IsDistinct same_name ys
still_differ = search (arith, rules, IsDistinct-IsPermutation, eqb_flips)

-- ## Looked up

-- whether a name is an arrival's, and how it stands to it: by input and then by slot
abbrev pub is_its : ℕ → ℕ → Name → Bool
is_its input slot n = eqb n.queued.key.slot slot && eqb n.queued.key.input input

abbrev standing : ℕ → ℕ → Name → Ordering
standing input slot n = pair_cmp (arrival_key n) (input, slot)

-- a name before another stands no later to it
no_later : (input slot : ℕ) (a b : Name) → IsNameBefore a b →
    ordering_index (standing input slot a) ≤ ordering_index (standing input slot b)
no_later input slot a b before = grind (arith, nat_tests)

pub named_where : (input slot : ℕ) (names : List Name) → AllPairs IsNameBefore names → (r : Result ℕ ℕ) →
    IsSearchInRange r (length names) → IsBinarySearchResult (standing input slot) names r →
    is_ok r ≡ list_any (is_its input slot) names
named_where input slot names order (Ok at) inside equal =
    let one = (one_there names at inside).0 in search (rules, list_any_at (is_its input slot) names at one, equal one)
named_where input slot names order (Err at) inside parted =
    let rising = not_falling IsNameBefore _ (no_later input slot) names order in
    search (arith, rules, list_any_none, parted rising, cases_lt, eq-eqb, eqb-true, false_from_ne_true)

-- two names are of different arrivals
abbrev pub Differ : Named → Named → Type 0
Differ a b = (a.slot ≡ b.slot) → a.input ≢ b.input

abbrev IsApart : Name → Name → Type 0
IsApart a b = same_name a b ≡ false

-- ## All names

abbrev CanBe : List Arrival → ℕ → Named → Type 0
CanBe came next c = (c.slot < next) × IsSome (arriving_cell came c)

module _ (came : List Arrival) (s : State) where
  -- a state with a name that is missed is refused for that, since each would arrive
  pub missed : {X : Type 0} (name : X → Named) (Miss : X → Type 0) →
      ((x : X) → Miss x → told_of came s.head.next (name x) ≡ None) → (xs : List X) →
      ((x : X) → Has xs x → Has (named_in s) (name x)) → (f : StateRefusal) →
      IsOnlyFor 1 ((x : X) × Has xs x × Miss x) f → IsOnlyFor 1 (AreArrivals came s → ⊥) f
  missed name Miss give xs named f is = search (arith, rules, all_has (CanBe came s.head.next) (named_in s), nat_tests)

  -- names that belong to those of the state, and the same in another order
  module _ {told names : List Name} (same : IsPermutation told names)
      (zips : AllZip (IsOf came s.head.next) (named_in s) told) where
    apart_alike : AllPairs Differ (named_in s) ↔ AllPairs IsApart told
    apart_alike = pairs_alike (IsOf came s.head.next) Differ IsApart (search (rules, nat_tests)) (named_in s) told zips

    -- names that stand strictly in order are of different arrivals, and each arrives
    pub are_arrivals : AllPairs IsNameBefore names → AreArrivals came s
    are_arrivals rising =
        let still = still_differ names told (IsPermutation-sym told names same)
        (IsDistinct-from_apart same_name names (search (arith, rules, nat_tests))) in
        let can_be = All-from_recursion (CanBe came s.head.next) (named_in s) in
        search (arith, rules, can_be, all_from_has, zip_mate, apart_alike, apart_from_distinct same_name told)

    -- and the other way
    pub arrivals_rise : AllAdjacentBelow IsNameNotAfter names (length names) → AreArrivals came s →
        AllPairs IsNameBefore names
    arrivals_rise order arrive =
        let differ = still_differ told names same (IsDistinct-from_apart same_name told (apart_alike.0 arrive.once)) in
        next_pairs IsNameBefore names name_on (search (arith, rules, nat_tests, apart_from_distinct))
