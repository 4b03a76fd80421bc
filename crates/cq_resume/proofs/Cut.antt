-- A list that stands by a number is cut where the number begins and where it ends, and what is between are all items
-- that have it. First a list whose items pass a test between two places and nowhere else; then the places that halving
-- finds. What halving finds in cells that stand in order: the cells of one output, of cells that stand by output,
-- which stand by their keys. The departures of the cells that were sent stand by slot, and are before the next one. The
-- figures of the outputs change departure by departure, each those of its own output. Items that stand in order of a
-- number, taken number by number and laid end on end, are the same list. And the slots of a run: departures that stand
-- by slot end with the last.
use Rattle.cq_resume.proofs.Terms.{IsBefore, pairs_kept_with, ◌&&◌, rules, ◌≡◌, ℕ, ◌+◌, ◌-◌, ◌<◌, ◌≤◌, eqb, leb, ltb, Bool, true, false, List, [], ◌∷◌, length, get_or, take, drop, refl, ap, ◌∙◌, length-drop, Bor, arith, map, common_steps, filter, Called, ComputesKey, Mut, IsPartitionPoint, IsNonDecreasingBy, always_returns_same, append-nil, get_or-drop, get_or-take, length-take-le, take-append-drop, map-append, take_more, filter-append, eq-eqb, leb-false, ltb-true, ne_eqb, cases_eq, eqb-true, AllPairs, range_with_len, IsRising, Queued, IsBufferedBefore, ◌^◌, set, length-append, AllByRecursion, Departure, OutputFigures, output_told, IsSentBefore, IsTimely, departed, with_departure, Gone, recursion_from_All, filter_all, filter_none, cases_Bool, get_or-map-range_with_len, set_one, slots_of, all_weaker, of_images, few_kept, each_pair, all_pairs, EachPair, pairs_mapped, All-from_recursion, map-constant, take_all, flat_map-append, has_at, ◌==◌, flat_map, suc, zero, get_or-map, length-map}
use Rattle.std.proofs.iter.Serving.{serving}
use Rattle.std.proofs.lemmas.Bool.Decides.{nat_tests}
use Rattle.std.proofs.lemmas.List.{take_rest}

-- a test computes what each of its calls answers
pub computes : {F X K : Type 0} {g : Mut F (Bor X × Unit {0}) K} {f : F} (key : X → K) →
    ((a : Bor X × Unit {0}) (r : K) (f' : F) → Called g f a r f' → (r ≡ key a.0.now) × (f' ≡ f)) → ComputesKey g key f
computes {g = g} {f = f} key calls = always_returns_same g (λ a r. r ≡ key a.0.now) f calls

pub none_kept : {X : Type 0} (p : X → Bool) (xs : List X) →
    ((k : ℕ) (d : X) → k < length xs → p (get_or xs k d) ≡ false) → filter p xs ≡ []
none_kept p xs none = filter_none p xs (recursion_from_All (λ x. p x ≡ false) xs none)

-- a list that does not fall is cut behind the last item that is no greater, and what is left before the first that is
-- no less
module _ {X : Type 0} (key : X → ℕ) (t start end : ℕ) (xs upto : List X) (high : end ≤ length xs)
    (low : start ≤ length upto)
    (cut : upto ≡ take end xs)
    (to : IsPartitionPoint (λ x. leb (key x) t ≡ true) (λ x. leb (key x) t ≡ false) xs end)
    (from : IsPartitionPoint (λ x. ltb (key x) t ≡ true) (λ x. ltb (key x) t ≡ false) upto start) where
  abbrev its : X → Bool
  its x = eqb (key x) t

  size : length upto ≡ end
  size = ap (λ (l : List X). length l) cut ∙ length-take-le end xs high

  behind_none : filter its (drop end xs) ≡ []
  behind_none = grind (arith, common_steps, none_kept, length-drop, get_or-drop, leb-false, ne_eqb)

  before_none : filter its (take start upto) ≡ []
  before_none = none_kept its (take start upto) (search (arith, rules, length-take-le, get_or-take, ltb-true, ne_eqb))

  inner_all : filter its (drop start upto) ≡ drop start upto
  inner_all = search (rules, filter_all, recursion_from_All, length-drop, size, get_or-take, get_or-drop, nat_tests)

  pub cut_at : take (length upto - start) (drop start upto) ≡ filter (λ x. eqb (key x) t) xs
  cut_at =
      let outer = take-append-drop end xs in
      let inner = take-append-drop start upto in
      search (arith, rules, take_rest, behind_none, before_none, inner_all, filter-append, append-nil)

-- items of which each later one has no lesser number do not fall
pub not_falling : {X : Type 0} (R : X → X → Type 0) (key : X → ℕ) → ((a b : X) → R a b → key a ≤ key b) →
    (xs : List X) → AllPairs R xs → IsNonDecreasingBy key xs
not_falling R key no_less xs pairs i j d le inside = grind (arith, common_steps, cases_eq i j, pairs i j d)

-- of cells for one output the first is the more urgent
pub rising_kept : (j : ℕ) (xs : List Queued) → EachPair IsBufferedBefore xs →
    IsRising (filter (λ q. eqb q.cell.output j) xs)
rising_kept j = pairs_kept_with IsBufferedBefore IsBefore (λ q. eqb q.cell.output j) (search (arith, rules, eqb-true))

-- the cells of an input, and those for an output
abbrev pub listed_at : List Queued → ℕ → List Queued
listed_at listed i = filter (λ q. eqb q.key.input i) listed

abbrev pub buffered_at : List Queued → ℕ → List Queued
buffered_at buffered j = filter (λ q. eqb q.cell.output j) buffered

-- two tests one after the other are one
pub filter_both : {X : Type 0} (p q : X → Bool) (xs : List X) → filter p (filter q xs) ≡ filter (λ x. q x && p x) xs
filter_both p q [] = refl
filter_both p q (x ∷ xs) = grind (arith, common_steps, filter_both p q xs)

-- the names of one queue more
pub ruleset naming_steps = (take_more, flat_map-append, append-nil, map-append)

-- one item more that was found
pub ruleset finding_steps = (All-from_recursion, has_at, take_all)

-- what a chain of items serves, and what is asked of each item
pub ruleset serving_steps = (serving, All-from_recursion, recursion_from_All)

-- how many numbers a rank state has
pub ruleset size_steps = (get_or-map, length-map)

-- ## Items in order of a number

module _ {X : Type 0} (number : X → ℕ) where
  abbrev pub numbered : List X → ℕ → List X
  numbered xs i = filter (λ x. number x == i) xs

  -- those of so many numbers, from one on
  abbrev pub by_number : List X → ℕ → ℕ → List X
  by_number xs a n = flat_map (numbered xs) (range_with_len a n)

  no_items : (a n : ℕ) → by_number [] a n ≡ []
  no_items a zero = refl
  no_items a (suc n) = no_items (a + 1) n

  -- an item is none of the later numbers
  past : (x : X) (xs : List X) (a n : ℕ) → number x < a → by_number (x ∷ xs) a n ≡ by_number xs a n
  past x xs a zero lt = refl
  past x xs a (suc n) lt = grind (arith, common_steps, ne_eqb, past x xs (a + 1) n)

  -- the first item stays the first
  first : (x : X) (xs : List X) (a n : ℕ) → a ≤ number x → number x < a + n →
      AllByRecursion (λ y. number x ≤ number y) xs → by_number (x ∷ xs) a n ≡ x ∷ by_number xs a n
  first x xs a zero low high all = absurd (omega arith)
  first x xs a (suc n) low high all =
      search (arith, rules, past, cases_eq, ne_eqb, eq-eqb, filter_none, all_weaker, first x xs (a + 1) n)

  -- number by number they are all of them
  pub ordered : (xs : List X) (n : ℕ) → EachPair (λ x y. number x ≤ number y) xs →
      AllByRecursion (λ x. number x < n) xs → by_number xs 0 n ≡ xs
  ordered [] n pairs all = no_items 0 n
  ordered (x ∷ xs) n pairs all = grind (arith, common_steps, first x xs 0 n, ordered xs n)

-- ## Slots

abbrev pub IsNoLater : Departure → Departure → Type 0
IsNoLater d e = d.slot ≤ e.slot

pub slots_last : (sent : List Departure) (d : Departure) → EachPair IsNoLater sent → 0 < length sent →
    (get_or sent (length sent - 1) d).slot + 1 ≡ slots_of sent
slots_last [] d rising some = absurd (omega arith)
slots_last (e ∷ sent) d rising some = grind (arith, common_steps, slots_last sent d)

pub departed_rising : (gone : List Gone) → AllPairs IsSentBefore gone → AllPairs IsNoLater (map departed gone)
departed_rising gone pairs = all_pairs IsNoLater (map departed gone) (pairs_mapped departed IsNoLater gone
    (each_pair (λ a b. a.slot ≤ b.slot) gone (λ i j d lt inside. grind (arith, common_steps, pairs i j d))))

pub departed_low : (next : ℕ) (gone : List Gone) → next < 2 ^ 63 → AllByRecursion (IsTimely next) gone →
    AllByRecursion (λ d. d.slot < 2 ^ 63) (map departed gone)
departed_low next gone early all = search (arith, rules, of_images departed, all_weaker (IsTimely next))

-- ## One departure at its output

ruleset read_on = (take_more, set_one, ne_eqb, cases_Bool, length-append, map-append, append-nil, filter-append)

module _ (sent : List Departure) (ports i : ℕ) (e : Departure) (now : List OutputFigures)
    (so_far : now ≡ map (output_told (take i sent)) (range_with_len 0 ports)) (inside : i < length sent)
    (all : AllByRecursion (λ d. d.output < ports) sent) where
  abbrev here : Departure
  here = get_or sent i e

  module _ (read : OutputFigures) (is : read ≡ get_or now here.output read) where
    there : read ≡ output_told (take i sent) here.output
    there = grind (arith, common_steps, get_or-map-range_with_len, All-from_recursion _ sent all i e inside)

    -- it has sent no more cells than there are departures before this one
    pub fewer_sent : read.cells ≤ i
    fewer_sent = grind (arith, common_steps, there, few_kept, length-take-le)

    pub departure_counted : (x : OutputFigures) → x ≡ with_departure here.output read here →
        set now here.output x ≡ map (output_told (take (i + 1) sent)) (range_with_len 0 ports)
    departure_counted x counted =
        let is = rw there at counted in grind (arith, common_steps, read_on, All-from_recursion _ sent all i e inside)

pub ruleset sent_steps = (fewer_sent, departure_counted, map-constant, take_all)
