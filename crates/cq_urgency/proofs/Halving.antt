-- How many cells have a lesser key, and that halving finds it. The cells stand in the order of keys. So where a cell
-- has a lesser key, all cells before it have one too. The test is thus passed by the first cells and by no others, and
-- halving finds the point where they end. As many cells pass as stand before the point.
-- A cell goes in behind the cells of lesser key, and the list stays in the order of keys.
use Rattle.cq_urgency.proofs.Terms.{common_steps, rules, ◌≡◌, ℕ, zero, suc, ◌+◌, ◌≤◌, Bool, true, false, List, [], ◌∷◌, ◌++◌, length, filter, refl, sym, ap, length-append, arith, IsPartitionPoint, IsPartitionedBy, cases_eq, cond_both, filter-append, slice_get-get_or, Key, Queued, is_before, IsRising, cushion, key_laws, each_pair_at, insert, HasOtherKey, put, after_other, before_all, all_weaker, filter_none}
use Rattle.std.proofs.lemmas.List.Elements.{recursion_from_All}

-- the cells of lesser key stand first
pub lesser_part : (key : Key) (xs : List Queued) → IsRising xs → IsPartitionedBy (λ x. is_before x.key key) xs
lesser_part key xs r i j d le lt e = search (rules, cases_eq, each_pair_at, slice_get-get_or, key_laws.on)

-- as many pass as stand before the point
pub passed_at_point : {X : Type 0} (p : X → Bool) (xs : List X) (n : ℕ) → n ≤ length xs →
    IsPartitionPoint (λ x. p x ≡ true) (λ x. p x ≡ false) xs n → n ≡ length (filter p xs)
passed_at_point p xs zero few point =
    ap length (sym (filter_none p xs (recursion_from_All _ xs (λ k d. point.1 k d (omega arith)))))
passed_at_point p [] (suc n) few point = absurd (omega arith)
passed_at_point p (x ∷ xs) (suc n) few point =
    let from = λ (k : ℕ). point.1 (suc k) in
    search (arith, rules, point.0 zero x, λ (k : ℕ). point.0 (suc k), from, passed_at_point p xs n)

-- ## How many pass

pub cushion-append : (key : Key) (xs ys : List Queued) → cushion key (xs ++ ys) ≡ cushion key xs + cushion key ys
cushion-append key xs ys = grind (arith, common_steps, filter-append, length-append)

-- ## A cell put in

-- a cell goes in behind those of lesser key
pub put_is : (c : Queued) (xs : List Queued) → IsRising xs → HasOtherKey c xs →
    insert xs (cushion c.key xs) c ≡ put c xs
put_is c [] r other = refl
put_is c (x ∷ xs) r other =
    search (rules, cond_both, filter_none, all_weaker, key_laws.one_way, before_all, after_other, put_is c xs)
