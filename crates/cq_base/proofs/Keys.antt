-- The order of keys is a strict total order. Their comparison is total (`keys_total`). Where it says equal, all four
-- parts are equal, so the keys are the same. The laws then read this comparison through "is less", by its three cases.
use Rattle.cq_base.proofs.Terms.{rules, arith, ◌≡◌, true, false, ap, common_steps, Ordering, Less, is_lt, tied_itself, exact_pairs, exact_unsigned, Key, key_cmp, keys_total, is_before, KeyLaws}

-- what is less compares as less
less_from : (o : Ordering) → is_lt o ≡ true → o ≡ Less
less_from o h = grind (arith, common_steps)

on : (a b c : Key) → is_before a b ≡ true → is_before b c ≡ true → is_before a c ≡ true
unfolding is_before
on a b c h k = ap is_lt (keys_total.trans a b c (less_from (key_cmp a b) h) (less_from (key_cmp b c) k))

one_way : (a b : Key) → is_before a b ≡ true → is_before b a ≡ false
unfolding is_before
one_way a b h = search (arith, rules, less_from)

alike : (a b : Key) → is_before a b ≡ false → is_before b a ≡ false → a ≡ b
unfolding is_before
alike a b h k = grind (arith, common_steps, exact_pairs, exact_unsigned)

pub key_laws : KeyLaws
key_laws = search (arith, rules, on, one_way, alike, tied_itself)
