-- The order of keys: by level, then by rank, then by the slot of arrival, then by input. The lesser key is the more
-- urgent.
use Rattle.std.specs.Prelude.{◌≡◌, Bool, true, false}
use Rattle.std.specs.declared.cmp.Ordering.{Ordering}
use Rattle.std.specs.Ordering.{nat_cmp, ordering_then, is_lt}
use Rattle.std.specs.Cmp.{IsTotalOrder, nat_cmp_total, on_total, then_total}
use Rattle.cq_base.specs.declared.key.Key.{Key}

-- how the keys compare: where their levels are the same by their ranks, where these are the same by their slots, and
-- where these are the same by their inputs
abbrev pub key_cmp : Key → Key → Ordering
key_cmp a b =
    ordering_then (nat_cmp a.level b.level)
    (ordering_then (nat_cmp a.rank b.rank) (ordering_then (nat_cmp a.slot b.slot) (nat_cmp a.input b.input)))

-- it is a total order, since numbers are in order and a comparison by one part and then by another is total where
-- both are
pub keys_total : IsTotalOrder key_cmp
keys_total =
    then_total (on_total (λ k. k.level) nat_cmp_total)
    (then_total (on_total (λ k. k.rank) nat_cmp_total)
    (then_total (on_total (λ k. k.slot) nat_cmp_total) (on_total (λ k. k.input) nat_cmp_total)))

-- the first key is the more urgent
unfoldable pub is_before : Key → Key → Bool
is_before a b = is_lt (key_cmp a b)

-- the order of keys is a strict total order: no key comes before itself, it goes on from one key to the next, of two
-- keys one at most comes before the other, and where neither does they are the same key
pub record KeyLaws : Type 0 where
  pub never_itself : (k : Key) → is_before k k ≡ false
  pub on : (a b c : Key) → is_before a b ≡ true → is_before b c ≡ true → is_before a c ≡ true
  pub one_way : (a b : Key) → is_before a b ≡ true → is_before b a ≡ false
  pub alike : (a b : Key) → is_before a b ≡ false → is_before b a ≡ false → a ≡ b
