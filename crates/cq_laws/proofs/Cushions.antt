-- Cushions. A cell more in a buffer raises by one the cushion of each less urgent key and lowers none. A cushion that
-- is not 0 shows a more urgent cell, and a greater key has no smaller cushion.
use Rattle.cq_laws.proofs.Terms.{◌≡◌, ℕ, ◌+◌, ◌<◌, ◌≤◌, Bool, true, false, List, [], ◌∷◌, ap, arith, common_steps, cond_both, cases_Bool, Key, Queued, IsAmong, is_before, put, cushion, key_laws}

-- 1 where the test holds
abbrev pub bit : Bool → ℕ
bit true = 1
bit false = 0

pub bit_true : (b : Bool) → b ≡ true → bit b ≡ 1
bit_true b e = ap bit e

pub bit_false : (b : Bool) → b ≡ false → bit b ≡ 0
bit_false b e = ap bit e

pub cushion_cons : (k : Key) (x : Queued) (xs : List Queued) →
    cushion k (x ∷ xs) ≡ bit (is_before x.key k) + cushion k xs
cushion_cons k x xs = grind (arith, common_steps, cond_both, bit_true, bit_false)

pub cushion_put : (k : Key) (c : Queued) (xs : List Queued) →
    cushion k (put c xs) ≡ bit (is_before c.key k) + cushion k xs
cushion_put k c [] = cushion_cons k c []
cushion_put k c (x ∷ xs) = grind (arith, common_steps, cond_both, cushion_cons, cushion_put k c xs)

-- a cushion that is not 0 has a cell
pub cushion_has : (k : Key) (xs : List Queued) → 0 < cushion k xs →
    (x : Queued) × IsAmong x xs × (is_before x.key k ≡ true)
cushion_has k [] h = absurd (omega arith)
cushion_has k (x ∷ xs) h = grind (arith, common_steps, cushion_cons, bit_false, cases_Bool, cushion_has k xs)

-- a greater key has no smaller cushion
pub cushion_rises : (k l : Key) (xs : List Queued) → is_before k l ≡ true → cushion k xs ≤ cushion l xs
cushion_rises k l [] h = omega arith
cushion_rises k l (x ∷ xs) h =
    grind (arith, common_steps, cushion_cons, bit_true, bit_false, cases_Bool, key_laws.on, cushion_rises k l xs h)
