-- A cell put into a list in the order of keys: what holds of all still holds of all, the list is longer by one, and it
-- still rises, since a cell that has another key and is not before one is after it.
use Rattle.cq_base.proofs.Terms.{common_steps, ◌≡◌, ◌≢◌, ◌+◌, true, false, List, [], ◌∷◌, length, refl, sym, ⊎_elim, arith, AllByRecursion, cond_both, cases_Bool, Key, is_before}
use Rattle.cq_base.specs.declared.cell.Queued.{Queued}
use Rattle.cq_base.specs.Cells.{IsBefore, IsRising, HasOtherKey, put}
use Rattle.cq_base.proofs.Each.{all_weaker}
use Rattle.cq_base.proofs.Keys.{key_laws}

pub all_put : (P : Queued → Type 0) (c : Queued) (xs : List Queued) → P c → AllByRecursion P xs →
    AllByRecursion P (put c xs)
all_put P c [] p all = (p, tt)
all_put P c (x ∷ xs) p all = grind (arith, common_steps, cond_both, all_put P c xs p all.1)

pub length_put : (c : Queued) (xs : List Queued) → length (put c xs) ≡ length xs + 1
length_put c [] = refl
length_put c (x ∷ xs) = grind (arith, common_steps, cond_both, length_put c xs)

-- a key that differs and is not before the other is after it
pub after_other : (a b : Key) → is_before a b ≡ false → b ≢ a → is_before b a ≡ true
after_other a b h ne = ⊎_elim (λ e. e) (λ e. absurd (ne (sym (key_laws.alike a b h e)))) (cases_Bool (is_before b a))

-- what comes before the first cell of a rising list comes before all
pub before_all : (c x : Queued) (xs : List Queued) → IsBefore c x → AllByRecursion (IsBefore x) xs →
    AllByRecursion (IsBefore c) xs
before_all c x xs e all = all_weaker (IsBefore x) (IsBefore c) (λ y. key_laws.on c.key x.key y.key e) xs all

pub rising_put : (c : Queued) (xs : List Queued) → IsRising xs → HasOtherKey c xs → IsRising (put c xs)
rising_put c [] rising other = (tt, tt)
rising_put c (x ∷ xs) rising other =
    grind (arith, common_steps, cond_both, before_all, all_put, after_other, rising_put c xs rising.1 other.1)
