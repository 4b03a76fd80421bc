-- The lists of the ideal switch after arrivals. The list of an output has what it had and what came for it, and no
-- key twice, so it stays in the order of keys.
use Rattle.cq_laws.proofs.Terms.{common_steps, rules, ◌≡◌, ◌≢◌, ℕ, zero, suc, ◌<◌, ◌⊎◌, cond, List, [], ◌∷◌, length, Option, Some, None, refl, inl, inr, ⊎_elim, arith, cases_lt, cond_both, eqb-true, eq-eqb, true≢false, same_Some, get_or_past, get_or-map-range_with_len, Queued, IsAmong, came_to, IsRising, put, is_for, put_all, filled, list_of, length-filled}
use Rattle.cq_base.proofs.Having.{none_had}
use Rattle.cq_laws.proofs.Sound.{among_put, rising_put}
use Rattle.cq_laws.proofs.AfterPhases.{CameFor}

pub among_put_all : (j : ℕ) (came : List (Option Queued)) (xs : List Queued) (c : Queued) →
    IsAmong c (put_all j came xs) → IsAmong c xs ⊎ CameFor came j c
among_put_all j [] xs c h = inl h
among_put_all j (None ∷ came) xs c h = ⊎_elim (λ k. inl k) (λ r. inr (suc r.0, r.1, r.2)) (among_put_all j came xs c h)
among_put_all j (Some q ∷ came) xs c h = ⊎_elim (λ k. search (arith, rules, cond_both, CameFor, eqb-true, among_put))
    (λ r. inr (suc r.0, r.1, r.2)) (among_put_all j came (cond (is_for j q) (put q xs) xs) c h)

pub put_all_keeps : (j : ℕ) (came : List (Option Queued)) (xs : List Queued) (c : Queued) → IsAmong c xs →
    IsAmong c (put_all j came xs)
put_all_keeps j [] xs c h = h
put_all_keeps j (q ∷ came) xs c h = search (arith, rules, among_put, cond_both, put_all_keeps j came)

pub put_all_new : (j : ℕ) (came : List (Option Queued)) (xs : List Queued) (c : Queued) (k : ℕ) →
    came_to came k ≡ Some c → c.cell.output ≡ j → IsAmong c (put_all j came xs)
put_all_new j [] xs c k e out = cc
put_all_new j (o ∷ came) xs c k e out =
    grind (arith, common_steps, same_Some, put_all_keeps, cond_both, among_put, true≢false, eq-eqb, put_all_new j came)

-- no key came that the list has
abbrev NewTo : List (Option Queued) → List Queued → Type 0
NewTo came xs = (k : ℕ) (q d : Queued) → came_to came k ≡ Some q → IsAmong d xs → q.key ≢ d.key

-- no key came twice
abbrev CameOnce : List (Option Queued) → Type 0
CameOnce came = (k l : ℕ) (q r : Queued) → came_to came k ≡ Some q → came_to came l ≡ Some r → q.key ≡ r.key → k ≡ l

pub rising_put_all : (j : ℕ) (came : List (Option Queued)) (xs : List Queued) → IsRising xs → NewTo came xs →
    CameOnce came → IsRising (put_all j came xs)
rising_put_all j [] xs r new once = r
rising_put_all j (None ∷ came) xs r new once = rising_put_all j came xs r (λ k. new (suc k)) (λ k l q s a b e.
    omega (arith, once (suc k) (suc l) q s a b e))
rising_put_all j (Some q ∷ came) xs r new once = rising_put_all j came (cond (is_for j q) (put q xs) xs)
    (cond_both (is_for j q) (put q xs) xs IsRising (λ _. rising_put q xs r (λ d h. new zero q d refl h)) (λ _. r))
    (λ k s d a h e. grind (arith, common_steps, cond_both, among_put, new (suc k) s d a, once (suc k) zero s q a refl))
    (λ k l s t a b e. omega (arith, once (suc k) (suc l) s t a b e))

pub list_after : (came : List (Option Queued)) (lists : List (List Queued)) →
    ((k : ℕ) (q : Queued) → came_to came k ≡ Some q → q.cell.output < length lists) → (j : ℕ) →
    list_of (filled came lists) j ≡ put_all j came (list_of lists j)
unfolding filled
list_after came lists inside j =
    let none = none_had (put_all j came (list_of lists j)) in
    search (arith, rules, get_or-map-range_with_len, none, among_put_all, get_or_past, length-filled, cases_lt, inside)
