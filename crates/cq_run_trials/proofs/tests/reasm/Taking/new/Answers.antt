use Rattle.cq_base.proofs.Library.{arith, common_steps, rules, ◌≡◌, ℕ, zero, suc, ◌∷◌, map, replicate, take_all, refl, ap}
use Rattle.cq_run_trials.proofs.tests.reasm.Taking.new.Goals as goal

emptied : {X Y : Type 0} (f : X → Y) (n : ℕ) (x : X) → map f (replicate n x) ≡ replicate n (f x)
emptied f zero x = refl
emptied f (suc n) x = ap (λ l. f x ∷ l) (emptied f n x)

pub invariant_of-result : goal.invariant_of-result
invariant_of-result c = search (arith, rules, common_steps, emptied, take_all)
