use Rattle.cq_resume.proofs.Terms.{rules, arith, counted_more, ℕ, List, [], ◌∷◌, ◌++◌, ◌+◌, ◌≡◌, map, range_with_len}
use Rattle.cq_resume.proofs.Cut.{buffered_at, listed_at}
use Rattle.cq_resume.proofs.taken.queues_of.Goals as goal

-- one number more
more : {Y : Type 0} (f : ℕ → Y) (i : ℕ) (y : Y) (now new : List Y) → now ≡ map f (range_with_len 0 i) → y ≡ f i →
    new ≡ now ++ y ∷ [] → new ≡ map f (range_with_len 0 (i + 1))
more {Y} f i y now new so_far is pushed = counted_more f i now new y so_far pushed is

pub ports-preserved : goal.ports-preserved
ports-preserved c = search (arith, rules, more, listed_at, buffered_at)
