use Rattle.cq_cells.proofs.Terms.{◌≡◌, ◌<◌, ℕ, None, arrival_at}
use Rattle.cq_cells.proofs.coming.none_stand.Given as goal

-- no cell stands at the inputs before this one
abbrev pub invariant-inputs : goal.invariant-inputs
invariant-inputs l = (i : ℕ) → i < l.input → arrival_at l.arrivals i ≡ None
