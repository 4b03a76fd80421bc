use Rattle.cq_ideal.proofs.Terms.{◌≡◌, ◌∷◌, [], with_refused}
use Rattle.cq_ideal.proofs.Changed.{changed_to}
use Rattle.cq_ideal.proofs.refused.count_refused.Given as goal

-- the counts before this place have the cell
abbrev pub invariant-outputs : goal.invariant-outputs
invariant-outputs l = l.refused ≡ changed_to (with_refused (l.cell ∷ []) l.initial.refused) l.initial.refused l.place
