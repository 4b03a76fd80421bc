use Rattle.cq_resume.proofs.Terms.{◌≡◌, ℕ, ◌<◌, [], length, slice_index_or, machine_at, machines_of}
use Rattle.cq_resume.proofs.shape.are_sized.Given as goal

-- the states of the outputs before this one have as many numbers as their machines ask for
abbrev pub invariant-outputs : goal.invariant-outputs
invariant-outputs l =
    (j : ℕ) → j < l.output → length (slice_index_or l.ranks j []) ≡ (machine_at (machines_of l.setup) j).size
