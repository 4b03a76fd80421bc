-- Only proofs use this.
-- A machine whose ranks do not always fit, as the tests need it.
use Rattle.std.specs.Prelude.{◌∷◌, ◌^◌, [], slice_index}
use Rattle.cq_rank.specs.Machine.{Machine, KeepsLaws, steady}
use Rattle.cq_rank.specs.MachineLaws.{steady_laws}

-- of two classes of level 0, class 0 has the rank 0 and class 1 one of 2^128
abbrev pub refuses_class_one : Machine
refuses_class_one = steady 2 (λ c. 0) (λ c. slice_index (0 ∷ 2 ^ 128 ∷ []) c)

-- it keeps the laws
pub refuses_class_one_laws : KeepsLaws refuses_class_one
refuses_class_one_laws = steady_laws 2 (λ c. 0) (λ c. slice_index (0 ∷ 2 ^ 128 ∷ []) c)
