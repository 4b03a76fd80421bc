-- Only proofs use this.
-- Cells that are told by a function, item by item.
use Rattle.std.specs.Prelude.{◌≡◌, List, map}
use Rattle.cq_base.specs.declared.cell.Queued.{Queued}

-- of each item the function told its cells
abbrev pub AllAreTold : {X : Type 0} → (X → List Queued → Type 0) → List X → List (List Queued) → Type 0
AllAreTold {X} tells items told = (cells_at : X → List Queued) →
    ((x : X) (cells : List Queued) → tells x cells → cells ≡ cells_at x) → told ≡ map cells_at items
