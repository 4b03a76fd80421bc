-- What the transfer of a matching does to the lists of the inputs and to the buffers of the outputs, and what is
-- noted of it.
use Rattle.std.specs.Prelude.{◌≡◌, ℕ, List, length, Option, Some, None}
use Rattle.std.specs.List.{range_with_len, filter_map}
use Rattle.std.specs.Option.{option_map}
use Rattle.cq_base.specs.declared.cell.Queued.{Queued}
use Rattle.cq_base.specs.declared.cell.Transfer.{Transfer}
use Rattle.cq_base.specs.Cells.{put, first_for, without_first}
use Rattle.cq_prefs.specs.FirstCells.{list_of}
use Rattle.cq_prefs.specs.Pairing.{Partners, partner_of, IsFreeOutput}

-- the list of an input after its first cell for its partner, if it has one, left it
abbrev pub list_taken : Option ℕ → List Queued → List Queued
list_taken None cells = cells
list_taken (Some j) cells = without_first j cells

-- each input's first cell for its partner leaves the input's list and goes into the partner's buffer, and the lists and
-- buffers of all other ports are as before
pub record Moves (m : Partners) (lists buffers lists' buffers' : List (List Queued)) : Type 0 where
  pub ports : (length lists' ≡ length lists) × (length buffers' ≡ length buffers)
  pub taken : (i : ℕ) → list_of lists' i ≡ list_taken (partner_of m i) (list_of lists i)
  pub given : (i j : ℕ) (c : Queued) → partner_of m i ≡ Some j → first_for j (list_of lists i) ≡ Some c →
      list_of buffers' j ≡ put c (list_of buffers j)
  pub kept : (j : ℕ) → IsFreeOutput m j → list_of buffers' j ≡ list_of buffers j

-- what is noted of an input with these cells and this partner: its first cell for its partner crosses
abbrev pub noted : ℕ → ℕ → ℕ → List Queued → Option ℕ → Option Transfer
noted slot phase input cells None = None
noted slot phase input cells (Some output) =
    option_map (λ c. record { slot = slot; phase = phase; input = input; output = output; id = c.cell.id })
    (first_for output cells)

-- the transfers of a matching, in the order of the inputs, from lists as they are before
unfoldable pub transfers_of : Partners → List (List Queued) → ℕ → ℕ → List Transfer
transfers_of m lists slot phase =
    filter_map (λ i. noted slot phase i (list_of lists i) (partner_of m i)) (range_with_len 0 (length m))
