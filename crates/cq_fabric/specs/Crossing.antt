-- Only proofs use this.
-- What lists, buffers and offers show where the pairs of a matching are to cross.
use Rattle.std.specs.Prelude.{◌≡◌, All, List, length}
use Rattle.cq_list.specs.InputList.{Waiting, cells_of}
use Rattle.cq_urgency.specs.OutputBuffer.{Buffered, cells_in}
use Rattle.cq_prefs.specs.FirstCells.{orders_of}
use Rattle.cq_prefs.specs.Orders.{Orders}
use Rattle.cq_prefs.specs.Pairing.{Partners}
use Rattle.cq_xbar.specs.Crossbar.{HaveCells, HaveRoom, KeysAreNew}
use Rattle.cq_fabric.specs.Queues.{KeysApart}

-- the first cells of the pairs can cross from these lists into these buffers
pub record CanCrossInPairs (m : Partners) (waiting : List Waiting) (crossed : List Buffered) : Type 0 where
  pub lists : length waiting ≡ length m
  pub buffers : length crossed ≡ length m
  pub cells : HaveCells m (cells_of waiting)
  pub keys : KeysAreNew m (cells_of waiting) (cells_in crossed)
  pub room : HaveRoom m crossed

-- the offers are those of the lists, and can follow as first cells leave them: each list is for as many outputs as
-- there are lists, and no two lists have cells of one key
pub record CanFollow (waiting : List Waiting) (orders : Orders) : Type 0 where
  pub apart : KeysApart (cells_of waiting)
  pub outputs : All (λ list. list.outputs ≡ length waiting) waiting
  pub offers : orders ≡ orders_of (cells_of waiting)
