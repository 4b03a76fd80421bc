-- What the records of a run come to: the cells that were sent, and the transfers.
use Rattle.std.specs.Prelude.{List, ◌++◌, map, Option}
use Rattle.std.specs.List.{flat_map}
use Rattle.cq_base.specs.declared.cell.Queued.{Queued}
use Rattle.cq_base.specs.declared.cell.Transfer.{Transfer}
use Rattle.cq_prefs.specs.Moves.{transfers_of}
use Rattle.cq_laws.specs.FabricSlot.{SlotRecord}

-- per slot and output the cell that was sent, if one was
abbrev pub gone_in : List SlotRecord → List (List (Option Queued))
gone_in rs = map (λ r. r.gone) rs

-- the transfers of a slot: those of the first matching, then those of the second, each in the order of the inputs
unfoldable pub transfers_in : SlotRecord → List Transfer
transfers_in r = transfers_of r.first r.arrived.inputs r.slot 1 ++ transfers_of r.second r.sent.inputs r.slot 2

-- the transfers of a run, slot by slot
unfoldable pub transfers_of_run : List SlotRecord → List Transfer
transfers_of_run rs = flat_map transfers_in rs
