-- A worked run over three ports, each first come, first served. In slot 0 a cell comes to each input for output 0; in
-- slot 1 one more comes to input 2, for output 1.
use Rattle.std.specs.Prelude.{ℕ, true, List, [], ◌∷◌, Option, Some, None}
use Rattle.cq_base.specs.declared.cell.Cell.{Cell}
use Rattle.cq_base.specs.declared.cell.Queued.{Queued}
use Rattle.cq_base.specs.declared.cell.Transfer.{Transfer}
use Rattle.cq_base.specs.declared.figures.Figures.{Figures}
use Rattle.cq_ideal.specs.Ranking.{keyed}
use Rattle.cq_laws.specs.Fabric.{Fabric}
use Rattle.cq_laws.specs.FabricSlot.{SlotRecord}

-- the only cell of a packet
abbrev pub lone_cell : ℕ → ℕ → ℕ → Cell
lone_cell input packet output =
    record {
      id = record { input = input; packet = packet; index = 0 };
      output = output;
      class = 0;
      last = true;
      at = 0;
      len = 60;
    }

-- the cell of input 0, for output 0
abbrev pub from_input0 : Queued
from_input0 = keyed (lone_cell 0 0 0) 0 0 0 0

-- the cell of input 1, for output 0
abbrev pub from_input1 : Queued
from_input1 = keyed (lone_cell 1 0 0) 0 0 0 1

-- the older cell of input 2, for output 0
abbrev pub from_input2 : Queued
from_input2 = keyed (lone_cell 2 0 0) 0 0 0 2

-- the later cell of input 2, for output 1
abbrev pub for_output1 : Queued
for_output1 = keyed (lone_cell 2 1 1) 0 0 1 2

-- what arrives in the three slots
abbrev pub three_slots : List (List (Option Cell))
three_slots =
    (Some (lone_cell 0 0 0) ∷ Some (lone_cell 1 0 0) ∷ Some (lone_cell 2 0 0) ∷ [])
    ∷ (None ∷ None ∷ Some (lone_cell 2 1 1) ∷ []) ∷ (None ∷ None ∷ None ∷ []) ∷ []

-- lists and buffers of three ports, whose rank machines have nothing to remember
abbrev pub three : List Queued → List Queued → List Queued → List Queued → List Queued → List Queued → Fabric
three in0 in1 in2 out0 out1 out2 =
    record { inputs = in0 ∷ in1 ∷ in2 ∷ []; buffers = out0 ∷ out1 ∷ out2 ∷ []; ranks = [] ∷ [] ∷ [] ∷ [] }

-- the cell of input 0 crosses and is sent, then that of input 1 crosses
abbrev pub slot0 : SlotRecord
slot0 =
    record {
      slot = 0;
      came = Some from_input0 ∷ Some from_input1 ∷ Some from_input2 ∷ [];
      arrived = three (from_input0 ∷ []) (from_input1 ∷ []) (from_input2 ∷ []) [] [] [];
      first = Some 0 ∷ None ∷ None ∷ [];
      filled = three [] (from_input1 ∷ []) (from_input2 ∷ []) (from_input0 ∷ []) [] [];
      gone = Some from_input0 ∷ None ∷ None ∷ [];
      sent = three [] (from_input1 ∷ []) (from_input2 ∷ []) [] [] [];
      second = None ∷ Some 0 ∷ None ∷ [];
    }

-- the cell for output 1 has no cushion, so it goes ahead of the older one and crosses first; then the older one crosses
abbrev pub slot1 : SlotRecord
slot1 =
    record {
      slot = 1;
      came = None ∷ None ∷ Some for_output1 ∷ [];
      arrived = three [] [] (for_output1 ∷ from_input2 ∷ []) (from_input1 ∷ []) [] [];
      first = None ∷ None ∷ Some 1 ∷ [];
      filled = three [] [] (from_input2 ∷ []) (from_input1 ∷ []) (for_output1 ∷ []) [];
      gone = Some from_input1 ∷ Some for_output1 ∷ None ∷ [];
      sent = three [] [] (from_input2 ∷ []) [] [] [];
      second = None ∷ None ∷ Some 0 ∷ [];
    }

-- and is sent last
abbrev pub slot2 : SlotRecord
slot2 =
    record {
      slot = 2;
      came = None ∷ None ∷ None ∷ [];
      arrived = three [] [] [] (from_input2 ∷ []) [] [];
      first = None ∷ None ∷ None ∷ [];
      filled = three [] [] [] (from_input2 ∷ []) [] [];
      gone = Some from_input2 ∷ None ∷ None ∷ [];
      sent = three [] [] [] [] [] [];
      second = None ∷ None ∷ None ∷ [];
    }

-- the transfer of the only cell of a packet
abbrev pub crossing : ℕ → ℕ → ℕ → ℕ → ℕ → Transfer
crossing slot phase input output packet =
    record {
      slot = slot;
      phase = phase;
      input = input;
      output = output;
      id = record { input = input; packet = packet; index = 0 };
    }

-- what crosses
abbrev pub worked_transfers : List Transfer
worked_transfers = crossing 0 1 0 0 0 ∷ crossing 0 2 1 0 0 ∷ crossing 1 1 2 1 1 ∷ crossing 1 2 2 0 0 ∷ []

-- the cell of input 1 waits one slot, the older one of input 2 two. Each matching takes as many proposals as inputs
-- that have a cell, while they all have it for the same output: 3 and 2 in slot 0, then 1 and 1
abbrev pub worked_figures : Figures
worked_figures =
    record {
      slots = 3;
      proposals = 7;
      most = 3;
      inputs =
          record { cells = 1; longest = 1; slack = Some 0 } ∷ record { cells = 1; longest = 1; slack = Some 0 }
          ∷ record { cells = 2; longest = 2; slack = Some 0 } ∷ [];
      outputs =
          record { cells = 3; wait = Some 2 } ∷ record { cells = 1; wait = Some 0 }
          ∷ record { cells = 0; wait = None } ∷ [];
    }

-- the records of the run
abbrev pub worked_records : List SlotRecord
worked_records = slot0 ∷ slot1 ∷ slot2 ∷ []

-- the states of three rank machines that have nothing to remember
abbrev pub three_empty : List (List ℕ)
three_empty = [] ∷ [] ∷ [] ∷ []
