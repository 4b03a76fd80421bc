-- A worked run of the ideal switch with limits: three ports, first come, first served, of which output 0 has limit 1.
-- All cells are for output 0.
use Rattle.std.specs.Prelude.{ℕ, Bool, true, false, List, [], ◌∷◌, Option, Some, None}
use Rattle.cq_base.specs.declared.cell.Cell.{Cell}
use Rattle.cq_base.specs.declared.setup.ClassRow.{ClassRow}
use Rattle.cq_rank.specs.Machine.{Machine, first_come}
use Rattle.cq_ideal.specs.declared.refused.Refused.{Refused}
use Rattle.cq_ideal.specs.Admission.{Admission}
use Rattle.cq_ideal.specs.LimitedIdeal.{LimitedRan}
use Rattle.cq_ideal.specs.Ranking.{keyed}

-- a cell of a packet, at an input
abbrev pub cell_of : ℕ → ℕ → ℕ → Bool → Cell
cell_of input packet index last =
    record {
      id = record { input = input; packet = packet; index = index };
      output = 0;
      class = 0;
      last = last;
      at = 0;
      len = 64;
    }

-- A packet of one cell, by its input and its number there. Input 0 has two of them, of which the later will be
-- refused, and input 1 has one behind its packet of two cells.
abbrev pub one_cell : ℕ → ℕ → Cell
one_cell input packet = cell_of input packet 0 true

-- The first cell of an input's packet of two cells. That packet of input 1 will be refused, that of input 2 admitted.
abbrev pub first_of_two : ℕ → Cell
first_of_two input = cell_of input 0 0 false

-- the other cell of that packet
abbrev pub second_of_two : ℕ → Cell
second_of_two input = cell_of input 0 1 true

-- output 0 has limit 1, and the others have none
abbrev pub limit_one : List (Option ℕ)
limit_one = Some 1 ∷ None ∷ None ∷ []

-- one class, of level 0
abbrev pub one_class : List ClassRow
one_class = record { level = 0; priority = 0; cost = 1 } ∷ []

-- the machines of three outputs, each first come, first served
abbrev pub first_come_all : List Machine
first_come_all = first_come one_class ∷ first_come one_class ∷ first_come one_class ∷ []

-- what arrives in the four slots
abbrev pub discard_slots : List (List (Option Cell))
discard_slots =
    (Some (one_cell 0 0) ∷ Some (first_of_two 1) ∷ None ∷ [])
    ∷ (None ∷ Some (second_of_two 1) ∷ Some (first_of_two 2) ∷ [])
    ∷ (None ∷ Some (one_cell 1 1) ∷ Some (second_of_two 2) ∷ [])
    ∷ (Some (one_cell 0 1) ∷ None ∷ None ∷ []) ∷ []

-- In slot 0 the cell of input 0 fills output 0, so that the packet of input 1 is refused. In slot 1 its second cell
-- is refused too, though output 0 holds nothing, and the packet of input 2 is admitted. In slot 2 output 0 holds
-- nothing again: the next packet of input 1 is admitted, and so is the second cell of input 2, though output 0 is
-- full by then. That cell still waits as slot 3 begins, so that the late packet of input 0 is refused. At the end a
-- mark is up, and nothing waits.
abbrev pub discard_admissions : List Admission
discard_admissions =
    record {
      cells = Some (one_cell 0 0) ∷ None ∷ None ∷ [];
      refused = first_of_two 1 ∷ [];
      marks = false ∷ true ∷ false ∷ [];
    }
    ∷ record {
      cells = None ∷ None ∷ Some (first_of_two 2) ∷ [];
      refused = second_of_two 1 ∷ [];
      marks = false ∷ true ∷ false ∷ [];
    }
    ∷ record {
      cells = None ∷ Some (one_cell 1 1) ∷ Some (second_of_two 2) ∷ [];
      refused = [];
      marks = false ∷ false ∷ false ∷ [];
    }
    ∷ record {
      cells = None ∷ None ∷ None ∷ [];
      refused = one_cell 0 1 ∷ [];
      marks = true ∷ false ∷ false ∷ [];
    } ∷ []

-- the run of the four slots: what was admitted and refused, what left, and what is there in the end
abbrev pub discard_ran : LimitedRan
discard_ran =
    record {
      admissions = discard_admissions;
      gone =
          (Some (keyed (one_cell 0 0) 0 0 0 0) ∷ None ∷ None ∷ [])
          ∷ (Some (keyed (first_of_two 2) 0 0 1 2) ∷ None ∷ None ∷ [])
          ∷ (Some (keyed (one_cell 1 1) 0 0 2 1) ∷ None ∷ None ∷ [])
          ∷ (Some (keyed (second_of_two 2) 0 0 2 2) ∷ None ∷ None ∷ []) ∷ [];
      after =
          record {
            state = record { lists = [] ∷ [] ∷ [] ∷ []; ranks = [] ∷ [] ∷ [] ∷ [] };
            marks = true ∷ false ∷ false ∷ [];
          };
    }

-- a packet of two cells was refused, and one of one cell
abbrev pub discard_refused : List Refused
discard_refused = record { output = 0; limit = 1; packets = 2; cells = 3 } ∷ []
