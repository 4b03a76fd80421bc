-- What a state tells: the cells that it names, and where they stand.
use Rattle.std.specs.Prelude.{ℕ, ◌&&◌, ◌==◌, nat_lt, Bool, List, ◌++◌, map, filter, filter_map, Option, Some, None, option_map}
use Rattle.std.specs.List.{list_any, range_with_len}
use Rattle.cq_base.specs.Arriving.{Arrival, arriving_at}
use Rattle.cq_base.specs.Cells.{is_for}
use Rattle.cq_base.specs.Key.{is_before}
use Rattle.cq_base.specs.declared.cell.Cell.{Cell}
use Rattle.cq_base.specs.declared.cell.Queued.{Queued}
use Rattle.cq_base.specs.declared.key.Key.{Key}
use Rattle.cq_laws.specs.Fabric.{Fabric}
use Rattle.cq_state.specs.declared.state.Named.{Named}
use Rattle.cq_state.specs.declared.state.State.{State}

-- the cell that arrives in the slot and at the input that name it, if one does
abbrev pub arriving_cell : List Arrival → Named → Option Cell
arriving_cell came c = arriving_at came c.slot c.input

-- the output of a cell, and 0 where there is none
abbrev pub output_in : Option Cell → ℕ
output_in None = 0
output_in (Some cell) = cell.output

-- its class, and 0 where there is none
abbrev pub class_in : Option Cell → ℕ
class_in None = 0
class_in (Some cell) = cell.class

-- the output of the cell of this name
abbrev pub output_of : List Arrival → Named → ℕ
output_of came c = output_in (arriving_cell came c)

-- and its class
abbrev pub class_of : List Arrival → Named → ℕ
class_of came c = class_in (arriving_cell came c)

-- its key
abbrev pub key_of : Named → Key
key_of c = record { level = c.level; rank = c.rank; slot = c.slot; input = c.input }

-- whether the first has the lesser key
abbrev pub is_ahead : Named → Named → Bool
is_ahead a b = is_before (key_of a) (key_of b)

-- the cell with its key, if it arrives
abbrev pub queued_of : List Arrival → Named → Option Queued
queued_of came c = option_map (λ cell. record { cell = cell; key = key_of c }) (arriving_cell came c)

-- the cells that wait, at inputs and at outputs
abbrev pub queued_in : State → List Named
queued_in s = s.listed ++ s.buffered

-- all cells that are named: those, and the ones that were sent
abbrev pub named_in : State → List Named
named_in s = queued_in s ++ map (λ d. d.cell) s.sent

-- whether one of these names is the arrival's
abbrev pub is_named : List Named → Arrival → Bool
is_named names a = list_any (λ c. c.slot == a.slot && c.input == a.cell.id.input) names

-- the list of input i
abbrev pub list_told : List Arrival → State → ℕ → List Queued
list_told came s i = filter_map (queued_of came) (filter (λ c. c.input == i) s.listed)

-- and the buffer of output j
abbrev pub buffer_told : List Arrival → State → ℕ → List Queued
buffer_told came s j = filter (is_for j) (filter_map (queued_of came) s.buffered)

-- the fabric that is told of
unfoldable pub fabric_told : List Arrival → State → Fabric
fabric_told came s =
    record {
      inputs = map (list_told came s) (range_with_len 0 s.head.ports);
      buffers = map (buffer_told came s) (range_with_len 0 s.head.ports);
      ranks = s.ranks;
    }

-- whether two arrivals are of one packet
abbrev pub is_of_packet : Arrival → Arrival → Bool
is_of_packet a b = b.cell.id.input == a.cell.id.input && b.cell.id.packet == a.cell.id.packet

-- the cells of the arrival's packet that arrived before this slot
abbrev pub packet_before : List Arrival → ℕ → Arrival → List Arrival
packet_before came next a = filter (λ b. is_of_packet a b && nat_lt b.slot next) came
