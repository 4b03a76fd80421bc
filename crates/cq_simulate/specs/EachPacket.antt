-- Every packet leaves its output whole or is counted as refused there, once.
use Rattle.std.specs.Prelude.{◌≡◌, ℕ, ◌+◌, ◌<◌, ◌&&◌, ◌==◌, if◌then◌else◌, List, None, filter, length, map, slice_index_or, sum}
use Rattle.std.specs.List.{range_with_len}
use Rattle.cq_base.specs.declared.cell.Cell.{Cell}
use Rattle.cq_base.specs.declared.cell.Departure.{Departure}
use Rattle.cq_cells.specs.Schedule.{arrivals, packet_at, packets_of}
use Rattle.cq_ideal.specs.Admission.{is_first}
use Rattle.cq_ideal.specs.EachOnce.{LeaveOrAreRefused}
use Rattle.cq_ideal.specs.Refused.{cells_refused, packets_refused}
use Rattle.cq_pcap.specs.Captured.{Captured}
use Rattle.cq_route.specs.Route.{route}
use Rattle.cq_route.specs.declared.tables.Tables.{Tables}
use Rattle.cq_simulate.specs.Packets.{ends_packet_at, packets_out}

-- the output to which packet k of an input goes
abbrev pub output_of : Tables → List (List Captured) → ℕ → ℕ → ℕ
output_of t captures input k = (route t input (packet_at captures input k).body).0

-- how many packets of an input go to output j
abbrev pub number_from : Tables → List (List Captured) → ℕ → ℕ → ℕ
number_from t captures j input =
    length (filter (λ k. output_of t captures input k == j) (range_with_len 0 (length (packets_of captures input))))

-- how many packets go to output j
abbrev pub number_for : Tables → List (List Captured) → ℕ → ℕ
number_for t captures j = sum (map (number_from t captures j) (range_with_len 0 (length captures)))

-- how often packet k of an input leaves output j: how often its last cell does
abbrev pub times_left : ℕ → ℕ → ℕ → List Departure → ℕ
times_left input k j sent =
    length (filter (λ d. ends_packet_at j d && (d.queued.cell.id.input == input && d.queued.cell.id.packet == k)) sent)

-- how often it is refused there: how often its first cell is
abbrev pub times_refused : ℕ → ℕ → ℕ → List Cell → ℕ
times_refused input k j refused =
    length
    (filter (λ cell. (cell.output == j && is_first cell) && (cell.id.input == input && cell.id.packet == k)) refused)

-- Each packet of these captures leaves the output to which it goes with all its cells, or is refused there with all
-- of them: one of both, once, and nowhere else. So the packets that are written of an output, and those that are
-- counted as refused there, are together as many as go there; and at an output without a limit none is refused.
pub record EachPacketOnce (t : Tables) (captures : List (List Captured)) (sent : List Departure) (refused : List Cell)
    : Type 0 where
  pub whole : (input : ℕ) → input < length captures → LeaveOrAreRefused (arrivals t captures) sent refused input
  pub each : (input k j : ℕ) → input < length captures → k < length (packets_of captures input) →
      times_left input k j sent + times_refused input k j refused ≡ (if output_of t captures input k == j then 1 else 0)
  pub all : (j : ℕ) → length (packets_out t captures sent j) + packets_refused j refused ≡ number_for t captures j
  pub nowhere_else : (j : ℕ) → slice_index_or t.limits j None ≡ None → cells_refused j refused ≡ 0
