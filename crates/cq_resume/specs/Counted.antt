-- What a sound state comes to: the fabric that stands still, with what was counted, its departures and its transfers.
use Rattle.std.specs.Prelude.{◌≡◌, ℕ, ◌-◌, ◌&&◌, ◌==◌, nat_lt, not, max, Bool, false, if◌then◌else◌, List, map, filter, filter_map, length, Option, Some, None, option_map}
use Rattle.std.specs.List.{enumerate_from, list_any, range_with_len, reduce}
use Rattle.cq_base.specs.Arriving.{Arrival}
use Rattle.cq_base.specs.declared.cell.Departure.{Departure}
use Rattle.cq_base.specs.declared.figures.Figures.{Figures}
use Rattle.cq_base.specs.declared.figures.InputFigures.{InputFigures}
use Rattle.cq_base.specs.declared.figures.OutputFigures.{OutputFigures}
use Rattle.cq_ideal.specs.Ending.{slots_of}
use Rattle.cq_ideal.specs.Refused.{refused_counts}
use Rattle.cq_laws.specs.declared.frozen.Frozen.{Frozen}
use Rattle.cq_resume.specs.declared.packets.Tally.{Tally}
use Rattle.cq_resume.specs.declared.taken.Taken.{Taken}
use Rattle.cq_resume.specs.Switch.{Switch}
use Rattle.cq_resume.specs.Told.{fabric_told, is_named, named_in, packet_before, queued_of}
use Rattle.cq_state.specs.declared.state.Seen.{Seen}
use Rattle.cq_state.specs.declared.state.Sent.{Sent}
use Rattle.cq_state.specs.declared.state.State.{State}

-- the departure that is told, if its cell arrives
abbrev pub departure_of : List Arrival → Sent → Option Departure
departure_of came d =
    option_map (λ q. record { slot = d.slot; output = q.cell.output; queued = q }) (queued_of came d.cell)

-- the departures that a state tells, in order
abbrev pub sent_told : List Arrival → State → List Departure
sent_told came s = filter_map (departure_of came) s.sent

-- ## Figures

-- the cells of input i that are named are those that came to it and were admitted
abbrev pub input_told : State → ℕ → Seen → InputFigures
input_told s i x =
    record {
      cells = length (filter (λ c. c.input == i) (named_in s));
      longest = x.longest;
      slack = x.slack;
    }

-- those from output j
abbrev pub sent_by : List Departure → ℕ → List Departure
sent_by sent j = filter (λ d. d.output == j) sent

-- what was seen of it: how many they are, and the longest wait of one of them
abbrev pub output_told : List Departure → ℕ → OutputFigures
output_told sent j =
    record {
      cells = length (sent_by sent j);
      wait = reduce max (map (λ d. d.slot - d.queued.key.slot) (sent_by sent j));
    }

-- the figures of the slots that are done
unfoldable pub figures_told : List Arrival → State → Figures
figures_told came s =
    record {
      slots = slots_of (sent_told came s);
      proposals = s.head.proposals;
      most = s.head.most;
      inputs = map (λ at. input_told s at.0 at.1) (enumerate_from 0 s.inputs);
      outputs = map (output_told (sent_told came s)) (range_with_len 0 s.head.ports);
    }

-- ## Refusals

-- the last of these arrivals, by slot
abbrev pub latest : List Arrival → Option Arrival
latest arrivals = reduce (λ a b. if nat_lt a.slot b.slot then b else a) arrivals

-- whether the packet of the arrival has no named cell
abbrev pub is_refused : List Arrival → State → Option Arrival → Bool
is_refused came s None = false
is_refused came s (Some a) = not (list_any (is_named (named_in s)) (packet_before came s.head.next a))

-- the first cells that came to input i before the next slot
abbrev pub firsts_at : List Arrival → State → ℕ → List Arrival
firsts_at came s i = filter (λ a. a.cell.id.input == i && a.cell.id.index == 0 && nat_lt a.slot s.head.next) came

-- the mark of an input is up exactly where the last packet that has begun there has no named cell
abbrev pub marks_told : List Arrival → State → List Bool
marks_told came s = map (λ i. is_refused came s (latest (firsts_at came s i))) (range_with_len 0 s.head.ports)

-- the arrivals before the next slot that are not named were refused
abbrev pub refused_arrivals : List Arrival → State → List Arrival
refused_arrivals came s = filter (λ a. nat_lt a.slot s.head.next && not (is_named (named_in s) a)) came

-- what the arrivals that are not named come to
pub record IsTally (w : Switch) (s : State) (x : Tally) : Type 0 where
  pub marks : x.marks ≡ marks_told w.came s
  pub refused : x.refused ≡ refused_counts w.limits (map (λ a. a.cell) (refused_arrivals w.came s))

-- ## Together

-- the fabric as it stands still
unfoldable pub frozen_told : Switch → State → Frozen
frozen_told w s =
    let fabric = fabric_told w.came s in
    record {
      next = s.head.next;
      figures = figures_told w.came s;
      refused = refused_counts w.limits (map (λ a. a.cell) (refused_arrivals w.came s));
      marks = marks_told w.came s;
      ranks = s.ranks;
      lists = fabric.inputs;
      buffers = fabric.buffers;
    }

-- and with it the departures and the transfers
abbrev pub taken_of : Switch → State → Taken
taken_of w s = record { frozen = frozen_told w s; sent = sent_told w.came s; note = s.moved }
