-- Only proofs use this.
-- The clauses of a sound state, over cells that were looked up: each cell stands with its output and its class.
use Rattle.std.specs.Prelude.{◌≡◌, ◌⊎◌, ℕ, ◌*◌, ◌+◌, ◌<◌, ◌≤◌, ◌&&◌, ◌||◌, ◌==◌, nat_lt, nat_le, not, is_some, Bool, true, false, if◌then◌else◌, AllPairs, List, [], ◌∷◌, ◌++◌, map, filter, length, Option, Some, None, slice_get, slice_index_or, IsPermutation, ⊤}
use Rattle.std.specs.List.{AllByRecursion, AllZip, flat_map, list_any, range_with_len}
use Rattle.cq_base.specs.Arriving.{Arrival}
use Rattle.cq_base.specs.Cells.{IsBefore}
use Rattle.cq_base.specs.Key.{is_before}
use Rattle.cq_base.specs.Limits.{most_classes}
use Rattle.cq_base.specs.declared.cell.Queued.{Queued}
use Rattle.cq_base.specs.declared.setup.Setup.{Setup}
use Rattle.cq_cells.specs.Traffic.{is_from}
use Rattle.cq_ideal.specs.Refused.{refused_counts}
use Rattle.cq_rank.specs.Machine.{machine_at}
use Rattle.cq_resume.specs.Counted.{latest}
use Rattle.cq_resume.specs.Switch.{HasLimit}
use Rattle.cq_resume.specs.Told.{packet_before, queued_of}
use Rattle.cq_resume.specs.declared.found.Gone.{Gone}
use Rattle.cq_resume.specs.declared.found.Name.{Name}
use Rattle.cq_resume.specs.declared.found.Found.{Found}
use Rattle.cq_resume.specs.declared.packets.Tally.{Tally}
use Rattle.cq_scfq.specs.Disciplines.{machines_of}
use Rattle.cq_state.specs.declared.state.Named.{Named}
use Rattle.cq_state.specs.declared.state.Sent.{Sent}
use Rattle.cq_state.specs.declared.state.State.{State}

-- ## Names that were looked up

-- the cell of this name with its key, if it arrives before the next slot
abbrev pub told_of : List Arrival → ℕ → Named → Option Queued
told_of came next c = if nat_lt c.slot next then queued_of came c else None

-- this is that cell
abbrev pub IsTold : List Arrival → ℕ → Named → Queued → Type 0
IsTold came next c q = told_of came next c ≡ Some q

-- and this is the departure of such a cell
abbrev pub IsGone : List Arrival → ℕ → Sent → Gone → Type 0
IsGone came next d g = (g.slot ≡ d.slot) × IsTold came next d.cell g.queued

-- each of these names has its cell, in their order
abbrev pub AreFound : List Arrival → ℕ → List Named → List Queued → Type 0
AreFound came next names told = AllZip (IsTold came next) names told

-- and each of these departures, in their order
abbrev pub AreGone : List Arrival → ℕ → List Sent → List Gone → Type 0
AreGone came next sent gone = AllZip (IsGone came next) sent gone

-- this name has none
abbrev pub IsMissed : List Arrival → ℕ → Named → Type 0
IsMissed came next c = told_of came next c ≡ None

-- a name stands before another: by input, and then by slot of arrival
abbrev pub IsNameBefore : Name → Name → Type 0
IsNameBefore a b = (a.queued.key.input < b.queued.key.input) ⊎
    ((a.queued.key.input ≡ b.queued.key.input) × (a.queued.key.slot < b.queued.key.slot))

-- or it stands in the same place at the latest
abbrev pub IsNameNotAfter : Name → Name → Type 0
IsNameNotAfter a b = (a.queued.key.input < b.queued.key.input) ⊎
    ((a.queued.key.input ≡ b.queued.key.input) × (a.queued.key.slot ≤ b.queued.key.slot))

-- the name of a cell that waits
abbrev pub waiting_name : Queued → Name
waiting_name q = record { queued = q; sent = None }

-- and that of a cell that was sent
abbrev pub sent_name : Gone → Name
sent_name g = record { queued = g.queued; sent = Some g.slot }

-- the names of these cells, in their order
abbrev pub names_of : List Queued → List Queued → List Gone → List Name
names_of listed buffered sent = map waiting_name listed ++ map waiting_name buffered ++ map sent_name sent

-- the cells that a state names were found
pub record IsFound (came : List Arrival) (s : State) (f : Found) : Type 0 where
  pub listed : AreFound came s.head.next s.listed f.listed.items
  pub buffered : AreFound came s.head.next s.buffered f.buffered.items
  pub sent : AreGone came s.head.next s.sent f.sent.items
  pub ordered : AllPairs IsNameBefore f.names.items
  pub same : IsPermutation (names_of f.listed.items f.buffered.items f.sent.items) f.names.items

-- ## In order

-- a cell is of no later input than another
abbrev pub IsNoLaterInput : Queued → Queued → Type 0
IsNoLaterInput a b = a.key.input ≤ b.key.input

-- of two cells of one list for one output the first is the more urgent
abbrev pub IsListedBefore : Queued → Queued → Type 0
IsListedBefore a b = a.key.input ≡ b.key.input → a.cell.output ≡ b.cell.output → IsBefore a b

-- a cell of a list stands before another for its output: by input, and then by key
abbrev pub IsAheadInList : Queued → Queued → Type 0
IsAheadInList a b = (a.key.input < b.key.input) ⊎ ((a.key.input ≡ b.key.input) × IsBefore a b)

-- a buffered cell stands before another: by output, and then by key
abbrev pub IsBufferedBefore : Queued → Queued → Type 0
IsBufferedBefore a b = (a.cell.output < b.cell.output) ⊎ ((a.cell.output ≡ b.cell.output) × IsBefore a b)

-- a departure is before another: by slot, and then by output
abbrev pub IsSentBefore : Gone → Gone → Type 0
IsSentBefore a b = (a.slot < b.slot) ⊎ ((a.slot ≡ b.slot) × (a.queued.cell.output < b.queued.cell.output))

-- the lists stand by input, and the cells of each for one output by their keys
pub record ListsStand (listed : List Queued) : Type 0 where
  pub inputs : AllPairs IsNoLaterInput listed
  pub keys : AllPairs IsListedBefore listed

-- the buffers stand by output, and the cells of each by their keys
abbrev pub BuffersStand : List Queued → Type 0
BuffersStand buffered = AllPairs IsBufferedBefore buffered

-- a departure is no earlier than its cell's arrival, and before the next slot
abbrev pub IsTimely : ℕ → Gone → Type 0
IsTimely next g = (g.queued.key.slot ≤ g.slot) × (g.slot < next)

-- the departures stand by slot and then by output, and each has its time
pub record SentStand (next : ℕ) (sent : List Gone) : Type 0 where
  pub ordered : AllPairs IsSentBefore sent
  pub timely : AllByRecursion (IsTimely next) sent

-- ## Slack

-- the more urgent cells of the buffer of its output
abbrev pub cushion_in : List Queued → Queued → List Queued
cushion_in buffered t = filter (λ o. o.cell.output == t.cell.output && is_before o.key t.key) buffered

-- of each cell of a list there are more in the cushion than ahead in that list
pub record HasRoom (buffered list : List Queued) : Type 0 where
  pub each : (ahead : ℕ) (t : Queued) → slice_get list ahead ≡ Some t → ahead < length (cushion_in buffered t)

-- so it is in the list of each input
abbrev pub SlackStands : List Queued → List Queued → Type 0
SlackStands listed buffered = (input : ℕ) → HasRoom buffered (filter (λ o. o.key.input == input) listed)

-- ## Flows

-- two names are of one input, output and class
pub record InOneFlow (a b : Name) : Type 0 where
  pub input : a.queued.key.input ≡ b.queued.key.input
  pub output : a.queued.cell.output ≡ b.queued.cell.output
  pub class : a.queued.cell.class ≡ b.queued.cell.class

-- of two cells the first arrived earlier: it leaves earlier
abbrev pub Leaves : Queued → Queued → Option ℕ → Option ℕ → Type 0
Leaves a b (Some s) (Some t) = s < t
Leaves a b (Some s) None = ⊤
Leaves a b None (Some t) = ⊥
Leaves a b None None = IsBefore a b

-- so it is with two names, where they are of one flow
abbrev pub LeavesEarlier : Name → Name → Type 0
LeavesEarlier a b = InOneFlow a b → Leaves a.queued b.queued a.sent b.sent

-- the number of a flow, by output and class
abbrev pub flow_of : Name → ℕ
flow_of n = n.queued.cell.output * most_classes + n.queued.cell.class

-- a name stands before another of its output and class: by input, and then as they leave
abbrev pub IsAheadInFlow : Name → Name → Type 0
IsAheadInFlow a b = (a.queued.key.input < b.queued.key.input) ⊎
    ((a.queued.key.input ≡ b.queued.key.input) × Leaves a.queued b.queued a.sent b.sent)

-- the cells of each flow leave in the order of arrival
abbrev pub FlowsStand : List Name → Type 0
FlowsStand names = AllPairs LeavesEarlier names

-- ## Floors

-- a cell is of its class's level, and its rank no greater than the floor of its class
pub record StandsBelow (setup : Setup) (ranks : List (List ℕ)) (q : Queued) : Type 0 where
  pub level : q.key.level ≡ (machine_at (machines_of setup) q.cell.output).level q.cell.class
  pub rank : q.key.rank
      ≤ (machine_at (machines_of setup) q.cell.output).floor (slice_index_or ranks q.cell.output []) q.cell.class

-- ## Packets

-- whether one of the names is the arrival's
abbrev pub has_name : List Name → Arrival → Bool
has_name names a = list_any (λ n. n.queued.key.slot == a.slot && n.queued.key.input == a.cell.id.input) names

-- a packet that has begun: all its cells that arrived are named; or none, and its output has a limit
abbrev pub IsWholePacket : List (Option ℕ) → ℕ → List Arrival → List Name → Arrival → Type 0
IsWholePacket limits next came names a =
    AllByRecursion (λ b. has_name names b ≡ true) (packet_before came next a)
    ⊎ (AllByRecursion (λ b. has_name names b ≡ false) (packet_before came next a) × HasLimit limits a.cell.output)

-- each packet that has begun is whole in this sense
abbrev pub PacketsStand : List (Option ℕ) → ℕ → List Arrival → List Name → Type 0
PacketsStand limits next came names =
    AllByRecursion (λ a. a.cell.id.index ≡ 0 → a.slot < next → IsWholePacket limits next came names a) came

-- what arrived before this slot, and is not named
abbrev pub left_out : ℕ → List Arrival → List Name → List Arrival
left_out next came names = filter (λ a. nat_lt a.slot next && not (has_name names a)) came

-- the first cells that came to an input before this slot
abbrev pub firsts_before : ℕ → ℕ → List Arrival → List Arrival
firsts_before i next came = filter (λ a. a.cell.id.input == i && a.cell.id.index == 0 && nat_lt a.slot next) came

-- whether the packet of this cell is not named
abbrev pub is_left_out : List Name → ℕ → List Arrival → Option Arrival → Bool
is_left_out names next came None = false
is_left_out names next came (Some a) = not (list_any (has_name names) (packet_before came next a))

-- what was refused then, and the marks that were left
pub record TalliesUp (limits : List (Option ℕ)) (next : ℕ) (came : List Arrival) (names : List Name) (x : Tally) :
    Type 0 where
  pub marks : x.marks
      ≡ map (λ i. is_left_out names next came (latest (firsts_before i next came))) (range_with_len 0 (length limits))
  pub refused : x.refused ≡ refused_counts limits (map (λ a. a.cell) (left_out next came names))

-- ## Packets that arrive whole, one after another

-- of two cells of one input the second comes next: it goes on with the packet of the first, or begins a later one
abbrev pub ComesNext : Arrival → Arrival → Type 0
ComesNext a b = (a.slot < b.slot) ×
    (((b.cell.id.packet ≡ a.cell.id.packet) × (b.cell.id.index ≡ a.cell.id.index + 1) × (b.cell.output ≡ a.cell.output))
    ⊎ ((a.cell.id.packet < b.cell.id.packet) × (b.cell.id.index ≡ 0)))

-- these cells come one after another behind that one
abbrev pub ComeBehind : Arrival → List Arrival → Type 0
ComeBehind a [] = ⊤
ComeBehind a (b ∷ line) = ComesNext a b × ComeBehind b line

-- the cells of an input, packet after packet, each packet from its first cell on
abbrev pub IsLine : List Arrival → Type 0
IsLine [] = ⊤
IsLine (a ∷ line) = (a.cell.id.index ≡ 0) × ComeBehind a line

-- the cells that arrive are those of so many inputs, input after input, and at each they come packet after packet; each
-- comes to one of these inputs and goes to one of as many outputs
pub record ArePackets (ports : ℕ) (came : List Arrival) : Type 0 where
  pub by_input : came ≡ flat_map (λ i. filter (is_from i) came) (range_with_len 0 ports)
  pub lines : (i : ℕ) → i < ports → IsLine (filter (is_from i) came)
  pub inputs : AllByRecursion (λ a. a.cell.id.input < ports) came
  pub outputs : AllByRecursion (λ a. a.cell.output < ports) came

-- ## The walk over the cells of one input

-- those that arrive at the input from this slot on and before the next one
abbrev pub coming : ℕ → ℕ → ℕ → List Arrival → List Arrival
coming input from next came = filter (λ a. nat_le from a.slot && nat_lt a.slot next) (filter (is_from input) came)

-- whether an output has a limit
abbrev pub has_limit : List (Option ℕ) → ℕ → Bool
has_limit limits j = is_some (slice_index_or limits j None)

-- whether two answers are one
abbrev pub is_same : Bool → Bool → Bool
is_same true b = b
is_same false b = not b

-- whether a cell may come where the packet before it is left out or not: the first of a packet always may, another
-- only if it is named as its packet is; and one that is not named only for an output that has a limit
abbrev pub may_come : Bool → Bool → Bool → Bool → Bool
may_come first named limited mark = (first || is_same mark (not named)) && (named || limited)

-- the mark of an input after these cells, of which some are named; none where one of them may not come
abbrev pub mark_on : (Arrival → Bool) → (ℕ → Bool) → Bool → List Arrival → Option Bool
mark_on named limited mark [] = Some mark
mark_on named limited mark (a ∷ line) =
    if may_come (a.cell.id.index == 0) (named a) (limited a.cell.output) mark
    then mark_on named limited (not (named a)) line
    else None

-- those that are not named
abbrev pub unnamed : List Name → List Arrival → List Arrival
unnamed names line = filter (λ a. not (has_name names a)) line
