-- Only proofs use this.
-- What a state comes to whose cells were found, part by part.
use Rattle.std.specs.Prelude.{◌≡◌, ℕ, ◌+◌, ◌-◌, ◌<◌, ◌≤◌, ◌^◌, ◌==◌, max, if◌then◌else◌, AllPairs, List, length, filter, Option, None, Some}
use Rattle.std.specs.List.{AllByRecursion}
use Rattle.cq_base.specs.declared.cell.Departure.{Departure}
use Rattle.cq_base.specs.declared.figures.InputFigures.{InputFigures}
use Rattle.cq_base.specs.declared.figures.OutputFigures.{OutputFigures}
use Rattle.cq_base.specs.Limits.{most_ports}
use Rattle.cq_resume.specs.Finding.{BuffersStand, IsNameBefore, IsNoLaterInput, SentStand}
use Rattle.cq_resume.specs.declared.found.Found.{Found}
use Rattle.cq_resume.specs.declared.found.Gone.{Gone}
use Rattle.cq_resume.specs.declared.found.Name.{Name}
use Rattle.cq_state.specs.declared.state.Seen.{Seen}
use Rattle.cq_state.specs.declared.state.State.{State}

-- the departure of a cell that was sent
abbrev pub departed : Gone → Departure
departed g = record { slot = g.slot; output = g.queued.cell.output; queued = g.queued }

-- what was seen of an input, of whose cells these are named
abbrev pub figures_at_input : List Name → ℕ → Seen → InputFigures
figures_at_input names i x =
    record { cells = length (filter (λ n. n.queued.key.input == i) names); longest = x.longest; slack = x.slack }

-- the greater of the waits so far, if there are any, and this one
abbrev pub longer : Option ℕ → ℕ → ℕ
longer None now = now
longer (Some wait) now = max wait now

-- what was seen of an output, with a departure more, if it is its own
abbrev pub with_departure : ℕ → OutputFigures → Departure → OutputFigures
with_departure j x d =
    if d.output == j then record { cells = x.cells + 1; wait = Some (longer x.wait (d.slot - d.queued.key.slot)) }
    else x

-- the found cells stand in order, and their lists, buffers and departures can be told apart
pub record CanTakeUp (s : State) (f : Found) : Type 0 where
  pub few : s.head.ports ≤ most_ports
  pub next : s.head.next < 2 ^ 63
  pub inputs : length s.inputs ≡ s.head.ports
  pub lists : AllPairs IsNoLaterInput f.listed.items
  pub buffers : BuffersStand f.buffered.items
  pub sent : SentStand s.head.next f.sent.items
  pub outputs : AllByRecursion (λ g. g.queued.cell.output < s.head.ports) f.sent.items
  pub names : AllPairs IsNameBefore f.names.items
