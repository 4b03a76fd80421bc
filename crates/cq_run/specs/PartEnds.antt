-- How stopping a run and taking one up end, over captures and a text that were read.
use Rattle.std.specs.Prelude.{◌≡◌, ◌≤◌, ℕ, All, List}
use Rattle.cq_pcap.specs.Captured.{Captured}
use Rattle.cq_resume.specs.Resumed.{Kept}
use Rattle.cq_resume.specs.declared.refusal.StateRefusal.{StateRefusal}
use Rattle.cq_resume.specs.declared.refusal.StateRefusal.TheVariants as of_state
use Rattle.cq_route.specs.declared.tables.Tables.{Tables}
use Rattle.cq_simulate.specs.Packets.{HaveLeftOf}
use Rattle.cq_state.specs.declared.write.StateLong.{StateLong}
use Rattle.cq_state.specs.declared.write.StateLong.TheVariants as of_text
use Rattle.cq_run.specs.Headline.{AreGiven}
use Rattle.cq_run.specs.Parting.{IsPartRefusal, IsResumeRefusal, IsResumedText}
use Rattle.cq_run.specs.Plan.{Plan, resumed}
use Rattle.cq_run.specs.declared.refusal.Refusal.TheVariants.{State}
use Rattle.cq_run.specs.declared.refusal.StateFault.TheVariants.{Line, Long, Shape, Unsound}
use Rattle.cq_run.specs.declared.stop.Halt.{Halt}
use Rattle.cq_run.specs.declared.stop.Halt.TheVariants.{NoMemory, Refused, Unread}
use Rattle.cq_run.specs.declared.switching.Crossed.{Crossed}

-- why a run is not stopped: there is no text of its state, or memory ran out
abbrev pub IsPartHalt : Tables → List (List Captured) → ℕ → Halt → Type 0
IsPartHalt t captures slots (Refused refusal) = IsPartRefusal t captures slots refusal
IsPartHalt t captures slots (Unread name) = ⊥
IsPartHalt t captures slots NoMemory = Unit {0}

-- why a run is not taken up: the text is refused, a rank does not fit, or memory ran out
abbrev pub IsResumeHalt : Tables → List (List Captured) → List ℕ → Halt → Type 0
IsResumeHalt t captures text (Refused refusal) = IsResumeRefusal t captures text refusal
IsResumeHalt t captures text (Unread name) = ⊥
IsResumeHalt t captures text NoMemory = Unit {0}

-- what was kept of a run
abbrev pub kept_by : Crossed → Kept
kept_by c =
    record {
      sent = c.run.sent.items;
      note = c.run.note.items;
      figures = c.run.figures;
      refused = c.run.refused.items;
    }

-- it is what the run keeps that goes on from the state whose text this is, and it can be built
pub record IsResumedBy (t : Tables) (captures : List (List Captured)) (text : List ℕ) (c : Crossed) : Type 0 where
  pub given : AreGiven t captures
  pub resumed : IsResumedText t captures text (kept_by c)
  pub left : HaveLeftOf t captures c.run.sent.items c.t0
  pub reportable : All (λ x. x.cells ≤ c.run.figures.slots) c.run.figures.outputs

-- the plan is what is written of the run that goes on from the state whose text this is
pub record IsResuming (t : Tables) (captures : List (List Captured)) (text : List ℕ) (plan : Plan) : Type 0 where
  pub given : AreGiven t captures
  pub kept : Kept
  pub goes_on : IsResumedText t captures text kept
  pub written : plan ≡ resumed t captures kept

-- ## Why the program stops

-- where a text is not taken as a state
abbrev pub halt_for_state : StateRefusal → Halt
halt_for_state (of_state.Text line) = Refused (State (Line line))
halt_for_state of_state.Shape = Refused (State Shape)
halt_for_state (of_state.Unsound clause) = Refused (State (Unsound clause))
halt_for_state of_state.NoMemory = NoMemory

-- and where a state has no text
abbrev pub halt_for_text : StateLong → Halt
halt_for_text of_text.Long = Refused (State Long)
halt_for_text of_text.NoMemory = NoMemory
