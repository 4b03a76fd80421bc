-- Which state a text is of, and why it is none.
use Rattle.std.specs.Prelude.{◌≡◌, ◌≢◌, ℕ, List, map, length, ⊤}
use Rattle.std.specs.List.{flat_map}
use Rattle.cq_base.specs.declared.cell.Departure.{Departure}
use Rattle.cq_base.specs.declared.cell.Queued.{Queued}
use Rattle.cq_base.specs.declared.cell.Transfer.{Transfer}
use Rattle.cq_base.specs.declared.figures.InputFigures.{InputFigures}
use Rattle.cq_laws.specs.declared.frozen.Frozen.{Frozen}
use Rattle.cq_resume.specs.Counted.{taken_of}
use Rattle.cq_resume.specs.Sound.{IsFirstUnsound, IsSound}
use Rattle.cq_resume.specs.Switch.{HasShape, Switch}
use Rattle.cq_resume.specs.declared.refusal.StateRefusal.{StateRefusal}
use Rattle.cq_resume.specs.declared.refusal.StateRefusal.TheVariants as refusal
use Rattle.cq_resume.specs.declared.taken.Taken.{Taken}
use Rattle.cq_state.specs.State.{IsInRange, state_text}
use Rattle.cq_state.specs.StateText.{IsStateFault}
use Rattle.cq_state.specs.declared.state.Head.{Head}
use Rattle.cq_state.specs.declared.state.Named.{Named}
use Rattle.cq_state.specs.declared.state.Seen.{Seen}
use Rattle.cq_state.specs.declared.state.Sent.{Sent}
use Rattle.cq_state.specs.declared.state.State.{State}

-- ## Writing

-- a cell by its name, with its key
abbrev pub named_as : Queued → Named
named_as q = record { level = q.key.level; rank = q.key.rank; slot = q.key.slot; input = q.key.input }

-- a departure by the name of its cell
abbrev pub sent_as : Departure → Sent
sent_as d = record { slot = d.slot; cell = named_as d.queued }

-- what was seen of a list, of all that was seen of its input
abbrev pub seen_as : InputFigures → Seen
seen_as x = record { longest = x.longest; slack = x.slack }

-- what a stopped run tells, with this at its head
abbrev pub told_by : Head → Frozen → List Departure → List Transfer → State
told_by head x sent note =
    record {
      head = head;
      inputs = map seen_as x.figures.inputs;
      ranks = x.ranks;
      listed = map named_as (flat_map (λ cells. cells) x.lists);
      buffered = map named_as (flat_map (λ cells. cells) x.buffers);
      sent = map sent_as sent;
      moved = note;
    }

-- what the text of a stopped run tells: its frozen state, its departures and its transfers, and the stamp from which
-- slots are counted, the number of classes, and the number of cells in the schedule
unfoldable pub state_of : Frozen → List Departure → List Transfer → ℕ → ℕ → ℕ → State
state_of x sent note t0 classes total =
    told_by
    (record {
      next = x.next;
      ports = length x.lists;
      classes = classes;
      t0 = t0;
      total = total;
      proposals = x.figures.proposals;
      most = x.figures.most;
    }) x sent note

-- the text of what was taken up, which stands still in this switch
abbrev pub text_of_taken : Switch → Taken → List ℕ
text_of_taken w x = state_text (state_of x.frozen x.sent x.note w.t0 w.classes (length w.came))

-- ## Reading

-- the state is in range, and a sound one of this switch; this is what it comes to
pub record ComesTo (w : Switch) (state : State) (taken : Taken) : Type 0 where
  pub in_range : IsInRange state
  pub shape : HasShape w state
  pub sound : IsSound w state
  pub told : taken ≡ taken_of w state

-- the text is that of such a state
pub record IsRead (w : Switch) (text : List ℕ) (taken : Taken) : Type 0 where
  pub state : State
  pub spelled : state_text state ≡ text
  pub comes : ComesTo w state taken

-- it is that of a state in range, but not one of this switch
pub record HasOtherShape (w : Switch) (text : List ℕ) : Type 0 where
  pub state : State
  pub in_range : IsInRange state
  pub spelled : state_text state ≡ text
  pub other : HasShape w state → ⊥

-- it is that of a state in range, and one of this switch, and this clause is the first that fails of it
pub record FailsFirst (w : Switch) (text : List ℕ) (k : ℕ) : Type 0 where
  pub state : State
  pub in_range : IsInRange state
  pub spelled : state_text state ≡ text
  pub shape : HasShape w state
  pub unsound : IsFirstUnsound w state k

-- why the text is refused; want of memory may come at any time
abbrev pub IsRefusal : Switch → List ℕ → StateRefusal → Type 0
IsRefusal w text (refusal.Text line) = IsStateFault text line
IsRefusal w text refusal.Shape = HasOtherShape w text
IsRefusal w text (refusal.Unsound clause) = FailsFirst w text clause
IsRefusal w text refusal.NoMemory = ⊤

-- ## What holds of every text

-- a text is read as one thing at most, and refused for one thing at most, and never both; want of memory is no such
-- thing
pub record IsReadExact (w : Switch) : Type 0 where
  pub one_state : (text : List ℕ) (x y : Taken) → IsRead w text x → IsRead w text y → x ≡ y
  pub one_refusal : (text : List ℕ) (r s : StateRefusal) → r ≢ refusal.NoMemory → s ≢ refusal.NoMemory →
      IsRefusal w text r → IsRefusal w text s → r ≡ s
  pub never_refused : (text : List ℕ) (x : Taken) (r : StateRefusal) → IsRead w text x → IsRefusal w text r →
      r ≡ refusal.NoMemory
