-- Only proofs use this.
-- What the steps of judging ask, and what they say of the found cells.
use Rattle.std.specs.Prelude.{◌≡◌, ℕ, ◌+◌, ◌<◌, ◌⊎◌, length, List, AllPairs, ⊤}
use Rattle.std.specs.List.{AllByRecursion}
use Rattle.cq_base.specs.declared.cell.Queued.{Queued}
use Rattle.cq_base.specs.declared.cell.Transfer.{Transfer}
use Rattle.cq_base.specs.declared.setup.Setup.{Setup}
use Rattle.cq_base.specs.Limits.{most_classes}
use Rattle.cq_cells.specs.Scheduled.{Scheduled}
use Rattle.cq_cells.specs.Traffic.{IsTraffic}
use Rattle.cq_lines.specs.Transfers.{IsTransferBefore}
use Rattle.cq_resume.specs.Finding.{BuffersStand, IsFound, ListsStand, SentStand, SlackStands, StandsBelow}
use Rattle.cq_resume.specs.Sound.{AreArrivals}
use Rattle.cq_resume.specs.Switch.{HasShape, switch_of}
use Rattle.cq_resume.specs.declared.found.Found.{Found}
use Rattle.cq_resume.specs.declared.refusal.StateRefusal.{StateRefusal}
use Rattle.cq_resume.specs.declared.refusal.StateRefusal.TheVariants as refusal
use Rattle.cq_route.specs.Tables.{AreTables, classes_of, ports_of}
use Rattle.cq_route.specs.declared.tables.Tables.{Tables}
use Rattle.cq_state.specs.State.{IsInRange}
use Rattle.cq_state.specs.declared.state.State.{State}

-- these cells of a state, which is in range and of the shape of these tables, were found among those of the schedule,
-- each before the next slot
pub record AreFoundIn (t : Tables) (c : Scheduled) (s : State) (f : Found) : Type 0 where
  pub tables : AreTables t
  pub traffic : IsTraffic (ports_of t.setup) (classes_of t.setup) c.came
  pub range : IsInRange s
  pub shape : HasShape (switch_of t c) s
  pub found : IsFound c.came s f
  pub arrivals : AreArrivals c.came s

-- the cell is one of a switch of this setup
abbrev pub IsCellFor : Setup → Queued → Type 0
IsCellFor setup q = (q.cell.output < length setup.kinds) × (q.cell.class < length setup.classes)

-- so is each cell that waits
abbrev pub AreCellsFor : Setup → Found → Type 0
AreCellsFor setup f =
    AllByRecursion (IsCellFor setup) f.listed.items × AllByRecursion (IsCellFor setup) f.buffered.items

-- and so are the names, of which the classes are no more than there may be
abbrev pub AreNamesFor : Setup → Found → Type 0
AreNamesFor setup f =
    AllByRecursion (λ n. (n.queued.cell.output < length setup.kinds) × (n.queued.cell.class < most_classes))
    f.names.items

-- the second clause, of found cells and of transfers
abbrev pub AreOrdered : Found → ℕ → List Transfer → Type 0
AreOrdered f next moved =
    ListsStand f.listed.items × BuffersStand f.buffered.items × SentStand next f.sent.items
    × AllPairs IsTransferBefore moved × AllByRecursion (λ t. t.slot < next) moved

-- the third
abbrev pub HaveRoom : Found → Type 0
HaveRoom f = SlackStands f.listed.items f.buffered.items

-- and the sixth
abbrev pub StandBelow : Setup → List (List ℕ) → Found → Type 0
StandBelow setup ranks f =
    AllByRecursion (StandsBelow setup ranks) f.listed.items × AllByRecursion (StandsBelow setup ranks) f.buffered.items

-- of two clauses, of which the first has this number, it names the first that fails; or memory ran out
abbrev pub IsFirstOfTwo : ℕ → Type 0 → Type 0 → StateRefusal → Type 0
IsFirstOfTwo k P Q (refusal.Unsound clause) = ((clause ≡ k) × (P → ⊥)) ⊎ ((clause ≡ k + 1) × P × (Q → ⊥))
IsFirstOfTwo k P Q refusal.NoMemory = ⊤
IsFirstOfTwo k P Q other = ⊥
