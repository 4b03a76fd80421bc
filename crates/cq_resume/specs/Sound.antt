-- When a state is sound: six clauses, in order.
use Rattle.std.specs.Prelude.{◌≡◌, ◌≢◌, ◌⊎◌, ℕ, ◌<◌, ◌≤◌, zero, suc, true, false, All, AllPairs, IsSome, List, [], slice_index_or, ⊤}
use Rattle.std.specs.List.{AllByRecursion}
use Rattle.cq_base.specs.Arriving.{Arrival}
use Rattle.cq_laws.specs.Slack.{HasSlack}
use Rattle.cq_lines.specs.Transfers.{IsTransferBefore}
use Rattle.cq_rank.specs.Machine.{machine_at}
use Rattle.cq_resume.specs.Switch.{HasLimit, Switch}
use Rattle.cq_resume.specs.Told.{arriving_cell, class_of, fabric_told, is_ahead, is_named, named_in, output_of, packet_before, queued_in}
use Rattle.cq_resume.specs.declared.refusal.StateRefusal.{StateRefusal}
use Rattle.cq_resume.specs.declared.refusal.StateRefusal.TheVariants as refusal
use Rattle.cq_state.specs.declared.state.Named.{Named}
use Rattle.cq_state.specs.declared.state.Sent.{Sent}
use Rattle.cq_state.specs.declared.state.State.{State}

-- each cell that is named arrives before the next slot, and none is named twice
pub record AreArrivals (came : List Arrival) (s : State) : Type 0 where
  pub arrive : All (λ c. (c.slot < s.head.next) × IsSome (arriving_cell came c)) (named_in s)
  pub once : AllPairs (λ a b. (a.slot ≡ b.slot) → a.input ≢ b.input) (named_in s)

-- a buffered cell stands before another: by output, then by key
abbrev pub IsBufferedBefore : List Arrival → Named → Named → Type 0
IsBufferedBefore came a b = (output_of came a < output_of came b) ⊎
    ((output_of came a ≡ output_of came b) × (is_ahead a b ≡ true))

-- a departure is before another: by slot, then by output
abbrev pub IsSentBefore : List Arrival → Sent → Sent → Type 0
IsSentBefore came a b = (a.slot < b.slot) ⊎ ((a.slot ≡ b.slot) × (output_of came a.cell < output_of came b.cell))

-- all lines stand in order, the cells of a list for one output by their keys, and each departure and each transfer
-- has its time
pub record StandInOrder (w : Switch) (s : State) : Type 0 where
  pub lists : AllPairs (λ a b. a.input ≤ b.input) s.listed
  pub keys : AllPairs (λ a b. a.input ≡ b.input → output_of w.came a ≡ output_of w.came b → is_ahead a b ≡ true)
      s.listed
  pub buffers : AllPairs (IsBufferedBefore w.came) s.buffered
  pub sent : AllPairs (IsSentBefore w.came) s.sent
  pub sent_times : All (λ d. (d.cell.slot ≤ d.slot) × (d.slot < s.head.next)) s.sent
  pub moved : AllPairs IsTransferBefore s.moved
  pub moved_times : All (λ t. t.slot < s.head.next) s.moved

-- each cell of a list has slack 1 at least
abbrev pub HaveSlack : Switch → State → Type 0
HaveSlack w s = HasSlack 1 (fabric_told w.came s)

-- the arrivals are all named
abbrev pub AllNamed : State → List Arrival → Type 0
AllNamed s arrivals = All (λ b. is_named (named_in s) b ≡ true) arrivals

-- none of them is named
abbrev pub NoneNamed : State → List Arrival → Type 0
NoneNamed s arrivals = All (λ b. is_named (named_in s) b ≡ false) arrivals

-- of each packet that has begun all cells that arrived are named, or none, and that only where its output has a limit
abbrev pub AreWholePackets : Switch → State → Type 0
AreWholePackets w s =
    All (λ a. a.cell.id.index ≡ 0 → a.slot < s.head.next →
    AllNamed s (packet_before w.came s.head.next a)
    ⊎ (NoneNamed s (packet_before w.came s.head.next a) × HasLimit w.limits a.cell.output)) w.came

-- two cells are of one input, output and class
pub record OfOneFlow (came : List Arrival) (a b : Named) : Type 0 where
  pub input : a.input ≡ b.input
  pub output : output_of came a ≡ output_of came b
  pub class : class_of came a ≡ class_of came b

-- the cells of each flow were sent in the order of arrival, those that wait arrived after them, and are to be sent in
-- that order
pub record KeepArrivalOrder (w : Switch) (s : State) : Type 0 where
  pub sent : AllPairs (λ d e. OfOneFlow w.came d.cell e.cell → d.cell.slot < e.cell.slot) s.sent
  pub after : All (λ d. All (λ c. OfOneFlow w.came d.cell c → d.cell.slot < c.slot) (queued_in s)) s.sent
  pub queued : All (λ a. All (λ b. OfOneFlow w.came a b → a.slot < b.slot → is_ahead a b ≡ true) (queued_in s))
      (queued_in s)

-- the level of a cell that waits is that of its class, and its rank is no greater than the floor of its class
pub record IsBelowFloor (w : Switch) (s : State) (c : Named) : Type 0 where
  pub level : c.level ≡ (machine_at w.machines (output_of w.came c)).level (class_of w.came c)
  pub rank : c.rank
      ≤ (machine_at w.machines (output_of w.came c)).floor (slice_index_or s.ranks (output_of w.came c) [])
      (class_of w.came c)

-- so each cell that waits does
abbrev pub AreBelowFloors : Switch → State → Type 0
AreBelowFloors w s = All (IsBelowFloor w s) (queued_in s)

-- ## Together

-- the clause of this number, from 1
abbrev pub Clause : Switch → State → ℕ → Type 0
Clause w s zero = ⊤
Clause w s (suc zero) = AreArrivals w.came s
Clause w s (suc (suc zero)) = StandInOrder w s
Clause w s (suc (suc (suc zero))) = HaveSlack w s
Clause w s (suc (suc (suc (suc zero)))) = AreWholePackets w s
Clause w s (suc (suc (suc (suc (suc zero))))) = KeepArrivalOrder w s
Clause w s (suc (suc (suc (suc (suc (suc zero)))))) = AreBelowFloors w s
Clause w s k = ⊤

-- the state is sound
pub record IsSound (w : Switch) (s : State) : Type 0 where
  pub arrivals : AreArrivals w.came s
  pub order : StandInOrder w s
  pub slack : HaveSlack w s
  pub packets : AreWholePackets w s
  pub flows : KeepArrivalOrder w s
  pub floors : AreBelowFloors w s

-- this clause is the first that fails
pub record IsFirstUnsound (w : Switch) (s : State) (k : ℕ) : Type 0 where
  pub before : (n : ℕ) → n < k → Clause w s n
  pub fails : Clause w s k → ⊥

-- Only proofs use these.
-- the inputs that a state names are those of so many ports
abbrev pub IsForPorts : ℕ → State → Type 0
IsForPorts ports s = AllByRecursion (λ c. c.input < ports) (named_in s)

-- the refusal is this clause, and then this holds; or memory ran out
abbrev pub IsOnlyFor : ℕ → Type 0 → StateRefusal → Type 0
IsOnlyFor k Why (refusal.Unsound clause) = (clause ≡ k) × Why
IsOnlyFor k Why refusal.NoMemory = ⊤
IsOnlyFor k Why other = ⊥

-- the refusal is the first clause that fails; or memory ran out
abbrev pub IsFirstOf : Switch → State → StateRefusal → Type 0
IsFirstOf w s (refusal.Unsound clause) = IsFirstUnsound w s clause
IsFirstOf w s refusal.NoMemory = ⊤
IsFirstOf w s other = ⊥
