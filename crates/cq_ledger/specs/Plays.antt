-- The rule in the form in which the table keeps it, and what each kind of step tells its seat.
use Rattle.std.specs.Prelude.{ℕ, ◌≡◌, ◌≢◌, ◌≤◌, ◌<◌, ◌*◌, ◌^◌, ◌⊎◌, length, Some}
use Rattle.atomic_table.specs.Table.{State, Me, Step}
use Rattle.cq_prefs.specs.Orders.{Orders, ports, inputs_of, position_of}
use Rattle.cq_prefs.specs.Proposals.{output_at}
use Rattle.cq_ledger.specs.declared.view.View.{View}
use Rattle.cq_ledger.specs.Rule.{IsLedger}
use Rattle.cq_ledger.specs.Steps.{proposed, claim_taken, claim_refused}
use Rattle.cq_ledger.specs.Views.{bit, HasClaimed, HasSeen}

-- a seat's view, and the slots that it took: a ledger has none
abbrev pub Seated : Type 0
Seated = Me (Unit {0}) View

-- the rule of the table over these offers
abbrev pub Ruled : Orders → State (Unit {0}) View → Type 0
Ruled o s = IsLedger o s.words s.views

-- no seat makes more proposals than the number of ports squared
abbrev pub IsFew : View → Type 0
IsFew v = v.made ≤ ports v.offers * ports v.offers

-- a number that the word of an output can be: the number of ports, or a position of its order
abbrev pub IsWord : Orders → ℕ → ℕ → Type 0
IsWord o j n = (n ≡ ports o) ⊎ (n < length (inputs_of o j))

-- one that it can be where input i proposes to it at place p: not the input's own position
abbrev pub IsOtherWord : Orders → ℕ → ℕ → ℕ → Type 0
IsOtherWord o i p n = IsWord o (output_at o i p) n × (n ≢ position_of o (output_at o i p) i)

-- input i proposed at place p, and its output's word was this one
pub record IsProposal (m : Seated) (i p found : ℕ) (m' : Seated) : Type 0 where
  pub view : m'.0 ≡ proposed m.0 i p found
  pub slots : m'.1 ≡ m.1
  pub few : IsFew m'.0
  pub word : IsOtherWord m.0.offers i p found

-- what a proposal tells its seat
abbrev pub proposal : Step (Unit {0}) → Seated → ℕ → Seated → Type 0
proposal st m found m' = (i p : ℕ) → m.0.hand ≡ Some (i, p) → IsProposal m i p found m'

-- a claim of input i, which found this claim word
pub record IsClaim (m : Seated) (i found : ℕ) (m' : Seated) : Type 0 where
  pub taken : bit found i ≡ 0 → m' ≡ (claim_taken m.0 i, m.1)
  pub refused : bit found i ≡ 1 → m' ≡ (claim_refused m.0 i, m.1)
  -- what the seat had claimed or seen is found claimed
  pub claimed : HasClaimed m.0 i → bit found i ≡ 1
  pub seen : HasSeen m.0 i → bit found i ≡ 1

-- what a claim tells its seat
abbrev pub claim : Step (Unit {0}) → Seated → ℕ → Seated → Type 0
claim st m found m' = (i : ℕ) → st.first ≡ 2 ^ i → IsClaim m i found m'

-- a look at the claim word
pub record IsLook (m m' : Seated) : Type 0 where
  pub same : m' ≡ m
  pub few : IsFew m.0

-- what a look tells its seat
abbrev pub look : Step (Unit {0}) → Seated → ℕ → Seated → Type 0
look st m found m' = IsLook m m'
