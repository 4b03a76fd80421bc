-- What contracts see of a ledger, of its seats, and of a call on them.
use Rattle.std.specs.Prelude.{ℕ, ◌≡◌, ◌<◌}
use Rattle.atomic_table.specs.Seated.{TableId}
use Rattle.cq_prefs.specs.Orders.{Orders, ports}
use Rattle.cq_prefs.specs.Proposals.{answer_of}
use Rattle.cq_prefs.specs.declared.outcome.Outcome.{Outcome}
use Rattle.cq_ledger.specs.declared.view.View.{View}
use Rattle.cq_ledger.specs.Plays.{IsOtherWord}
use Rattle.cq_ledger.specs.Steps.{proposing}
use Rattle.cq_ledger.specs.Views.{HasClaimed}

-- a ledger: which one it is, and its offers
pub record LedgerState : Type 0 where
  pub table : TableId
  pub offers : Orders

-- a seat: of which ledger it is, and its view
pub record SeatState : Type 0 where
  pub table : TableId
  pub view : View

-- the seat is one of the ledger's
pub record IsSeatOf (l : LedgerState) (s : SeatState) : Type 0 where
  pub table : s.table ≡ l.table
  pub offers : s.view.offers ≡ l.offers

-- the hand's input proposed at this place, in one step on the word of its output; the answer and the view after are by
-- what the word was
pub record IsProposed (v : View) (i p : ℕ) (answer : Outcome) (v' : View) : Type 0 where
  pub found : ℕ
  pub word : IsOtherWord v.offers i p found
  pub answer_is : answer ≡ answer_of v.offers i p found
  pub view : v' ≡ proposing v i p answer

-- the seat has claimed every port
abbrev pub HasClaimedAll : SeatState → Type 0
HasClaimedAll s = (i : ℕ) → i < ports s.view.offers → HasClaimed s.view i
