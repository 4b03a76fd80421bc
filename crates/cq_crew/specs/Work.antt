-- Only proofs use this.
-- What a worker's work does to its seat.
use Rattle.std.specs.Prelude.{ℕ, ◌≡◌, ◌+◌, ◌≤◌, ◌<◌, ◌⊎◌, None}
use Rattle.cq_prefs.specs.Orders.{ports}
use Rattle.cq_ledger.specs.declared.view.View.{View}
use Rattle.cq_ledger.specs.Seats.{LedgerState, SeatState, IsSeatOf}
use Rattle.cq_ledger.specs.Views.{HasClaimed, HasSeen}

-- a seat with this view has tried to claim input i: it has claimed it, or has found it claimed
abbrev pub HasTried : View → ℕ → Type 0
HasTried v i = HasClaimed v i ⊎ HasSeen v i

-- the same of all inputs from one number up to another
abbrev pub HaveTried : View → ℕ → ℕ → Type 0
HaveTried v a b = (i : ℕ) → a ≤ i → i < b → HasTried v i

-- a seat on which so many workers, numbered from the first on, can work: it is one of the ledger's with an empty hand
-- and has tried no input, there is one worker at least, and their numbers are those of inputs, of which there are n
pub record CanWork (l : LedgerState) (s : SeatState) (first count n : ℕ) : Type 0 where
  pub seat : IsSeatOf l s
  pub hand : s.view.hand ≡ None
  pub began : s.view.began ≡ None
  pub some : 1 ≤ count
  pub workers : first + count ≤ n
  pub inputs : n ≡ ports l.offers

-- proposals led from one view to another: nothing was claimed or found claimed
pub record ProposesFor (v w : View) : Type 0 where
  pub claims : w.claims ≡ v.claims
  pub seen : w.seen ≡ v.seen
  pub began : w.began ≡ v.began
  pub made : v.made ≤ w.made

-- claims and proposals led from one view to another: what was claimed and seen still is, and no proposal is forgotten
pub record Grows (v w : View) : Type 0 where
  pub claims : (i : ℕ) → HasClaimed v i → HasClaimed w i
  pub seen : (i : ℕ) → HasSeen v i → HasSeen w i
  pub made : v.made ≤ w.made

-- a seat of the ledger with an empty hand, which once had this view
pub record IsIdleAfter (l : LedgerState) (v : View) (s : SeatState) : Type 0 where
  pub seat : IsSeatOf l s
  pub hand : s.view.hand ≡ None
  pub grows : Grows v s.view

-- a worker's whole work on a seat that had this view: its hand is empty again, and it has tried to claim every input
pub record HasWorked (l : LedgerState) (v : View) (s : SeatState) : Type 0 where
  pub idle : IsIdleAfter l v s
  pub tried : HaveTried s.view 0 (ports l.offers)
