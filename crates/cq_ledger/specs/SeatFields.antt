-- Only proofs use this.
-- How a seat keeps what it knows.
use Rattle.std.specs.Prelude.{ℕ, ◌≡◌, ◌<◌, [], length, Option, Some}
use Rattle.cq_prefs.specs.Orders.{outputs_of}
use Rattle.cq_ledger.specs.Plays.{Seated, IsFew}

-- the numbers are those of the view, which takes no slot; the hand stands within its input's order
pub record IsSeat (me : Seated) (claims : ℕ) (hand : Option (ℕ × ℕ)) (made : ℕ) : Type 0 where
  pub claimed : me.0.claims ≡ claims
  pub in_hand : me.0.hand ≡ hand
  pub counted : me.0.made ≡ made
  pub no_slot : me.1 ≡ []
  pub placed : (i p : ℕ) → me.0.hand ≡ Some (i, p) → p < length (outputs_of me.0.offers i)
  pub few : IsFew me.0
