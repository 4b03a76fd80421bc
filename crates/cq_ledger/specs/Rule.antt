-- The rule of a ledger: what holds of its words and its views between any two steps, whichever seats made them and in
-- whatever order.
use Rattle.std.specs.Prelude.{ℕ, suc, ◌≡◌, ◌⊎◌, ◌<◌, ◌≤◌, List, length, Some, None, slice_index}
use Rattle.std.specs.List.{sum_by}
use Rattle.cq_base.specs.Limits.{most_ports}
use Rattle.cq_prefs.specs.Orders.{Orders, AreOffers, ports}
use Rattle.cq_prefs.specs.Proposals.{State, position_held, next_place, IsFree, state_after, AreEvents}
use Rattle.cq_ledger.specs.declared.view.View.{View}
use Rattle.cq_ledger.specs.Steps.{spent}
use Rattle.cq_ledger.specs.Views.{Sits, IsClaimed, IsUnclaimed, HasClaimed, HasSeen, IsClaimedByOne, Waits}

-- the claim word has the claims of the views
pub record AreClaims (o : Orders) (words : List ℕ) (views : List View) : Type 0 where
  -- an input is claimed exactly where one seat has claimed it
  pub claimed : (a i : ℕ) (v : View) → Sits views a v → HasClaimed v i → IsClaimed words i
  pub by_one : (i : ℕ) → IsClaimed words i → IsClaimedByOne views i
  pub apart : (a b i : ℕ) (v w : View) → Sits views a v → Sits views b w → HasClaimed v i → HasClaimed w i → a ≡ b
  -- and it is a port
  pub in_range : (i : ℕ) → IsClaimed words i → i < ports o
  -- what a seat has found claimed is claimed
  pub seen : (a i : ℕ) (v : View) → Sits views a v → HasSeen v i → IsClaimed words i

-- the hands have the free inputs of this state of the proposals, except those that nobody has claimed
pub record AreHands (o : Orders) (s : State) (words : List ℕ) (views : List View) : Type 0 where
  -- an input in a hand is free and claimed, and its place is where it proposes next
  pub free : (a i p : ℕ) (v : View) → Sits views a v → v.hand ≡ Some (i, p) → IsFree o s i
  pub place : (a i p : ℕ) (v : View) → Sits views a v → v.hand ≡ Some (i, p) → next_place s i ≡ p
  pub claimed : (a i p : ℕ) (v : View) → Sits views a v → v.hand ≡ Some (i, p) → IsClaimed words i
  -- it is in one hand
  pub apart : (a b i p q : ℕ) (v w : View) → Sits views a v → Sits views b w → v.hand ≡ Some (i, p) →
      w.hand ≡ Some (i, q) → a ≡ b
  -- no free input is dropped
  pub undropped : (i : ℕ) → IsFree o s i → Waits words views i

-- a view of these offers, or what is left of a seat that was joined away
abbrev pub IsViewOf : Orders → View → Type 0
IsViewOf o v = (v.offers ≡ o) ⊎ (v ≡ spent)

-- the rule: the words and the hands show a state that proposals of free inputs reach, and the seats made those
-- proposals
pub record IsLedger (o : Orders) (words : List ℕ) (views : List View) : Type 0 where
  pub offers : AreOffers o
  pub few : ports o ≤ most_ports
  pub size : length words ≡ suc (ports o)
  -- all seats have the ledger's offers
  pub same : (a : ℕ) (v : View) → Sits views a v → IsViewOf o v
  pub claims : AreClaims o words views
  pub events : List ℕ
  pub are_events : AreEvents o events
  pub positions : (j : ℕ) → j < ports o → slice_index words (suc j) ≡ position_held (state_after o events) j
  pub hands : AreHands o (state_after o events) words views
  -- an input that nobody has claimed has not proposed
  pub unclaimed : (i : ℕ) → IsUnclaimed words i → next_place (state_after o events) i ≡ 0
  pub made : sum_by (λ (v : View). v.made) views ≡ length events
  -- a seat without claims has an empty hand and made no proposal
  pub idle : (a : ℕ) (v : View) → Sits views a v → v.claims ≡ 0 → (v.hand ≡ None) × (v.made ≡ 0)
