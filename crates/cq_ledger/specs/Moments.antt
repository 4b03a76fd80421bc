-- A ledger between two steps, and what its rule comes to in the words of proposals.
use Rattle.std.specs.Prelude.{ℕ, suc, ◌≡◌, ◌<◌, ◌≤◌, List, length, sum, Some, slice_index, slice_set}
use Rattle.std.specs.List.{sum_by}
use Rattle.cq_prefs.specs.LeastFirst.{best}
use Rattle.cq_prefs.specs.Orders.{Orders, ports, outputs_of, place_of, position_of}
use Rattle.cq_prefs.specs.Pairing.{partner_of}
use Rattle.cq_prefs.specs.Proposals.{State, next_place, Holds, IsFree, answer_of, outcome_of, output_at, propose, state_after, AreEvents}
use Rattle.cq_ledger.specs.declared.view.View.{View}
use Rattle.cq_ledger.specs.Plays.{IsWord}
use Rattle.cq_ledger.specs.Rule.{IsLedger}
use Rattle.cq_ledger.specs.Shown.{core_state}
use Rattle.cq_ledger.specs.Steps.{proposed, words_proposed}
use Rattle.cq_ledger.specs.Views.{Sits, IsUnclaimed, IsInAHand}

-- words and views that meet the rule, and the view of one of the seats
pub record IsMoment (o : Orders) (words : List ℕ) (views : List View) (id : ℕ) (v : View) : Type 0 where
  pub rule : IsLedger o words views
  pub sits : Sits views id v
  pub offers : v.offers ≡ o

-- A proposal of input i at place p, by the seat with this view, is one event of the proposal core: the input is free in
-- the state that words and views show, they show the state after its proposal then, and the answer is what that comes
-- to.
pub record IsEvent (o : Orders) (words : List ℕ) (views : List View) (id i p : ℕ) (v : View) : Type 0 where
  pub free : IsFree o (core_state o words views) i
  pub state : core_state o (words_proposed o words i p)
      (slice_set views id (proposed v i p (slice_index words (suc (output_at o i p)))))
      ≡ propose o (core_state o words views) i
  pub outcome : answer_of o i p (slice_index words (suc (output_at o i p))) ≡ outcome_of o (core_state o words views) i

-- proposals of free inputs reach this state, and there were so many
pub record IsReachedBy (o : Orders) (s : State) (made : ℕ) : Type 0 where
  pub events : List ℕ
  pub are_events : AreEvents o events
  pub state : s ≡ state_after o events
  pub count : made ≡ length events

-- an input is in one place: in one hand, held by one output, or neither
pub record IsInOnePlace (o : Orders) (words : List ℕ) (views : List View) (s : State) (i : ℕ) : Type 0 where
  pub one_hand : (a b p q : ℕ) (v w : View) → Sits views a v → Sits views b w →
      v.hand ≡ Some (i, p) → w.hand ≡ Some (i, q) → a ≡ b
  pub held_once : (j k : ℕ) → Holds o s j i → Holds o s k i → j ≡ k
  pub not_both : (j : ℕ) → Holds o s j i → IsInAHand views i → ⊥
  pub not_unclaimed : IsUnclaimed words i → IsInAHand views i → ⊥
  pub not_unclaimed_held : (j : ℕ) → IsUnclaimed words i → Holds o s j i → ⊥

-- what words and views show that meet the rule
pub record ShowsProposals (o : Orders) (words : List ℕ) (views : List View) : Type 0 where
  -- the state is one that proposals reach, and the seats made them: as many as places were passed
  pub reached : IsReachedBy o (core_state o words views) (sum_by (λ (v : View). v.made) views)
  pub made : sum_by (λ (v : View). v.made) views ≡ sum (core_state o words views).places
  -- each output has a word that it can have
  pub word : (j : ℕ) → j < ports o → IsWord o j (slice_index words (suc j))
  pub one_place : (i : ℕ) → IsInOnePlace o words views (core_state o words views) i
  -- a hand's place is where its input proposes next, and within the input's order
  pub hand : (a i p : ℕ) (v : View) → Sits views a v → v.hand ≡ Some (i, p) →
      (next_place (core_state o words views) i ≡ p) × (p < length (outputs_of o i))
  -- an output that an input has asked holds it, or has the word of one that it prefers
  pub asked : (i j : ℕ) → j < ports o → place_of o i j < next_place (core_state o words views) i →
      slice_index words (suc j) ≤ position_of o j i
  -- no output holds one that it prefers to its partner in the matching that is best for the inputs
  pub not_passed : (i j : ℕ) → partner_of (best o) i ≡ Some j → position_of o j i ≤ slice_index words (suc j)
