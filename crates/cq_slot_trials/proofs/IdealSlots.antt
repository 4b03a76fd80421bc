-- What follows where a slot of the ideal switch had no fault, and it is known what became of its arrivals.
use Rattle.cq_slot_trials.proofs.Terms.{arith, common_steps, ◌≡◌, ℕ, Result, List, Option, IfOk, OnOk, Cell, Machine, Marked, answer_to, LimitedSent, ideal_admission, limited_slot}
use Rattle.cq_base.specs.declared.cell.TagFault.{TagFault}
use Rattle.cq_ideal.specs.IdealSlot.{IdealState}

module _ (limits : List (Option ℕ)) (ms : List Machine) (slot : ℕ) (cells : List (Option Cell)) (old : Marked
    IdealState) where
  pub after_slot : (answer : Result (Unit {0}) TagFault) (P : LimitedSent → Type 0) (Q : Type 0) →
      answer ≡ answer_to (limited_slot limits ms slot cells old) → IfOk (limited_slot limits ms slot cells old) P →
      ((sent : LimitedSent) → sent.admission ≡ ideal_admission limits cells old → P sent → Q) → OnOk answer Q
  unfolding limited_slot
  after_slot answer P Q e p follows =
      grind (arith, common_steps, follows)
