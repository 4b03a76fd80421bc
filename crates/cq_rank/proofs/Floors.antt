-- Ranks of a class never fall between idle slots. A rank of the class is its floor from then on; no step lowers a
-- floor; and the next rank of the class is no less than the floor that stands then.
use Rattle.std.proofs.lemmas.Grind.{common_steps}
use Rattle.std.proofs.Common.{◌≡◌, ℕ, ◌<◌, ◌≤◌, List, [], ◌∷◌, length, arith}
use Rattle.std.proofs.lemmas.Bool.{cases_Bool, eqb-true, eq-eqb}
use Rattle.cq_rank.specs.Machine.{Machine, KeepsLaws}
use Rattle.cq_rank.specs.Steps.{Step, Given, Sent, AreOfClasses, after}

module _ (m : Machine) (laws : KeepsLaws m) where
  -- a rank of any class lowers no floor
  pub given_floor : (state : List ℕ) (c d : ℕ) → length state ≡ m.size → c < m.classes → d < m.classes →
      m.floor state d ≤ m.floor (m.given state c) d
  given_floor state c d long in_c in_d = grind (arith, common_steps, cases_Bool, eqb-true, eq-eqb)

  -- no steps lower one, and the states stay as long
  after_steps : (steps : List Step) (state : List ℕ) (c : ℕ) → length state ≡ m.size → c < m.classes →
      AreOfClasses m.classes steps →
      (length (after m steps state) ≡ m.size) × (m.floor state c ≤ m.floor (after m steps state) c)
  after_steps [] state c long in_c inside = (long, omega arith)
  after_steps (Given d ∷ steps) state c long in_c inside =
      grind (arith, common_steps, given_floor state d c, after_steps steps (m.given state d) c, laws.given_length)
  after_steps (Sent l r ∷ steps) state c long in_c inside =
      grind (arith, common_steps, laws.sent_floor state l r c, after_steps steps (m.sent state l r) c)

  pub never_fall : (c : ℕ) (steps : List Step) (state : List ℕ) → length state ≡ m.size → c < m.classes →
      AreOfClasses m.classes steps → m.ranked state c ≤ m.ranked (after m steps (m.given state c)) c
  never_fall c steps state long in_c inside =
      grind (arith, common_steps, after_steps steps (m.given state c), laws.above, laws.given_floor, laws.given_length)
