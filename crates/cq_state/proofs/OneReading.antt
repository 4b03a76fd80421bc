-- A state's text is read in one way. The words of the kinds differ, and each ends where its first field or the line
-- ends, so a line tells its kind, and then its fields. The kinds of the table are different, so a kind is due once, and
-- a line leads to one place.
use Rattle.cq_state.proofs.Terms.{rules, ◌≡◌, ℕ, ltb, cond, List, [], ◌∷◌, ◌++◌, Option, refl, arith, append_assoc, append-nil, Kind, Line, Place, ComesAt, Comes, MayEnd, spelled, start, kinds, IsStateExact, ◌≢◌, AllByRecursion, common_steps}
use Rattle.cq_base.specs.Items.{EachPair}
use Rattle.cq_lines.specs.Lines.{ending}
use Rattle.cq_lines.proofs.Exact.{exact}
use Rattle.cq_lines.proofs.Walk.{one_line, line_is_some}
use Rattle.cq_state.proofs.Written.{line_of}

-- ## A line tells its kind

-- the letters up to the first blank or line feed
abbrev first_word : List ℕ → List ℕ
first_word [] = []
first_word (c ∷ text) = cond (ltb 32 c) (c ∷ first_word text) []

no_word : (fs : List (Option ℕ)) (more : List ℕ) → first_word (ending fs ++ more) ≡ []
no_word [] more = refl
no_word (f ∷ fs) more = refl

same_line : (x y : Line) (a b : List ℕ) → spelled x ++ a ≡ spelled y ++ b → (x ≡ y) × (a ≡ b)
same_line x y a b e = grind (arith, common_steps, append-nil, append_assoc, no_word, one_line, line_of)

-- ## A kind is due once

-- these kinds are different
abbrev AreApart : List Kind → Type 0
AreApart due = EachPair (λ j k. j ≢ k) due

comes_other : (j : Kind) (due : List Kind) (seen ports : ℕ) (x : Line) (next : Place) →
    AllByRecursion (λ k. j ≢ k) due → ComesAt due seen ports x next → j ≢ x.kind
comes_other j [] seen ports x next a c = absurd c
comes_other j (k ∷ due) seen ports x next a c = search (rules, comes_other j due 0 ports x next a.1)

one_place : (due : List Kind) (seen ports : ℕ) (x : Line) (q r : Place) → AreApart due →
    ComesAt due seen ports x q → ComesAt due seen ports x r → q ≡ r
one_place [] seen ports x q r a c d = absurd c
one_place (k ∷ due) seen ports x q r a c d = grind (arith, common_steps, comes_other, one_place due 0 ports x q r a.1)

still_apart : (due : List Kind) (seen ports : ℕ) (x : Line) (q : Place) → AreApart due →
    ComesAt due seen ports x q → AreApart q.due
still_apart [] seen ports x q a c = absurd c
still_apart (k ∷ due) seen ports x q a c = search (rules, still_apart due 0 ports x q a.1)

all_apart : AreApart kinds
all_apart = search rules

pub state_is_exact : IsStateExact
state_is_exact = exact spelled Comes (λ p. AreApart p.due)
    (search (arith, rules, same_line, one_place, still_apart, line_is_some)) start MayEnd all_apart
