-- Two texts differ in one line first. What both begin with, up to where they have no byte in common, leaves no choice:
-- of two such beginnings neither is longer, for there the texts would have a byte in common.
-- Comparing two texts byte by byte. What was the same so far stands at the front of both, and one same byte more
-- stands there too.
use Rattle.cq_audit.proofs.Terms.{common_steps, arith, ◌≡◌, ◌≢◌, ℕ, ◌+◌, List, [], ◌∷◌, ◌++◌, refl, ap, sym, ◌≤◌, length, append_assoc, rules, append_cancel_left, cases_eq}
use Rattle.cq_audit.specs.Trace.{DiffersFirst, IsTraceExact, feeds}

-- the texts have no byte in common at their front
abbrev Parted : List ℕ → List ℕ → Type 0
Parted a b = (c : ℕ) (x y : List ℕ) → a ≡ c ∷ x → b ≡ c ∷ y → ⊥

same_front : (f g left right a b : List ℕ) → f ++ left ≡ g ++ a → f ++ right ≡ g ++ b → Parted left right →
    Parted a b → f ≡ g
same_front [] [] left right a b e h parted ends = refl
same_front [] (c ∷ g) left right a b e h parted ends = absurd (parted c (g ++ a) (g ++ b) e h)
same_front (c ∷ f) [] left right a b e h parted ends = absurd (ends c (f ++ left) (f ++ right) (sym e) (sym h))
same_front (c ∷ f) (d ∷ g) left right a b e h parted ends = grind (arith, common_steps, same_front f g left right a b)

same_goes_on : (a b : List ℕ) → Parted a b → ((a ≡ []) × (b ≡ []) → ⊥) → a ≢ b
same_goes_on [] b parted goes_on e = goes_on (refl, sym e)
same_goes_on (c ∷ a) b parted goes_on e = parted c a a refl (sym e)

-- texts that both begin with f, and behind it have no byte in common, while one of them goes on
found_at : {a b : List ℕ} (f x y : List ℕ) → a ≡ f ++ x → b ≡ f ++ y → Parted x y → ((x ≡ []) × (y ≡ []) → ⊥) →
    (n : ℕ) × DiffersFirst a b n
found_at f x y e h parted on = (feeds f + 1, search (arith, rules))

-- and so where a byte stands ahead of both
behind_byte : (c d : ℕ) (a b : List ℕ) → c ≡ d → (n : ℕ) × DiffersFirst a b n →
    (n : ℕ) × DiffersFirst (c ∷ a) (d ∷ b) n
behind_byte c d a b same (n, found) = found_at (c ∷ found.front) found.left found.right
    (ap (λ xs. c ∷ xs) found.left_is) (grind (arith, common_steps, found.right_is)) found.parted found.goes_on

some_line : (a b : List ℕ) → a ≢ b → (n : ℕ) × DiffersFirst a b n
some_line (c ∷ a) (d ∷ b) apart =
    search (arith, rules, behind_byte c d a b, found_at [] (c ∷ a) (d ∷ b) refl refl, cases_eq c d, some_line a b)
some_line a b apart = found_at [] a b refl refl (search rules) (search rules)

pub trace_is_exact : IsTraceExact
trace_is_exact = grind (arith, common_steps, same_goes_on, append_cancel_left, same_front, some_line)

pub record SameSoFar (a b left right : List ℕ) (line : ℕ) : Type 0 where
  pub front : List ℕ
  pub left_is : a ≡ front ++ left
  pub right_is : b ≡ front ++ right
  pub number : line ≡ feeds front + 1
  pub low : line + length left ≤ length a + 1

feeds_more : (xs : List ℕ) (c : ℕ) → feeds (xs ++ c ∷ []) ≡ feeds xs + feeds (c ∷ [])
feeds_more [] c = omega arith
feeds_more (x ∷ xs) c = grind (arith, common_steps, feeds_more xs c)

pub one_same_more : (a b left right x y : List ℕ) (c line next bit : ℕ) → SameSoFar a b left right line →
    left ≡ c ∷ x → right ≡ c ∷ y → feeds (c ∷ []) ≡ bit → bit ≤ 1 → next ≡ line + bit → SameSoFar a b x y next
one_same_more a b left right x y c line next bit had e f is small told =
    let more = feeds_more had.front c in let size = ap length e in search (arith, rules, append_assoc)
