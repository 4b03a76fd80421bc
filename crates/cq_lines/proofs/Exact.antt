-- Why a text is read in one way. At a place one line at most stands at the front, and it leads to one place. So of
-- two readings neither parts from the other: they have the same lines as long as both go on, and where one finds no
-- line that may come, or the end, so does the other.
use Rattle.cq_lines.proofs.Terms.{rules, arith, ◌≡◌, ◌≢◌, ℕ, List, [], ◌∷◌, ◌++◌, refl, sym, ◌∙◌, append_assoc, common_steps, flat_map, append-nil, Leads, IsExact}

-- At a sound place one line at most stands at the front, it leads to one place, which is sound, and it has a letter
-- at least.
pub record OneWay {P X : Type 0} (spelling : X → List ℕ) (Rule : P → X → P → Type 0) (IsSound : P →
    Type 0) : Type 0 where
  pub same : (p q r : P) (x y : X) (a b : List ℕ) → IsSound p → Rule p x q → Rule p y r →
      spelling x ++ a ≡ spelling y ++ b → (x ≡ y) × (q ≡ r) × (a ≡ b)
  pub sound : (p q : P) (x : X) → IsSound p → Rule p x q → IsSound q
  pub some : (p q : P) (x : X) (a : List ℕ) → Rule p x q → spelling x ++ a ≢ []

module _ {P X : Type 0} (spelling : X → List ℕ) (Rule : P → X → P → Type 0) (IsSound : P →
    Type 0) (way : OneWay spelling Rule IsSound) where
  abbrev NoLine : P → List ℕ → Type 0
  NoLine p rest = (x : X) (more : List ℕ) (q : P) → Rule p x q → rest ≢ spelling x ++ more

  -- two readings that both stop have the same lines, and stop at one place, with the same rest
  same_stop : (p : P) (xs ys : List X) (q r : P) (a b : List ℕ) → IsSound p → Leads Rule p xs q → Leads Rule p ys r →
      flat_map spelling xs ++ a ≡ flat_map spelling ys ++ b → NoLine q a → NoLine r b → (xs ≡ ys) × (q ≡ r) × (a ≡ b)
  same_stop p [] [] q r a b sound l m e none_a none_b = (refl, sym l ∙ m, e)
  same_stop p (x ∷ xs) (y ∷ ys) q r a b sound l m e none_a none_b =
      grind (arith, common_steps, append_assoc, same_stop l.0 xs ys q r a b (way.sound p l.0 x sound l.1) l.2)
  same_stop p _ _ q r a b sound l m e none_a none_b = grind (arith, common_steps, append_assoc)

  nothing_left : (p : P) → NoLine p []
  nothing_left p x more q step e = way.some p q x more step (sym e)

  pub exact : (start : P) (MayEnd : P → Type 0) → IsSound start → IsExact spelling Rule start MayEnd
  exact start MayEnd sound = record {
    one_reading = λ xs ys t f g. grind (arith, common_steps, same_stop start xs ys f.last g.last [] [], nothing_left);
    one_fault = search (arith, rules, same_stop);
    never_both = λ xs text n f g.
        let same = same_stop start xs g.before f.last g.last [] g.rest sound in
        grind (arith, common_steps, append-nil, nothing_left, same);
  }
