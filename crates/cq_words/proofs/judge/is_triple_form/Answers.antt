use Rattle.cq_words.proofs.Terms.{rules, ◌≡◌, Bool, false, List, ◌∷◌, [], if◌then◌else◌, Option, None, ℕ, refl, arith, common_steps, codes, is_some, bytes_eq, bytes_eq-Decides, command_for, Command}
use Rattle.cq_words.proofs.judge.is_triple_form.Goals as goal

-- a first word that is neither `soak` nor `part` begins no command of four words
no_word : (a d e : Bool) (x y : Option Command) → d ≡ false → e ≡ false
    → false ≡ is_some (if a then (if d then x else if e then y else None) else None)
no_word a d e x y f g = grind (arith, common_steps)

-- a text that is another one
other_text : (word text : List ℕ) → (word ≡ text → ⊥) → (b : Bool) → bytes_eq word text ≡ b → b ≡ false
other_text word text other b e = grind (arith, common_steps, bytes_eq-Decides)

no_three : (word first second third : List ℕ) → (word ≡ codes "soak" → ⊥) → (word ≡ codes "part" → ⊥)
    → false ≡ is_some (command_for (word ∷ first ∷ second ∷ third ∷ []))
no_three word first second third f g =
    no_word _ _ _ _ _ (other_text word (codes "soak") f _ refl) (other_text word (codes "part") g _ refl)

pub returns-in_default : goal.returns-in_default
returns-in_default c = search (arith, rules, no_three)
