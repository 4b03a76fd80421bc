-- The words `stream CONFIG` have no form of a command, and `run CONFIG` has one. More than four words have none.
use Rattle.cq_words.proofs.Terms.{rules, is_some, false, ◌≤◌, arith, ◌≡◌, ℕ, Bool, true, ◌&&◌, List, [], ◌∷◌, length, refl, ap, common_steps, Option, None, Some, if◌then◌else◌, map, codes, bytes_eq, bytes_eq-Decides, Command, command_for, is_value}
use Rattle.cq_words.specs.declared.command.Command.TheVariants.{Run}
use Rattle.cq_words.specs.Streamed.{run_of, streamed}

-- words that are not two have no configuration to stream
pub not_two : {W : Type 0} (bytes : W → List ℕ) (words : List W) → ¬ (length words ≡ 2)
    → ◌≡◌ {A = Option (List ℕ)} None (streamed (map bytes words))
not_two bytes (a ∷ b ∷ []) other = absurd (other refl)
not_two bytes _ other = refl

-- `run CONFIG` is a command where CONFIG is a value
pub runs : (config : List ℕ) → is_value config ≡ true → command_for (run_of config) ≡ Some (Run config)
runs config is = ap (λ (b : Bool). let none : Option Command = None in if b && true then Some (Run config) else none) is

-- `stream` begins no command: each test of the word computes to false
pub other : (word config : List ℕ) → bytes_eq word (codes "stream") ≡ true → command_for (word ∷ config ∷ []) ≡ None
other word config e = grind (arith, common_steps, bytes_eq-Decides)

-- more than four words are no command
pub too_many : {W : Type 0} (bytes : W → List ℕ) (words : List W) → 5 ≤ length words →
    false ≡ is_some (command_for (map bytes words))
too_many bytes (word ∷ a ∷ b ∷ c ∷ d ∷ rest) many = search (arith, rules)
too_many bytes _ many = absurd (omega arith)
