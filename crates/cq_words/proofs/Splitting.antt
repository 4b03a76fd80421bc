-- `clap` splits the words of a command into the values that they are, and refuses none of them. Each form is
-- run through `clap`'s own rule of a parse. Its first word is one of the subcommands by its text, so the rest
-- goes to that subcommand. There each value goes to the next positional, which has no value yet: a value is no flag,
-- for it is not empty and begins with no dash, so nothing of it is refused.
use Rattle.cq_words.proofs.Terms.{IfOk-weaker, common_steps, arith, rules, ◌≡◌, ◌&&◌, ℕ, suc, fold, Bool, true, false, refl, List, [], ◌∷◌, Option, None, codes, is_some, if◌then◌else◌, ap, option_and_then, list_all, bytes_eq, bytes_eq-Decides, Held, Rule, Text, Walk, arg_by_index, finished, first_of, nothing_held, rows_after, to_positional, value, walked, Shape, filled, new_shape, subcommand_of, with_index, default_passes, is_valid, level_passes, settle_passes, step_passes, takes, walk_passes, command_for, is_value, with_config, captures_in, command_found, line, numbers_in, slots_in, state_in, value_rule, Command, idle, turn_passes}
use Rattle.clap.proofs.WalkLemmas.{first_value-rows}

-- ## One value

-- where a walk stands before the value of a positional
abbrev at : Held → ℕ → Walk
at held position = record { held = held; waiting = idle; position = position; is_trailing = false; stopped = None }

-- a value goes to the positional of its place
value_walked : (rules : List Rule) (held : Held) (position : ℕ) (text : Text) → is_value text ≡ true →
    walked rules [] (at held position) text ≡ to_positional rules (arg_by_index rules position) text (at held position)
    held
unfolding walked
value_walked rules held position text is = grind (arith, common_steps)

-- a value is refused only where its positional refuses it
value_taken : (shape : Shape) (held : Held) (position : ℕ) (text : Text) → is_value text ≡ true
    → turn_passes shape [] (at held position) text ≡ step_passes shape position held value
value_taken shape held position text is = grind (arith, common_steps)

-- ## The forms

-- the values of the places from one on, as `clap` fills them in
abbrev placed : ℕ → List Text → List Rule
placed place [] = []
placed place (name ∷ names) = with_index place (filled (value_rule name)) ∷ placed (suc place) names

-- a form, as `clap` builds it below the line
abbrev leaf : Text → List Rule → Shape
leaf word rules = record (new_shape word) {
  rules = rules;
  no_binary_name = true;
  disable_help_flag = true;
  disable_help_subcommand = true;
  is_built = true;
}

-- a value goes to the positional of its place, from where the walk stood
abbrev after : List Rule → Held → ℕ → Text → Walk
after rules held place text = to_positional rules (arg_by_index rules place) text (at held place) held

-- where a walk over these values ends, which go to the positionals from a place on
abbrev walked_to : List Rule → Walk → ℕ → List Text → Walk
walked_to rules w place [] = w
walked_to rules w place (v ∷ vs) = walked_to rules (after rules w.held place v) (suc place) vs

-- what a level asks at its end
abbrev end_passes : Shape → Walk → Bool
end_passes shape end = settle_passes shape.rules shape.args_override_self end.held
    && (list_all default_passes shape.rules && is_valid shape (finished shape.rules end.held) false)

-- each value goes to the place that is next, and `clap` refuses none of them
abbrev AreTaken : Text → List Rule → Walk → ℕ → List Text → Type 0
AreTaken word rules w place [] = Unit {0}
AreTaken word rules w place (v ∷ vs) =
    (w ≡ at w.held place) × (step_passes (leaf word rules) place w.held value ≡ true)
    × AreTaken word rules (after rules w.held place v) (suc place) vs

-- the words are split into what they are, and `clap` takes them
abbrev pub IsSplit : List Text → Type 0
IsSplit words = (command_found (subcommand_of line words) ≡ command_for words) × (takes line words ≡ true)

module _ (word : Text) (rules : List Rule) where
  all_walked : (w : Walk) (place : ℕ) (vs : List Text) → list_all is_value vs ≡ true → AreTaken word rules w place vs →
      (fold (walked rules []) w vs ≡ walked_to rules w place vs) × (walk_passes (leaf word rules) [] w vs ≡ true)
  unfolding walk_passes
  all_walked w place [] are taken = (refl, refl)
  all_walked w place (v ∷ vs) are taken =
      grind (arith, common_steps, value_taken, value_walked, all_walked (after rules w.held place v) (suc place) vs)

  module _ (vs : List Text) (are : list_all is_value vs ≡ true)
      (taken : AreTaken word rules (at nothing_held 1) 1 vs) where
    abbrev end : Walk
    end = walked_to rules (at nothing_held 1) 1 vs

    -- what is found under the name of a value
    found : (name : Text) → first_of name (rows_after rules [] vs) ≡ first_of name (finished rules end.held)
    found name = grind (arith, common_steps, all_walked)

    passes : end_passes (leaf word rules) end ≡ true → level_passes (leaf word rules) [] nothing_held vs false ≡ true
    passes ends = grind (arith, common_steps, all_walked)

    -- A form whose command is made of what is found under the names of its values: words that read the same as its own
    -- are split as they are, and of others the other forms are asked.
    as_form : (command : Text → (Text → Option Text) → Option Command) → end_passes (leaf word rules) end ≡ true
        → command_found (subcommand_of line (word ∷ vs)) ≡ command word (λ name. first_of name (rows_after rules [] vs))
        → command_for (word ∷ vs)
        ≡ (if list_all is_value vs then command word (λ name. first_of name (finished rules end.held)) else None)
        → takes line (word ∷ vs) ≡ (level_passes (leaf word rules) [] nothing_held vs false && true)
        → (said : Text) (x y : Option Command) → is_some (if bytes_eq said word then x else y) ≡ true →
        (is_some y ≡ true → IsSplit (said ∷ vs)) → IsSplit (said ∷ vs)
    as_form command ends splits is asks said x y h other =
        let same = ap (command word) (λ k name. found name k) in
        grind (arith, common_steps, bytes_eq-Decides, passes)

-- ## All words that are a command

-- what has the form of a command is values, and a command
command_values : (b : Bool) (x : Option Command) → is_some (if b then x else None) ≡ true →
    (b ≡ true) × (is_some x ≡ true)
command_values b x h = grind (arith, common_steps)

-- the command of one value
abbrev config_of : Text → (Text → Option Text) → Option Command
config_of word get = option_and_then (with_config word) (get (codes "CONFIG"))

-- `clap` splits the words of each command, and takes them
pub command_split : (words : List Text) → is_some (command_for words) ≡ true → IsSplit words
unfolding walked walk_passes
command_split (word ∷ v ∷ []) h =
    let vs : List Text = v ∷ [] in
    let w = command_values (list_all is_value vs) _ h in
    let config = placed 1 (codes "CONFIG" ∷ []) in
    as_form (codes "check") config vs w.0 (refl, refl, tt) config_of refl refl refl refl word _ _ w.1 (λ h.
    as_form (codes "ideal") config vs w.0 (refl, refl, tt) config_of refl refl refl refl word _ _ h (λ h.
    as_form (codes "run") config vs w.0 (refl, refl, tt) config_of refl refl refl refl word _ _ h (λ h.
    as_form (codes "audit") config vs w.0 (refl, refl, tt) config_of refl refl refl refl word _ _ h (λ bad. cc))))
command_split (word ∷ v ∷ u ∷ []) h =
    let vs : List Text = v ∷ u ∷ [] in
    let w = command_values (list_all is_value vs) _ h in
    as_form (codes "pass") (placed 1 (codes "IN" ∷ codes "OUT" ∷ [])) vs w.0 (refl, refl, (refl, refl, tt))
    (λ _ get. captures_in (get (codes "IN")) (get (codes "OUT"))) refl refl refl refl word _ _ w.1 (λ h.
    as_form (codes "resume") (placed 1 (codes "CONFIG" ∷ codes "STATE" ∷ [])) vs w.0 (refl, refl, (refl, refl, tt))
    (λ _ get. state_in (get (codes "CONFIG")) (get (codes "STATE"))) refl refl refl refl word _ _ h (λ bad. cc))
command_split (word ∷ v ∷ u ∷ t ∷ []) h =
    let vs : List Text = v ∷ u ∷ t ∷ [] in
    let w = command_values (list_all is_value vs) _ h in
    as_form (codes "soak") (placed 1 (codes "SEED" ∷ codes "PORTS" ∷ codes "SLOTS" ∷ [])) vs w.0 (search rules)
    (λ _ get. numbers_in (get (codes "SEED")) (get (codes "PORTS")) (get (codes "SLOTS"))) refl refl refl refl word _ _
    w.1 (λ h.
    as_form (codes "part") (placed 1 (codes "CONFIG" ∷ codes "SLOTS" ∷ codes "STATE" ∷ [])) vs w.0 (search rules)
    (λ _ get. slots_in (get (codes "CONFIG")) (get (codes "SLOTS")) (get (codes "STATE"))) refl refl refl refl word _
    _ h (λ bad. cc))
command_split words h = search (arith, rules)

-- ## The line is made form by form

-- what holds of all that a step gives holds of what it gave
pub ruleset line_steps = (IfOk-weaker)

-- the first text of a value is the first of its rows
pub ruleset value_steps = (first_value-rows)
