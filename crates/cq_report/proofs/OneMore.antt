-- Texts of lines. In a text one line more stands behind the lines before it.
use Rattle.cq_report.proofs.Terms.{flat_map-map, common_steps, rules, ◌≡◌, ℕ, ◌+◌, ◌<◌, List, [], ◌∷◌, ◌++◌, length, take, get_or, append_assoc, arith, flat_map, append-nil, flat_map_more, take_more, length-take-le, numbered_lines}

numbered_end : {X : Type 0} (line : ℕ → X → List ℕ) (n : ℕ) (xs : List X) (x : X) (m : ℕ) → m ≡ n + length xs →
    numbered_lines line n (xs ++ x ∷ []) ≡ numbered_lines line n xs ++ line m x
numbered_end line n [] x m e = grind (arith, common_steps, append-nil)
numbered_end line n (y ∷ xs) x m e = grind (arith, common_steps, append_assoc, numbered_end line (n + 1) xs x m)

-- one numbered line more
pub numbered_more : {X : Type 0} (line : ℕ → X → List ℕ) (xs : List X) (i : ℕ) (d : X) (start old new : List ℕ) →
    i < length xs → old ≡ start ++ numbered_lines line 0 (take i xs) → new ≡ old ++ line i (get_or xs i d) →
    new ≡ start ++ numbered_lines line 0 (take (i + 1) xs)
numbered_more line xs i d start old new h o n = search (rules, length-take-le, append_assoc, take_more, numbered_end)

-- one line more, without a number
pub one_line_more : {X : Type 0} (line : X → List ℕ) (xs : List X) (i : ℕ) (d : X) (start old new : List ℕ) →
    i < length xs → old ≡ start ++ flat_map line (take i xs) → new ≡ old ++ line (get_or xs i d) →
    new ≡ start ++ flat_map line (take (i + 1) xs)
one_line_more line xs i d start old new h o n = grind (arith, common_steps, flat_map_more, take_more)

-- one line more of the items that are left
pub first_line : {X : Type 0} (line : X → List ℕ) (x : X) (left rest : List X) (old new all : List ℕ) →
    left ≡ x ∷ rest → new ≡ old ++ line x → old ++ flat_map line left ≡ all → new ++ flat_map line rest ≡ all
first_line line x left rest old new all first more so_far = grind (arith, common_steps, append_assoc)

-- where none is left all lines are there
pub no_line_left : {X : Type 0} (line : X → List ℕ) (left : List X) (text all : List ℕ) → left ≡ [] →
    text ++ flat_map line left ≡ all → text ≡ all
no_line_left line left text all none so_far = grind (arith, common_steps, append-nil)

pub ruleset left_steps = (first_line, no_line_left)

pub ruleset packed_steps = (flat_map-map)

-- ## Words that are put one behind another, each with a blank or the line feed behind it, make a line

-- what is put behind a word is put behind all
pub word_then : (start old new word rest : List ℕ) (blank : ℕ) → old ≡ start ++ (word ++ blank ∷ []) →
    new ≡ old ++ rest →
    new ≡ start ++ (word ++ blank ∷ rest)
word_then start old new word rest blank o n = grind (arith, common_steps, append_assoc)
