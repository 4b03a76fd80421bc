-- Reading a line field by field. What was read so far stands at the front of the text, and whoever reads a whole line
-- there reads the same fields first, and the rest of his line from the rest of the text. So where no field can go on,
-- no line stands there.
use Rattle.cq_lines.proofs.Terms.{common_steps, rules, ◌≡◌, ◌≢◌, ℕ, ◌+◌, ◌<◌, ◌≤◌, List, [], ◌∷◌, ◌++◌, length, map, take, drop, set, get_or, Option, None, refl, ap, sym, ◌∙◌, arith, append_assoc, length-append, length-set, append-nil, append_cancel_left, take_more_set, take_more, take_all, take-append-le, take-take, length-take, field, ending, line, EndsDigits, BeginsWith, Fits, AllFit, Within, all_back, get_or_default, recursion_from_All}
use Rattle.cq_base.specs.Texts.{line_of_words}
use Rattle.cq_lines.specs.declared.range.Range.{Range}
use Rattle.cq_lines.proofs.Spelling.{one_field}

-- fields, each behind one blank, with no end yet
abbrev pub begun : List (Option ℕ) → List ℕ
begun [] = []
begun (f ∷ fs) = 32 ∷ field f ++ begun fs

pub record ReadSoFar (text : List ℕ) (to : List (Option ℕ)) (count : ℕ) (rest : List ℕ) : Type 0 where
  pub placed : count ≤ length to
  pub spelled : text ≡ begun (take count to) ++ rest
  pub alone : (fs : List (Option ℕ)) (more : List ℕ) → text ≡ ending fs ++ more →
      (gs : List (Option ℕ)) × (fs ≡ take count to ++ gs) × (rest ≡ ending gs ++ more)

pub ending_ends : (fs : List (Option ℕ)) (more : List ℕ) → EndsDigits (ending fs ++ more)
ending_ends [] more = λ digit. omega arith
ending_ends (f ∷ fs) more = λ digit. omega arith

pub begun_more : (fs : List (Option ℕ)) (f : Option ℕ) → begun (fs ++ f ∷ []) ≡ begun fs ++ 32 ∷ field f
begun_more [] f = ap (λ t. 32 ∷ t) (append-nil (field f))
begun_more (g ∷ fs) f = grind (arith, common_steps, append_assoc, begun_more fs f)

pub ending_begun : (fs : List (Option ℕ)) (after : List ℕ) → begun fs ++ 10 ∷ after ≡ ending fs ++ after
ending_begun [] after = refl
ending_begun (f ∷ fs) after = grind (arith, common_steps, append_assoc, ending_begun fs after)

-- the next field of whoever reads a whole line, where a blank stands next
next_field : (gs : List (Option ℕ)) (rest after more : List ℕ) → rest ≡ 32 ∷ after → rest ≡ ending gs ++ more →
    (g : Option ℕ) × (hs : List (Option ℕ)) × (gs ≡ g ∷ hs) × BeginsWith after g (ending hs ++ more)
next_field [] rest after more e h = let is = ap (λ l. get_or l 0 0) (sym e ∙ h) in absurd (omega arith)
next_field (g ∷ hs) rest after more e h = grind (arith, common_steps, append_assoc, ending_ends)

pub one_read_more : (text : List ℕ) (to : List (Option ℕ)) (count : ℕ) (rest after next : List ℕ) (f : Option ℕ) →
    ReadSoFar text to count rest → count < length to → rest ≡ 32 ∷ after → BeginsWith after f next →
    ReadSoFar text (set to count f) (count + 1) next
one_read_more text to count rest after next f had room e begins =
    let taken = take_more_set to count f room in
    record {
      placed = omega (arith, length-set to count f);
      spelled = search (arith, rules, append_assoc, begun_more (take count to) f, taken);
      alone = λ fs more h.
          let w = had.alone fs more h in
          let field_next = next_field w.0 rest after more e w.2 in
          search (arith, rules, one_field after next, append_assoc, taken);
    }

-- ## No line stands there

-- there is no field behind the blank
pub no_next : (text : List ℕ) (to : List (Option ℕ)) (count : ℕ) (rest after : List ℕ) →
    ReadSoFar text to count rest → rest ≡ 32 ∷ after → ((f : Option ℕ) (next : List ℕ) → Fits f →
    BeginsWith after f next → ⊥) → (fs : List (Option ℕ)) (more : List ℕ) → AllFit fs → text ≡ ending fs ++ more → ⊥
no_next text to count rest after had e none fs more fit h =
    let w = had.alone fs more h in
    let next = next_field w.0 rest after more e w.2 in search (arith, rules, all_back Fits (take count to))

-- there is neither a blank nor a line feed
pub no_end : (text : List ℕ) (to : List (Option ℕ)) (count : ℕ) (rest : List ℕ) → ReadSoFar text to count rest →
    ((after : List ℕ) → rest ≡ 32 ∷ after → ⊥) → ((after : List ℕ) → rest ≡ 10 ∷ after → ⊥) →
    (fs : List (Option ℕ)) (more : List ℕ) → text ≡ ending fs ++ more → ⊥
no_end text to count rest had blank feed fs more h = go (had.alone fs more h).0 (had.alone fs more h).2
  where
    go : (gs : List (Option ℕ)) → rest ≡ ending gs ++ more → ⊥
    go [] e = feed more e
    go (g ∷ gs) e = blank ((field g ++ ending gs) ++ more) e

-- ## One reading

-- one text begins with one line end
pub one_ending : (fs gs : List (Option ℕ)) (x y : List ℕ) → ending fs ++ x ≡ ending gs ++ y → (fs ≡ gs) × (x ≡ y)
one_ending [] [] x y e = (refl, ap (drop 1) e)
one_ending (f ∷ fs) (g ∷ gs) x y e =
    let inner : field f ++ (ending fs ++ x) ≡ field g ++ (ending gs ++ y) = search (arith, rules, append_assoc) in
    search (arith, rules, one_field (field f ++ (ending fs ++ x)), ending_ends, one_ending fs gs x y)
one_ending _ _ x y e = absurd (cc e)

pub one_line : (word x y : List ℕ) (fs gs : List (Option ℕ)) → line word fs ++ x ≡ line word gs ++ y →
    (fs ≡ gs) × (x ≡ y)
one_line word x y fs gs e = one_ending fs gs x y (search (arith, rules, append_cancel_left, append_assoc))

-- ## Words

pub line_spelled : (word : List ℕ) (fs : List (Option ℕ)) → line word fs ≡ line_of_words (word ∷ map field fs)
line_spelled word [] = refl
line_spelled word (f ∷ fs) = ap (λ (rest : List ℕ). word ++ 32 ∷ rest) (line_spelled (field f) fs)

-- ## Writing

-- The text with what is gathered behind it is what stood there and the line as far as it goes.
pub record IsGathered (start word text bytes : List ℕ) (end : ℕ) (fs : List (Option ℕ)) : Type 0 where
  pub spelled : text ++ take end bytes ≡ (start ++ word) ++ begun fs
  pub before : take (length start) text ≡ start
  pub room : end < 128
  pub long : length bytes ≡ 128

pub gathers_on : (start word text bytes text_on bytes_on : List ℕ) (end at end_on : ℕ) (fs : List (Option ℕ)) (i : ℕ)
    (d : Option ℕ) → i < length fs → IsGathered start word text bytes end (take i fs) →
    text_on ++ take at bytes ≡ text ++ take end bytes → take (length text) text_on ≡ text →
    take end_on bytes_on ≡ take at bytes ++ 32 ∷ field (get_or fs i d) → end_on < 128 → length bytes_on ≡ 128 →
    IsGathered start word text_on bytes_on end_on (take (i + 1) fs)
gathers_on start word text bytes text_on bytes_on end at end_on fs i d inside had same begins put room long =
    grind (arith, common_steps, begun_more, append_assoc, take_more, length-take, take-take)

-- ## Within ranges

-- what is within ranges fits
pub within_fits : (ranges : List Range) (further : ℕ) (fs : List (Option ℕ)) → Within ranges further fs → AllFit fs
within_fits ranges further fs within = recursion_from_All Fits fs (λ i d inside.
    grind (arith, common_steps, get_or_default fs i d None inside, within.each i inside))

pub line_is_some : (word : List ℕ) (fs : List (Option ℕ)) (more : List ℕ) → line word fs ++ more ≢ []
line_is_some [] [] more e = cc
line_is_some _ _ more e = cc

pub ruleset number_steps = (length-append, length-take, take-take, append_assoc, take-append-le, take_all)

pub ruleset put_steps = (gathers_on, length-take, take-take)
