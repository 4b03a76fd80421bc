-- One word after another. What was drawn, joined with what the generator still gives, is the whole list; at its end
-- nothing is left to be drawn.
use Rattle.cq_gen.proofs.Terms.{common_steps, ◌≡◌, ℕ, suc, ◌-◌, ◌≤◌, List, [], ◌∷◌, ◌++◌, length, append_assoc, arith, append-nil, length_push, first_draws, generator_of, Lcg, pcg32}
use Rattle.rand_core.specs.Steps.{first_words}

-- what is known while words are drawn
pub record Draws (seed count : ℕ) (words : List ℕ) (generator : Lcg) : Type 0 where
  pub within : length words ≤ count
  pub joins : words ++ first_words pcg32 (count - length words) generator ≡ first_draws seed count

-- the first of the words that are left goes over to those that were drawn
pub one_more : {S : Type 0} (step : S → ℕ × S) (words : List ℕ) (s t : S) (w n m : ℕ) → n ≡ suc m → (w, t) ≡ step s →
    (words ++ w ∷ []) ++ first_words step m t ≡ words ++ first_words step n s
unfolding first_words
one_more {S} step words s t w n m e drawn = grind (arith, common_steps, append_assoc)

pub draws_none : (seed count : ℕ) → Draws seed count [] (generator_of seed)
unfolding first_draws
draws_none seed count = grind (arith, common_steps)

pub draws_all : (seed count : ℕ) (words : List ℕ) (generator : Lcg) → count ≤ length words →
    Draws seed count words generator → words ≡ first_draws seed count
unfolding first_words
draws_all seed count words generator enough d = grind (arith, common_steps, append-nil)

pub ruleset draw_steps = (draws_none, length_push, one_more, draws_all)
