-- The words that are drawn: those of PCG32 (O'Neill 2014), made from a number.
use Rattle.std.specs.Prelude.{ℕ, ◌+◌, ◌*◌, List, slice_index}
use Rattle.rand_core.specs.Pcg32Seed.{pcg32_seed}
use Rattle.rand_core.specs.Steps.{first_words}
use Rattle.rand_pcg.specs.Lcg.{Lcg}
use Rattle.rand_pcg.specs.Pcg.{pcg32, pcg32_of_seed}

-- the generator that is made from a number
unfoldable pub generator_of : ℕ → Lcg
generator_of seed = pcg32_of_seed (pcg32_seed 16 seed)

-- its first words, of 32 bits each
unfoldable pub first_draws : ℕ → ℕ → List ℕ
first_draws seed count = first_words pcg32 count (generator_of seed)

-- the word of an input in a slot, where slot after slot draws one word for each port, in order
abbrev pub draw_for : List ℕ → ℕ → ℕ → ℕ → ℕ
draw_for words ports slot input = slice_index words (slot * ports + input)
