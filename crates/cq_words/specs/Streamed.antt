-- The words `stream CONFIG`, which are judged as `run CONFIG`.
use Rattle.std.specs.Prelude.{ℕ, ◌&&◌, if◌then◌else◌, List, [], ◌∷◌, Option, None, Some, codes}
use Rattle.std.specs.Option.{option_map_or}
use Rattle.std.specs.Str.{bytes_eq}
use Rattle.cq_words.specs.Words.{is_value}

-- the configuration of the words `stream CONFIG`
abbrev pub streamed : List (List ℕ) → Option (List ℕ)
streamed (word ∷ config ∷ []) = if bytes_eq word (codes "stream") && is_value config then Some config else None
streamed _ = None

-- the words `run CONFIG`
abbrev pub run_of : List ℕ → List (List ℕ)
run_of config = codes "run" ∷ config ∷ []

-- the words that are judged: `run CONFIG` for `stream CONFIG`, and all others as they are
abbrev pub as_run : List (List ℕ) → List (List ℕ)
as_run words = option_map_or run_of (streamed words) words
