-- Which words are a command.
use Rattle.std.specs.Prelude.{ℕ, Bool, false, not, ◌==◌, if◌then◌else◌, List, [], ◌∷◌, Option, None, Some, option_map, codes}
use Rattle.std.specs.List.{list_all}
use Rattle.std.specs.Str.{bytes_eq}
use Rattle.cq_base.specs.Limits.{most_ports, most_soak_slots}
use Rattle.cq_words.specs.Numbers.{number_from}
use Rattle.cq_words.specs.declared.command.Command.{Command}
use Rattle.cq_words.specs.declared.command.Command.TheVariants.{Pass, Check, Ideal, Run, Soak, Audit, Part, Resume}

-- a word that is a value: it is not empty and does not begin with a dash (byte 45)
abbrev pub is_value : List ℕ → Bool
is_value [] = false
is_value (byte ∷ rest) = not (byte == 45)

-- `check CONFIG`, `ideal CONFIG`, `run CONFIG` or `audit CONFIG`
abbrev pub with_config : List ℕ → List ℕ → Option Command
with_config word config =
    if bytes_eq word (codes "check") then Some (Check config)
    else if bytes_eq word (codes "ideal") then Some (Ideal config)
    else if bytes_eq word (codes "run") then Some (Run config)
    else if bytes_eq word (codes "audit") then Some (Audit config)
    else None

-- `pass IN OUT` or `resume CONFIG STATE`
abbrev pub with_two : List ℕ → List ℕ → List ℕ → Option Command
with_two word first second =
    if bytes_eq word (codes "pass") then Some (Pass first second)
    else if bytes_eq word (codes "resume") then Some (Resume first second)
    else None

-- the soak of three numbers, where each of them is one
abbrev pub soak_of : Option ℕ → Option ℕ → Option ℕ → Option Command
soak_of (Some seed) (Some ports) (Some slots) = Some (Soak seed ports slots)
soak_of _ _ _ = None

-- SEED, PORTS and SLOTS: each is in its own range
abbrev pub numbered : List ℕ → List ℕ → List ℕ → Option Command
numbered seed ports slots =
    soak_of (number_from 0 18446744073709551615 seed) (number_from 1 most_ports ports)
    (number_from 1 most_soak_slots slots)

-- the greatest number of slots after which a run can stop: 2^63 - 1
abbrev pub most_slots : ℕ
most_slots = 9223372036854775807

-- CONFIG, SLOTS and STATE
abbrev pub parted : List ℕ → List ℕ → List ℕ → Option Command
parted config slots state = option_map (λ n. Part config n state) (number_from 0 most_slots slots)

-- `soak SEED PORTS SLOTS` or `part CONFIG SLOTS STATE`
abbrev pub with_three : List ℕ → List ℕ → List ℕ → List ℕ → Option Command
with_three word first second third =
    if bytes_eq word (codes "soak") then numbered first second third
    else if bytes_eq word (codes "part") then parted first second third
    else None

-- the command of a first word and of the values after it
abbrev pub form_of : List ℕ → List (List ℕ) → Option Command
form_of word (config ∷ []) = with_config word config
form_of word (first ∷ second ∷ []) = with_two word first second
form_of word (first ∷ second ∷ third ∷ []) = with_three word first second third
form_of word _ = None

-- the command that the words are, if they are one: each word after the first is a value, and they have one of the forms
abbrev pub command_for : List (List ℕ) → Option Command
command_for [] = None
command_for (word ∷ values) = if list_all is_value values then form_of word values else None
