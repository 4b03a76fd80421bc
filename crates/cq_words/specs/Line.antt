-- Only proofs use this.
-- The command line as `clap` is told of it, and the command in what `clap` finds.
use Rattle.std.specs.Prelude.{◌≡◌, ℕ, true, false, List, if◌then◌else◌, Option, Some, None, codes, option_and_then, option_map}
use Rattle.std.specs.Str.{bytes_eq}
use Rattle.clap.specs.Simple.{App, app_of, new_app, new_rule, on_top, with_rule, with_subcommand}
use Rattle.clap.specs.declared.builder.command.Command.{Command as Parser}
use Rattle.clap.specs.declared.builder.command.Command.TheViews.{out-Command}
use Rattle.clap.specs.Walk.{Row, Rule, first_of}
use Rattle.cq_words.specs.Words.{numbered, parted, with_config}
use Rattle.cq_words.specs.declared.command.Command.{Command}
use Rattle.cq_words.specs.declared.command.Command.TheVariants.{Pass, Resume}

-- a value that the words must give
abbrev pub value_rule : List ℕ → Rule
value_rule name = record (new_rule name) { required = true }

-- the words stand alone, without the program's name, and `clap` adds no forms of its own
abbrev pub bare_line : App
bare_line = on_top (λ top. record top {
  no_binary_name = true;
  disable_help_flag = true;
  disable_help_subcommand = true;
}) (new_app (codes "cq_switch"))

-- a word, and one value that the words must give
abbrev pub one_form : List ℕ → List ℕ → App
one_form word value = with_rule (new_app word) (value_rule value)

-- a word and two values
abbrev pub two_form : List ℕ → List ℕ → List ℕ → App
two_form word first second = with_rule (one_form word first) (value_rule second)

-- a word and three values
abbrev pub three_form : List ℕ → List ℕ → List ℕ → List ℕ → App
three_form word first second third = with_rule (two_form word first second) (value_rule third)

-- `pass IN OUT`
abbrev pub pass_form : App
pass_form = two_form (codes "pass") (codes "IN") (codes "OUT")

-- `check CONFIG`, `ideal CONFIG`, `run CONFIG` or `audit CONFIG`
abbrev pub config_form : List ℕ → App
config_form word = one_form word (codes "CONFIG")

-- `soak SEED PORTS SLOTS`
abbrev pub soak_form : App
soak_form = three_form (codes "soak") (codes "SEED") (codes "PORTS") (codes "SLOTS")

-- `part CONFIG SLOTS STATE`
abbrev pub part_form : App
part_form = three_form (codes "part") (codes "CONFIG") (codes "SLOTS") (codes "STATE")

-- `resume CONFIG STATE`
abbrev pub resume_form : App
resume_form = two_form (codes "resume") (codes "CONFIG") (codes "STATE")

-- a form is added as a subcommand
abbrev pub with_form : App → App → App
with_form line form = with_subcommand line form.top

-- the line with the forms of a configuration alone
abbrev pub config_forms : App → App
config_forms line =
    with_form (with_form (with_form (with_form line (config_form (codes "check"))) (config_form (codes "ideal")))
    (config_form (codes "run"))) (config_form (codes "audit"))

-- the whole line: one subcommand a form
abbrev pub line : App
line =
    with_form (with_form (with_form (config_forms (with_form bare_line pass_form)) soak_form) part_form) resume_form

-- the command of `clap` is this form, and no value of it stands for other forms
abbrev pub IsForm : App → Parser → Type 0
IsForm form command = (app_of command ≡ form) × ((out-Command command).has_globals ≡ false)

-- two texts, where there are both
abbrev pub both : Option (List ℕ) → Option (List ℕ) → Option (List ℕ × List ℕ)
both (Some first) (Some second) = Some (first, second)
both _ _ = None

-- the command of IN and OUT, where there are both
abbrev pub captures_in : Option (List ℕ) → Option (List ℕ) → Option Command
captures_in from to = option_map (λ names. Pass names.0 names.1) (both from to)

-- the command of SEED, PORTS and SLOTS, where there are all
abbrev pub numbers_in : Option (List ℕ) → Option (List ℕ) → Option (List ℕ) → Option Command
numbers_in (Some seed) (Some ports) (Some slots) = numbered seed ports slots
numbers_in _ _ _ = None

-- the command of CONFIG, SLOTS and STATE, where there are all
abbrev pub slots_in : Option (List ℕ) → Option (List ℕ) → Option (List ℕ) → Option Command
slots_in (Some config) (Some slots) (Some state) = parted config slots state
slots_in _ _ _ = None

-- the command of CONFIG and STATE, where there are both
abbrev pub state_in : Option (List ℕ) → Option (List ℕ) → Option Command
state_in config state = option_map (λ names. Resume names.0 names.1) (both config state)

-- the command of a subcommand's word, with the values that `clap` found under their names
abbrev pub command_in : List ℕ → List Row → Option Command
command_in word rows =
    if bytes_eq word (codes "pass") then captures_in (first_of (codes "IN") rows) (first_of (codes "OUT") rows)
    else if bytes_eq word (codes "soak") then numbers_in (first_of (codes "SEED") rows)
    (first_of (codes "PORTS") rows) (first_of (codes "SLOTS") rows)
    else if bytes_eq word (codes "part") then slots_in (first_of (codes "CONFIG") rows)
    (first_of (codes "SLOTS") rows) (first_of (codes "STATE") rows)
    else if bytes_eq word (codes "resume") then state_in (first_of (codes "CONFIG") rows)
    (first_of (codes "STATE") rows)
    else option_and_then (with_config word) (first_of (codes "CONFIG") rows)

-- the command of what `clap` found
abbrev pub command_found : Option (List ℕ × List Row) → Option Command
command_found = option_and_then (λ found. command_in found.0 found.1)
