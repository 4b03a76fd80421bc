-- The words of this crate's proofs that stand elsewhere, each passed on from its place.
pub use Rattle.cq_base.proofs.Library.{Bool, IfOk-weaker, List, None, Option, Some, [], add-one, ap, arith, bytes_eq, bytes_eq-Decides, codes, common_steps, drop, drop_all, drop_more, false, fold, get_or, if◌then◌else◌, is_ascii_digit, is_some, length, list_all, map, nat_tests, option_and_then, pow-suc, refl, rules, suc, true, ℕ, ◌&&◌, ◌*◌, ◌+◌, ◌-◌, ◌<◌, ◌^◌, ◌∙◌, ◌∷◌, ◌≡◌, ◌≤◌}
pub use Rattle.clap.specs.Simple.{Shape, app_of, filled, new_shape, subcommand_of, with_index}
pub use Rattle.clap.specs.Takes.{default_passes, is_valid, level_passes, settle_passes, step_passes, takes, turn_passes}
unfoldable pub use Rattle.clap.specs.Takes.{walk_passes}
pub use Rattle.clap.specs.Walk.{Held, Rule, Text, Walk, arg_by_index, finished, first_of, idle, nothing_held, rows_after, to_positional, value}
unfoldable pub use Rattle.clap.specs.Walk.{walked}
pub use Rattle.clap.specs.Words.{App}
pub use Rattle.cq_words.specs.Line.{bare_line, captures_in, command_found, line, numbers_in, slots_in, state_in, value_rule, with_form}
pub use Rattle.cq_words.specs.{declared.command.Command.Command}
unfoldable pub use Rattle.cq_words.specs.Numbers.{value_of}
pub use Rattle.cq_words.specs.Words.{command_for, is_value, with_config}
