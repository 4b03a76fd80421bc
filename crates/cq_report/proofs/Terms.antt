-- The words of this crate's proofs that stand elsewhere, each passed on from its place.
pub use Rattle.cq_base.proofs.Library.{List, [], ap, append-nil, append_assoc, arith, cases_lt, common_steps, flat_map, flat_map_more, get_or, length, length-append, length-take-le, lit≤, rules, set, slice_index_or, take, take-set_at, take-take, take_at, take_more, ℕ, ◌%◌, ◌++◌, ◌+◌, ◌-◌, ◌/◌, ◌<◌, ◌^◌, ◌∷◌, ◌≡◌, ◌≤◌, flat_map-map}
pub use Rattle.cq_base.proofs.Decimals.{decimal_more, decimal_small, length-decimal-le, length-decimal_more}
pub use Rattle.cq_base.specs.Texts.{log_line}
pub use Rattle.cq_report.specs.Report.{numbered_lines, output_line}
unfoldable pub use Rattle.cq_report.specs.Report.{input_line, limit_line, report_of, report_with}
