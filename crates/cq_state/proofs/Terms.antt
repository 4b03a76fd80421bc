-- The words of this crate's proofs that stand elsewhere, each passed on from its place.
pub use Rattle.cq_base.proofs.Library.{AllByRecursion, IfErr, IsTrue, List, None, Option, Result, Some, YieldsList-from_map, YieldsList-from_slice, [], add-zero, ap, append-nil, append_assoc, arith, common_steps, cond, drop, drop_more, drop_all, eqb-true, false, flat_map, flat_map-append, fill_by_all, get_or, inl, inr, items_from_extend, length, length-append, length-map, lit≤, ltb, map, on_ok_weaker, range_with_len, refl, rules, subst, suc, sym, take, take-append-drop, take_more, unwrap_or, ℕ, ⊎_elim, ⊤, ◌++◌, ◌+◌, ◌-◌, ◌<◌, ◌^◌, ◌∷◌, ◌≡◌, ◌≢◌, ◌≤◌, ◌⊎◌}
pub use Rattle.cq_base.specs.declared.cell.Transfer.{Transfer}
pub use Rattle.cq_lines.proofs.Going.{SoFar, one_line_more}
pub use Rattle.cq_lines.specs.Ranges.{InRange, Within, any_number}
pub use Rattle.cq_lines.specs.declared.range.Range.{Range}
pub use Rattle.cq_state.specs.Gather.{AreLow, added, gathered, moved_of, named_of, nothing, number_at, rank_of, seen_of, sent_of, with_shape, with_sum}
pub use Rattle.cq_state.specs.{Places.place_of, declared.kind.Kind.Kind, declared.state.Head.Head, declared.state.Named.Named, declared.state.Seen.Seen, declared.state.State.State}
pub use Rattle.cq_state.specs.State.{AreRankNumbers, IsCount, IsInRange, IsMoved, IsNamed, IsSeen, IsSent, cell_line, cell_numbers, head_lines, input_line, line_by, moved_line, numbered, numbers, parts, rank_line, sent_line, state_text}
unfoldable pub use Rattle.cq_state.specs.State.{state_lines}
pub use Rattle.cq_state.specs.StateText.{Comes, ComesAt, HasAll, HasRoom, IsStateExact, IsStateFault, IsStateText, Line, MayEnd, Place, between, cell, count, count_or_none, further, is_free, kinds, needed, ports_behind, ranges, spelled, start}
pub use Rattle.cq_state.specs.declared.kind.Kind.TheVariants.{Buffered, End, Input, Listed, Moved, Next, Rank, Sent, Shape, Sum, Version}
pub use Rattle.cq_base.proofs.Each.{all_weaker}
pub use Rattle.cq_state.specs.Refusals.{IsTooLong, longest_text}
