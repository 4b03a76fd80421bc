-- The words of this crate's proofs that stand elsewhere, each passed on from its place.
pub use Rattle.cq_base.proofs.Library.{AllByRecursion, Bool, IsPartitionPoint, IsPartitionPoint-from_clause, IsPartitionedBy, List, Some, [], ap, append_assoc, arith, cases_Bool, cases_eq, cases_lt, common_steps, cond-false, cond_both, drop, drop-append-le, drop-drop, drop-map, drop-take, drop_all, drop_more, eq-eqb, false, filter, filter-append, get_or, get_or-insert_at, get_or-insert_below, get_or-le-sum_by, get_or-map, get_or-set_other, get_or-set_same, get_or_past, get_or_read, insert, insert-append_left, insert-append_right, length, length-append, length-drop, length-insert, length-map, length-set, length-take, length_push, lt-ltb, ltb-true, map-set, ne_eqb, refl, rules, set, slice_get, slice_get-get_or, slice_get_cases, subst, suc, sum_by, sum_by-cons, sum_by-insert, sum_by_more, sum_by_push, sym, take, take-append-drop, take-append-le, take-map, take-paste, take-set, take-take, take_all, take_at, true, zero, ℕ, ◌*◌, ◌++◌, ◌+◌, ◌-◌, ◌/◌, ◌<◌, ◌==◌, ◌∙◌, ◌∷◌, ◌≡◌, ◌≢◌, ◌≤◌}
pub use Rattle.cq_base.proofs.Keys.{key_laws}
pub use Rattle.cq_base.proofs.Lists.{all_at, each_pair_at}
pub use Rattle.cq_base.specs.Cells.{HasOtherKey, IsBefore, IsRising, cushion, put}
unfoldable pub use Rattle.cq_base.specs.Key.{is_before}
pub use Rattle.cq_base.specs.{declared.cell.Queued.Queued, declared.key.Key.Key}
pub use Rattle.cq_urgency.specs.Blocks.{ArePlaced, BlocksView, ComesIn, bit, block_at, cells_in_all, counts_behind, flattened, halved, has, in_order, most_cells, times, without_first}
pub use Rattle.cq_urgency.specs.OutputBuffer.{AreBegun, AreFilled, IsSpot, starts_before}
pub use Rattle.cq_base.proofs.Putting.{after_other, before_all}
pub use Rattle.cq_base.proofs.Each.{map-insert, all_back, all_front, all_weaker, few_kept, filter_all, filter_none}
