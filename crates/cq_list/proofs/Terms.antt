-- The words of this crate's proofs that stand elsewhere, each passed on from its place.
pub use Rattle.cq_base.proofs.Library.{AllByRecursion, Bool, List, None, Option, Some, [], and_assoc, ap, append-nil, append_assoc, arith, cases_Bool, cases_eq, cases_lt, common_steps, concat, concat-append, cond, cond_both, drop, drop-drop, drop_all, drop_more, eq-eqb, eqb, eqb-false, eqb-true, ext_get_or, false, filter, filter-append, find_at, get_or, get_or-insert_at, get_or-insert_below, get_or-le-sum_by, get_or-map, get_or-replicate, get_or-set_other, get_or-set_same, get_or_from_slice_get, get_or_past, get_or_read, insert, insert-append_left, insert-append_right, insert_end, is_some, le-ltb, length, length-append, length-drop, length-insert, length-map, length-remove, length-replicate, length-set, length-take, length-take-le, lt-ltb, ltb, ltb-true, map, min, nat_tests, ne_eqb, none-some, not, not-true, position, position_or_len, refl, remove, remove-append_left, remove-append_right, replicate, rules, same_Some, set, set-get_or, set_past, slice_get, slice_get-get_or, slice_get-map, slice_get_cases, slice_get_within, subst, suc, sum_by-replicate, sum_by-set, sym, take, take-append-add, take-append-drop, take-append-le, take-map, take-set, take-set-le, take-take, take_all, take_more, true, zero, ℕ, ⊎_elim, ◌&&◌, ◌||◌, ◌*◌, ◌++◌, ◌+◌, ◌-◌, ◌/◌, ◌<◌, ◌^◌, ◌∙◌, ◌∷◌, ◌≡◌, ◌≢◌, ◌≤◌, ◌⊎◌}
pub use Rattle.cq_base.proofs.Keys.{key_laws}
pub use Rattle.cq_base.proofs.Lists.{all_at, all_insert, all_left, each_pair_left, first_here, first_inside, first_later, first_le, keeps_order_arrival, keys_differ_insert, taken_none}
pub use Rattle.cq_base.specs.Cells.{HasOtherKey, IsBefore, IsRising, KeepsOrder, MoreUrgentAhead, first_for, has_id, is_for, place_of_arrival, put, with_arrival, without_first}
pub use Rattle.cq_base.specs.Limits.{most_ports}
pub use Rattle.cq_list.specs.Block.{most_places}
pub use Rattle.cq_base.specs.{Key.is_before, declared.cell.Queued.Queued, declared.key.Key.Key}
pub use Rattle.slab.specs.Slab.{Slab, Updates, get, slab_len}
pub use Rattle.cq_list.specs.InputList.{AreWaiting, StandFor, Waiting, cells_in}
pub use Rattle.cq_list.specs.Places.{AreFilled, HaveMemory, IsAhead, IsSpot, PlacesView, joined, least_places, pulled}
pub use Rattle.cq_list.specs.Fingers.{AreFingers, AreSet, AreShifted, EndsAt, IsShifted, finger_at}
pub use Rattle.cq_list.specs.Pool.{AreLinked, HaveFingers, IsChained, IsHead, IsLinked, IsPool, LeadsTowards, Nodes, OthersStay, PoolView, behind_first, cells, cells_in_queues, chain, followed, linked, no_queue, places, queue_at, queue_of}
pub use Rattle.cq_list.specs.Split.{IsSplit, Queues, count_of, is_output, merged, place_of_nth, without_head}
pub use Rattle.cq_list.specs.{declared.fingers.Ahead.Ahead, declared.pool.Node.Node, declared.pool.Queue.Queue}
pub use Rattle.cq_base.proofs.Each.{all_back, all_filter, all_weaker, map-insert, position_or_len-map, few_kept}
pub use Rattle.cq_base.proofs.Putting.{after_other, all_put, rising_put}
