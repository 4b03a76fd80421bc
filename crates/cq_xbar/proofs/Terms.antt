-- The words of this crate's proofs that stand elsewhere, each passed on from its place.
pub use Rattle.cq_base.proofs.Library.{AllByRecursion, List, None, Option, Some, [], append-nil, append_assoc, arith, cases_Bool, cases_lt, common_steps, cond_both, eqb-true, ext_get_or, false, filter_map, filter_map-append, get_or, get_or-set_other, get_or_default, get_or-set_same, get_or_past, inl, inr, length, length-append, length-map, length-range_with_len, length-set, map, nat_eq, option_to_list, range_with_len, refl, rules, same_Some, set, suc, sym, zero, ℕ, ⊎_elim, ◌++◌, ◌+◌, ◌-◌, ◌<◌, ◌∙◌, ◌∷◌, ◌≡◌, ◌≢◌, ◌≤◌, ◌⊎◌}
unfoldable pub use Rattle.cq_base.proofs.Library.{IsDistinct}
pub use Rattle.cq_base.specs.Cells.{HasOtherKey, first_for, put, without_first}
pub use Rattle.cq_base.specs.{declared.cell.Queued.Queued, declared.cell.Transfer.Transfer}
pub use Rattle.cq_list.specs.InputList.{Waiting, cells_of}
pub use Rattle.cq_urgency.specs.OutputBuffer.{Buffered, cells_in}
pub use Rattle.cq_prefs.specs.FirstCells.{HasCellFor, list_of}
pub use Rattle.cq_prefs.specs.Moves.{Moves, list_taken, noted}
unfoldable pub use Rattle.cq_prefs.specs.Moves.{transfers_of}
pub use Rattle.cq_prefs.specs.Pairing.{ArePairs, IsFreeOutput, Partners, partner_of}
pub use Rattle.cq_xbar.specs.Crossbar.{HaveCells, HaveRoom, IsSameOrNext, KeysAreNew, MovesOneEach, MovesRoom, NotesOneEach, buffer_at, list_at, list_left, no_buffer, no_list, with_cell}
pub use Rattle.cq_base.proofs.Putting.{length_put}
