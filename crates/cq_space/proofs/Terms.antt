-- The words of this crate's proofs that stand elsewhere, each passed on from its place.
pub use Rattle.cq_base.proofs.Library.{Bool, FinMap, Global, IfSome, List, None, Option, Some, Vec, [], add-zero, ap, append_assoc, append_known, arith, bytes_eq-Decides, common_steps, drop, drop-drop, drop_all, eq-eqb, eq_by_cmp_equiv, err_from_is_err_and, false, get, get-empty, get-insert, get-remove, get_or, get_or-append_seam, get_or-map, get_or_append_left, get_or_past, is_eq-slice_cmp, is_some, length, length-append, length-drop, length-map, length-take, ltb-false, map, map-append, map-set, map-set_same, min, nat_cmp, nat_cmp-IsAntisymmetric, nat_list_cmp_total, ne_eqb, option_map, position, position_or_len, position_or_len_is, position_or_len_push, prefix_len-le-length, refl, rules, same_map, set, set-get_or, slice_cmp, slice_cmp-IsAntisymmetric, string_bytes, sym, take, take-add, take-append-drop, take_rest, true, unwrap_or, vec_len, with_items, with_items_is, ℕ, ◌++◌, ◌+◌, ◌-◌, ◌<◌, ◌∙◌, ◌∷◌, ◌≡◌, ◌≤◌, passes_at_first, length-set, get_or-set_same, get_or-set_other}
pub use Rattle.cq_space.specs.Calls.{Calls, IsShort, one_more}
pub use Rattle.cq_space.specs.Cut.{IsReached, StaysBefore}
pub use Rattle.cq_space.specs.Entries.{Columns, IsEntryOf, IsInPlace, SaysTheSame, by_name, bytes_at, columns_of, contents_of, mode_of, name_at, same_name, with_bytes, with_read_cut, with_write_cut}
pub use Rattle.cq_space.specs.MemSpace.{MemSpace, cut_at, moved_at, told_space}
pub use Rattle.cq_space.specs.Space.{Appends, BeginsReading, Closed, Contents, IsReading, Mode, Reading, ReadsOn, Space, TakesNext, Writing, appended, read_name, replaced, written_name}
pub use Rattle.cq_space.specs.{declared.entries.Entry.Entry, declared.entries.State.State}
pub use Rattle.cq_base.proofs.Each.{position_or_len-map}
