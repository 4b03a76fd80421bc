-- The words of this crate's proofs that stand elsewhere, each passed on from its place.
pub use Rattle.cq_base.proofs.Library.{List, None, Option, Some, [], ap, append-nil, append_assoc, arith, cases_eq, common_steps, div-mul-add, div_ceil_times, drop, drop-drop, flat_map, get_or, get_or-set_other, get_or-set_same, length, length-drop, length-map, map, on_ok_weaker, option_map, refl, replicate, rules, same_Some, set, set-get_or, suc, sym, take, take-add, take_all, take_min, true, zero, ℕ, ⊎_elim, ◌*◌, ◌++◌, ◌+◌, ◌<◌, ◌∙◌, ◌∷◌, ◌≡◌, ◌≢◌, ◌⊎◌, set-set, get_or_read, ext_get_or, length-set}
pub use Rattle.cq_reasm.specs.Joining.{IsNext, IsOtherPair, JoinerView, open_after, open_at, with_open}
pub use Rattle.cq_reasm.specs.Open.{Open, bytes_taken, cells_taken, grown, with_piece}
pub use Rattle.cq_reasm.specs.Piece.{Piece}
