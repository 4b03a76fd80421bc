-- The words of this crate's proofs that stand elsewhere, each passed on from its place.
pub use Rattle.cq_base.proofs.Library.{All, List, None, Option, Some, [], ap, arith, cases_eq, common_steps, cond, cond_both, drop, find_at, get_or, get_or-set_other, get_or-set_same, get_or_default, get_or_past, is_some, length, length-map, length-set, refl, rules, set, slice_get, subst, sym, ℕ, ⊎_elim, ◌+◌, ◌<◌, ◌∙◌, ◌∷◌, ◌≡◌, ◌≢◌, ◌≤◌}
pub use Rattle.cq_base.proofs.Lists.{all_at, all_by, all_left}
pub use Rattle.cq_base.specs.Cells.{ArrivedBefore, IsBefore, first_for, put, without_first}
pub use Rattle.cq_base.specs.declared.cell.Queued.{Queued}
pub use Rattle.cq_list.specs.InputList.{Waiting, cells_of}
pub use Rattle.cq_prefs.specs.FirstCells.{FirstKeysDiffer, HasCellFor, list_of, orders_of}
pub use Rattle.cq_prefs.specs.{Orders.ports, Renewal.AreSameWithout}
pub use Rattle.cq_prefs.specs.Pairing.{IsFreeOutput, Partners, partner_of}
pub use Rattle.cq_ledger.specs.Seats.{IsSeatOf}
pub use Rattle.cq_base.proofs.Putting.{all_put}
pub use Rattle.cq_xbar.proofs.Turns.{cells-at}
pub use Rattle.cq_xbar.specs.Crossbar.{no_list}
