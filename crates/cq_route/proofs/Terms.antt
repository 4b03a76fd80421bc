-- The words of this crate's proofs that stand elsewhere, each passed on from its place.
pub use Rattle.cq_base.proofs.Library.{All, All-push, Bool, Decides-eqb, List, None, Option, Some, [], ap, arith, be_bytes_8, bytes_eq, bytes_eq-Decides, common_steps, cond_both, drop, find, find-append, get_or, length, option_map, option_map_or, option_or, refl, rules, same_from_decides, suc, sym, take, take_all, take_more, to_be_bytes, unwrap_or, w64, ℕ, ◌++◌, ◌+◌, ◌<◌, ◌==◌, ◌∙◌, ◌∷◌, ◌≡◌}
pub use Rattle.cq_route.specs.Directory.{IsAddress, some_if}
unfoldable pub use Rattle.cq_route.specs.Directory.{IsDirectoryOf, number_of}
pub use Rattle.cq_route.specs.Route.{class_for, fields_of, is_met, is_to, output_for}
unfoldable pub use Rattle.cq_route.specs.Route.{route}
pub use Rattle.cq_route.specs.{declared.tables.AddressRow.AddressRow, declared.tables.Tables.Tables}
