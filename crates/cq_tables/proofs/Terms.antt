-- The words of this crate's proofs that stand elsewhere, each passed on from its place.
pub use Rattle.cq_base.proofs.Library.{All, All-push, AllByRecursion, AllPairs, Bool, Bor, IfErr, IfOk, IfSome, IsInRange, IsNumeralModel, IsUtf8, IsUtf8-from_is_utf8, Less, List, None, Ok, Option, ParsesUnsigned, Result, Some, String, [], add-one, all_ascii_digits, all_pairs_push, and_parts, ap, append-nil, append_assoc, arith, bytes_eq, bytes_eq-Decides, cases_Bool, codes, common_steps, cond, cond-true, digits_value, drop, drop-cons, drop_all, false, find, get_or, get_or-map, insert_key, is_ascii_digit, is_eq, is_eq-slice_cmp, is_some, is_utf8-from_IsUtf8, keys_of, le-leb, leb-true, length, length-map, list_all, list_any, lt-leb, ltb-true, map, map-append, nat_cmp, nat_le, nat_list_cmp_total, nat_lt, nat_tests, not, not-true, numerals_by_value, option_map, or-false, parse_digits, refl, result_ok, rules, slice_cmp, string_bytes, string_cmp, suc, sym, take, take-suc, tells_all_ascii_digits, true, ℕ, ◌&&◌, ◌++◌, ◌+◌, ◌<◌, ◌||◌, ◌∙◌, ◌∷◌, ◌≡◌, ◌≢◌, ◌≤◌}
unfoldable pub use Rattle.cq_base.proofs.Library.{IsStrictlySortedBy}
pub use Rattle.std.proofs.lemmas.List.Folds.{list_any-append, list_any_at}
pub use Rattle.toml.proofs.Views.{Entry}
pub use Rattle.toml.specs.Data.{Data, Members, as_array, get_member, member, no_members}
pub use Rattle.toml.specs.View.{items_of, items_view, members_view, table_view, view}
pub use Rattle.toml.specs.declared.value.Value.{Value}
pub use Rattle.cq_route.specs.declared.tables.Tables.{Tables}
pub use Rattle.cq_tables.specs.Check.{Check, Refuses, at, otherwise, refused, unless}
unfoldable pub use Rattle.cq_tables.specs.Check.{each, first}
pub use Rattle.cq_tables.specs.Document.{IsRefusedFor, Named, address_keys, address_row, and_then, apart_from, clash, class_array, class_keys, class_row, class_rows, classes_in, default_checks, default_checks_of, element_check, elements_at, figure_keys, figures_of, file_check, files_of, is_new, mac_in, names_of, port_keys, port_kind, port_limit, port_row, ports_in, rule_keys, rule_row, tables_of, top_keys, verdict, whole}
unfoldable pub use Rattle.cq_tables.specs.Document.{document, read_or_refused}
pub use Rattle.cq_tables.specs.Key.{Key, check_of, checks_of, is_among, lesser, required, table_checks}
unfoldable pub use Rattle.cq_tables.specs.Key.{least_unknown}
pub use Rattle.cq_tables.specs.Value.{address, address_value, array_of, elements, is_from, listed, members, table_type}
unfoldable pub use Rattle.cq_tables.specs.Value.{written}
pub use Rattle.cq_tables.specs.declared.place.Array.TheVariants.{Addresses, Classes, Ports, Rules}
pub use Rattle.cq_tables.specs.{declared.place.Place.Place, declared.refusal.TableRefusal.TableRefusal}
pub use Rattle.cq_tables.specs.declared.place.Place.TheVariants.{Element, Top}
pub use Rattle.cq_tables.specs.declared.refusal.Wrong.TheVariants.{DuplicateAddress, DuplicateFile, NotToml, OutOfRange, TooLong}
pub use Rattle.cq_tables.specs.Terms.{path}
