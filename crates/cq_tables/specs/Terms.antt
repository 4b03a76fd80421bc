-- The terms of this crate's clauses, each passed on from where it is defined.
pub use Rattle.toml.specs.Data.{get_member, Members}
pub use Rattle.toml.specs.View.{view, table_view}
pub use Rattle.cq_base.specs.Limits.{level_count, most_classes, most_ports}
pub use Rattle.cq_route.specs.Tables.{AreTables}
pub use Rattle.cq_tables.specs.Check.{Refuses, each, first, at, unless, code_of, refused}
pub use Rattle.cq_tables.specs.Document.{address_keys, address_row, and_then, element_check, is_new, mac_in, class_keys, class_row, port_keys, port_kind, port_limit, port_row, rule_keys, rule_row, elements_at, number_below, AreFigures, figure_keys, figures_of, apart_from, file_check, names_of, class_array, class_rows, IsRefusedFor, default_checks, default_checks_of, document, is_there, read_or_refused, tables_of, top_keys, whole, level_in, level_keys, ArePortsOf, address_array, classes_in, port_array, ports_in, rows_in, rule_array, version_in, version_of}
pub use Rattle.cq_tables.specs.Files.{files_before, is_named, read_clashes, write_clashes}
pub use Rattle.cq_tables.specs.Key.{key_check, required, table_checks, found, found_or, optional, checks_of, least_unknown, no_other, check_of}
pub use Rattle.cq_tables.specs.Place.{path, array_key, element_path}
pub use Rattle.cq_tables.specs.Value.{address, address_value, members, array_of, discipline, file_name, integer_in, integer_value, kind_value, text_value, wide_from, wide_value, table_type, is_from, address_of, discipline_of, elements, group, hex_digit, natural, written}
pub use Rattle.cq_tables.specs.declared.refusal.Wrong.TheVariants.{DuplicateAddress}
pub use Rattle.cq_tables.specs.declared.version.Version.TheVariants.{One, Two}
