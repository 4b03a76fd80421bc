-- What the tables say where nothing is stated.
use Rattle.std.specs.Prelude.{ℕ, [], ◌∷◌}
use Rattle.cq_base.specs.declared.setup.ClassRow.{ClassRow}
use Rattle.cq_route.specs.declared.tables.Tables.{Tables}

-- the nanoseconds of a slot
abbrev pub default_slot_ns : ℕ
default_slot_ns = 512

-- what a class has of which nothing is stated
abbrev pub default_class_row : ClassRow
default_class_row = record { level = 0; priority = 0; cost = 1 }

-- each figure that is left out, one class, and no file, no port, no address and no rule; `Tables` says what each means
abbrev pub default_tables : Tables
default_tables = record {
  cell_bytes = 64;
  slot_ns = default_slot_ns;
  limit_bytes = 67108864;
  workers = 1;
  default_output = 0;
  default_class = 0;
  trace = [];
  log = [];
  setup = record { classes = default_class_row ∷ []; kinds = [] };
  ports = [];
  limits = [];
  addresses = [];
  rules = [];
}
