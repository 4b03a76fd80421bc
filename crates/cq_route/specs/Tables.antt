-- Tables that are in range.
use Rattle.std.specs.Prelude.{ℕ, ◌≡◌, ◌≢◌, ◌<◌, ◌≤◌, List, Option, length, All, IfSome}
use Rattle.std.specs.Int.{IsInRange}
use Rattle.std.specs.List.{AllPairs}
use Rattle.cq_base.specs.Limits.{level_count, longest_file, most_classes, most_ports, most_workers}
use Rattle.cq_base.specs.declared.setup.Setup.{Setup}
use Rattle.cq_route.specs.declared.tables.Tables.{Tables}

-- the classes of a setup
abbrev pub classes_of : Setup → ℕ
classes_of setup = length setup.classes

-- the ports of a setup: each has a kind
abbrev pub ports_of : Setup → ℕ
ports_of setup = length setup.kinds

-- there are classes and ports, and not too many, each class is of one of the levels, and its cells cost something
pub record IsSetup (setup : Setup) : Type 0 where
  pub classes : IsInRange 1 most_classes (classes_of setup)
  pub ports : IsInRange 1 most_ports (ports_of setup)
  pub levels : All (λ row. row.level < level_count) setup.classes
  pub costs : All (λ row. 1 ≤ row.cost) setup.classes

-- one limit for each of so many ports, which is at least 1 where there is one
pub record AreLimits (ports : ℕ) (limits : List (Option ℕ)) : Type 0 where
  pub ports_are : length limits ≡ ports
  pub some : All (λ limit. IfSome limit (λ n. 1 ≤ n)) limits

-- each figure is in its range, each port has its row of files and its limit or none, no address stands twice, and
-- each port and class that is named is one of the setup's
pub record AreTables (t : Tables) : Type 0 where
  pub setup : IsSetup t.setup
  pub cell_bytes : IsInRange 1 65535 t.cell_bytes
  pub slot_ns : IsInRange 1 1000000000 t.slot_ns
  pub limit_bytes : IsInRange 24 longest_file t.limit_bytes
  pub workers : IsInRange 1 most_workers t.workers
  pub files : length t.ports ≡ ports_of t.setup
  pub limits : AreLimits (ports_of t.setup) t.limits
  pub default_output : t.default_output < ports_of t.setup
  pub default_class : t.default_class < classes_of t.setup
  pub addresses_differ : AllPairs (λ a b. a.mac ≢ b.mac) t.addresses
  pub outputs : All (λ row. row.output < ports_of t.setup) t.addresses
  pub inputs : All (λ row. IfSome row.input (λ input. input < ports_of t.setup)) t.rules
  pub rule_classes : All (λ row. row.class < classes_of t.setup) t.rules
