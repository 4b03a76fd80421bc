-- The tables of a switch of one port with every default.
use Rattle.std.specs.Prelude.{ℕ, List, [], ◌∷◌, None, Some}
use Rattle.cq_base.specs.declared.setup.Kind.TheVariants.{FirstCome}
use Rattle.cq_base.specs.declared.setup.Setup.{Setup}
use Rattle.cq_route.specs.declared.tables.PortRow.{PortRow}
use Rattle.cq_route.specs.declared.tables.Tables.{Tables}
use Rattle.cq_route.specs.Defaults.{default_class_row, default_tables}

-- one class, and an output that sends in the order of arrival
abbrev pub plain_setup : Setup
plain_setup = record { classes = default_class_row ∷ []; kinds = FirstCome ∷ [] }

-- the port reads one file and writes the other
abbrev pub plain_ports : List ℕ → List ℕ → List PortRow
plain_ports read write = (record { read = Some read; write = write }) ∷ []

-- every other figure has its default, no address and no rule is known, and no trace and no log is named
unfoldable pub plain_tables : List ℕ → List ℕ → Tables
plain_tables read write =
    record default_tables { setup = plain_setup; ports = plain_ports read write; limits = None ∷ [] }
