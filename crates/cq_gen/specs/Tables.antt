-- The tables of the switch that made traffic goes through.
use Rattle.std.specs.Prelude.{ℕ, ◌+◌, ◌-◌, ◌%◌, ◌==◌, if◌then◌else◌, [], None, Some, map, replicate}
use Rattle.std.specs.List.{range_with_len}
use Rattle.cq_base.specs.declared.setup.ClassRow.{ClassRow}
use Rattle.cq_base.specs.declared.setup.Kind.{Kind}
use Rattle.cq_base.specs.declared.setup.Kind.TheVariants.{FirstCome, Priority, Fair}
use Rattle.cq_base.specs.declared.setup.Setup.{Setup}
use Rattle.cq_route.specs.declared.tables.AddressRow.{AddressRow}
use Rattle.cq_route.specs.declared.tables.PortRow.{PortRow}
use Rattle.cq_route.specs.declared.tables.RuleRow.{RuleRow}
use Rattle.cq_route.specs.declared.tables.Tables.{Tables}
use Rattle.cq_route.specs.Defaults.{default_class_row}
use Rattle.cq_route.specs.Plain.{plain_tables}
use Rattle.cq_gen.specs.Packets.{output_address}

-- the disciplines of the outputs go round
abbrev pub soak_kind : ℕ → Kind
soak_kind output = if output % 3 == 0 then FirstCome else if output % 3 == 1 then Priority else Fair

-- the greater a class, the more urgent, and the more it costs
abbrev pub soak_class : ℕ → ClassRow
soak_class class = record { level = default_class_row.level; priority = 7 - class; cost = 1 + class }

-- eight classes, and a discipline for each port
abbrev pub soak_setup : ℕ → Setup
soak_setup ports =
    record { classes = map soak_class (range_with_len 0 8); kinds = map soak_kind (range_with_len 0 ports) }

-- a port without files
abbrev pub soak_port : PortRow
soak_port = record { read = None; write = [] }

-- frames to the address of an output go there
abbrev pub soak_address : ℕ → AddressRow
soak_address output = record { mac = output_address output; output = output }

-- packets of a priority have the class with that number
abbrev pub soak_rule : ℕ → RuleRow
soak_rule class = record { input = None; pcp = Some class; ether_type = None; dscp = None; class = class }

-- the plain tables of a port without files, but that there are two workers, that the classes and ports are those
-- above, without limits, and that there is an address for each output and a rule for each priority
unfoldable pub soak_tables : ℕ → Tables
soak_tables ports = record (plain_tables [] []) {
  workers = 2;
  setup = soak_setup ports;
  ports = replicate ports soak_port;
  limits = replicate ports None;
  addresses = map soak_address (range_with_len 0 ports);
  rules = map soak_rule (range_with_len 0 8);
}
