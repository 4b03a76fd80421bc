-- A configuration: its checks, in order, and the tables that it gives where they all hold.
use Rattle.std.specs.Prelude.{◌≡◌, ℕ, suc, ◌-◌, Bool, true, false, not, ◌&&◌, ◌==◌, if◌then◌else◌, nat_le, nat_lt, List, [], ◌∷◌, ◌++◌, codes, length, take, map, is_some, Option, None, Some, option_map, unwrap_or, Result, Ok, Err}
use Rattle.std.specs.Int.{IsInRange}
use Rattle.std.specs.List.{list_any}
use Rattle.std.specs.Str.{bytes_eq, is_utf8}
use Rattle.toml.specs.Data.{Data, Members, no_members, get_member}
use Rattle.toml.specs.Parse.{parse_document}
use Rattle.cq_base.specs.declared.setup.ClassRow.{ClassRow}
use Rattle.cq_base.specs.declared.setup.Kind.{Kind}
use Rattle.cq_base.specs.declared.setup.Kind.TheVariants.{FirstCome}
use Rattle.cq_base.specs.Limits.{level_count, longest_configuration, longest_file, most_classes, most_ports, most_workers}
use Rattle.cq_route.specs.declared.tables.PortRow.{PortRow}
use Rattle.cq_route.specs.declared.tables.AddressRow.{AddressRow}
use Rattle.cq_route.specs.declared.tables.RuleRow.{RuleRow}
use Rattle.cq_route.specs.declared.tables.Tables.{Tables}
use Rattle.cq_route.specs.Defaults.{default_class_row, default_tables}
use Rattle.cq_tables.specs.declared.version.Version.{Version}
use Rattle.cq_tables.specs.declared.version.Version.TheVariants.{One, Two}
use Rattle.cq_tables.specs.declared.refusal.Wrong.{Wrong}
use Rattle.cq_tables.specs.declared.refusal.Wrong.TheVariants.{NotToml, DuplicateAddress, DuplicateFile, NoSuchPortOrClass, TooLong}
use Rattle.cq_tables.specs.declared.figures.Figures.{Figures}
use Rattle.cq_tables.specs.declared.arrays.PortEntries.{PortEntries}
use Rattle.cq_tables.specs.declared.refusal.TableRefusal.{TableRefusal}
use Rattle.cq_tables.specs.declared.refusal.TableRefusal.TheVariants as refusal
use Rattle.cq_tables.specs.declared.place.Array.{Array}
use Rattle.cq_tables.specs.declared.place.Array.TheVariants.{Classes, Ports, Addresses, Rules}
use Rattle.cq_tables.specs.declared.place.Place.{Place}
use Rattle.cq_tables.specs.declared.place.Place.TheVariants.{Top, Element}
use Rattle.cq_tables.specs.Check.{Check, Refused, at, each, first, otherwise, unless}
use Rattle.cq_tables.specs.Place.{array_key, element_path, path}
use Rattle.cq_tables.specs.Value.{integer_in, integer_value, wide_from, wide_value, file_name, text_value, discipline, kind_value, address, address_value, array_of, elements, table_type, members}
use Rattle.cq_tables.specs.Key.{Key, key, required, optional, table_checks, found, found_or}

-- the rule, and then that what the value says meets a condition
abbrev pub and_then : {A : Type 0} → (Data → Option Wrong) → (Data → A) → (A → Bool) → Wrong → Data → Option Wrong
and_then rule value holds wrong d = otherwise (rule d) (unless (holds (value d)) wrong)

-- an integer up to the greatest that a port or a class may be numbered with, below the number of those that there are
abbrev pub number_below : ℕ → ℕ → Data → Option Wrong
number_below greatest count = and_then (integer_in 0 greatest) integer_value (λ n. nat_lt n count) NoSuchPortOrClass

-- the elements of an array that may be there
abbrev pub elements_at : Option Data → List Data
elements_at None = []
elements_at (Some d) = elements d

-- an element of an array of tables: it is a table, and has these keys
abbrev pub element_check : Array → (ℕ → Place → List Key) → ℕ → Data → Check
element_check array keys i d =
    otherwise (at (element_path array i) (table_type d)) (first (table_checks (Element array i)
    (keys i (Element array i)) (members d)))

-- an array of tables: what it may be, and the keys of its element at an index
abbrev pub array : Array → (Option Data → Option Wrong) → (ℕ → Place → List Key) → Key
array name rule keys = record {
  name = array_key name;
  check = λ d. otherwise (at (array_key name) (rule d)) (first (each (element_check name keys) 0 (elements_at d)));
}

-- ## The version

-- the version of a number that is 1 or 2
abbrev pub version_of : ℕ → Version
version_of n = if n == 2 then Two else One

-- the version that the top table states
abbrev pub version_in : Members → Version
version_in top = version_of (found_or 1 integer_value (codes "version") top)

-- ## What the rows of the arrays say

-- the level that the table of a class states: the default where it is left out, and in version 1
abbrev pub level_in : Version → Members → ℕ
level_in One table = default_class_row.level
level_in Two table = found_or default_class_row.level integer_value (codes "level") table

-- the class that a table states: the default of what is left out
abbrev pub class_row : Version → Members → ClassRow
class_row version table = record {
  level = level_in version table;
  priority = found_or default_class_row.priority wide_value (codes "priority") table;
  cost = found_or default_class_row.cost wide_value (codes "cost") table;
}

-- the files that the table of a port names: the one that it reads, if any, and the one that it writes
abbrev pub port_row : Members → PortRow
port_row table = record {
  read = found text_value (codes "read") table;
  write = found_or [] text_value (codes "write") table;
}

-- the discipline that the table of a port names: first-come where it is left out
abbrev pub port_kind : Members → Kind
port_kind table = found_or FirstCome kind_value (codes "discipline") table

-- how many cells fill the output that the table of a port is of, where it states a limit
abbrev pub port_limit : Members → Option ℕ
port_limit table = found integer_value (codes "limit") table

-- the address that a table states
abbrev pub mac_in : Members → List ℕ
mac_in table = found_or [] address_value (codes "mac") table

-- the address that a table states, with the output to which frames for it go
abbrev pub address_row : Members → AddressRow
address_row table = record {
  mac = mac_in table;
  output = found_or 0 integer_value (codes "output") table;
}

-- the rule that a table states: what a packet has to have, where that is not left out, and the class that it goes to
abbrev pub rule_row : Members → RuleRow
rule_row table = record {
  input = found integer_value (codes "input") table;
  pcp = found integer_value (codes "pcp") table;
  ether_type = found integer_value (codes "ether_type") table;
  dscp = found integer_value (codes "dscp") table;
  class = found_or 0 integer_value (codes "class") table;
}

-- ## The keys of the arrays' elements

-- the keys of a class that version 2 has beside those of version 1
abbrev pub level_keys : Version → Place → List Key
level_keys One place = []
level_keys Two place = key place (codes "level") (optional (integer_in 0 (level_count - 1))) ∷ []

-- the keys of a class: all may be left out, and the cost is at least 1
abbrev pub class_keys : Version → Place → List Key
class_keys version place =
    key place (codes "priority") (optional (wide_from 0))
    ∷ key place (codes "cost") (optional (wide_from 1))
    ∷ level_keys version place

-- the keys of a port: only the file that it writes has to be there
unfoldable pub port_keys : Place → List Key
port_keys place =
    key place (codes "read") (optional file_name)
    ∷ key place (codes "write") (required file_name)
    ∷ key place (codes "discipline") (optional discipline)
    ∷ key place (codes "limit") (optional (integer_in 1 1000000000))
    ∷ []

-- the address is none of these
abbrev pub is_new : List (List ℕ) → List ℕ → Bool
is_new earlier mac = not (list_any (bytes_eq mac) earlier)

-- the keys of an address, among so many ports: both have to be there, and the address is none of the earlier ones
abbrev pub address_keys : ℕ → List (List ℕ) → Place → List Key
address_keys ports earlier place =
    key place (codes "mac") (required (and_then address address_value (is_new earlier) DuplicateAddress))
    ∷ key place (codes "output") (required (number_below (most_ports - 1) ports))
    ∷ []

-- the keys of a rule, among so many ports and classes: only the class has to be there
unfoldable pub rule_keys : ℕ → ℕ → Place → List Key
rule_keys ports classes place =
    key place (codes "input") (optional (number_below (most_ports - 1) ports))
    ∷ key place (codes "pcp") (optional (integer_in 0 7))
    ∷ key place (codes "ether_type") (optional (integer_in 0 65535))
    ∷ key place (codes "dscp") (optional (integer_in 0 63))
    ∷ key place (codes "class") (required (number_below (most_classes - 1) classes))
    ∷ []

-- ## The top table

-- the tables of an array
abbrev pub rows_in : Array → Members → List Members
rows_in array top = map members (elements_at (get_member (array_key array) top))

-- these classes, or one with the defaults where there are none
abbrev pub or_one : List ClassRow → List ClassRow
or_one [] = default_class_row ∷ []
or_one (row ∷ rows) = row ∷ rows

-- the classes: one with the defaults where none is stated
abbrev pub class_rows : Version → Members → List ClassRow
class_rows version top = or_one (map (class_row version) (rows_in Classes top))

-- how many classes there are
abbrev pub classes_in : Members → ℕ
classes_in top = length (class_rows (version_in top) top)

-- how many ports there are
abbrev pub ports_in : Members → ℕ
ports_in top = length (rows_in Ports top)

-- the figures: one integer each
abbrev pub figure_keys : Place → List Key
figure_keys place =
    key place (codes "version") (required (integer_in 1 2))
    ∷ key place (codes "cell_bytes") (optional (integer_in 1 65535))
    ∷ key place (codes "slot_ns") (optional (integer_in 1 1000000000))
    ∷ key place (codes "limit_bytes") (optional (integer_in 24 longest_file))
    ∷ key place (codes "workers") (optional (integer_in 1 most_workers))
    ∷ key place (codes "default_output") (optional (integer_in 0 (most_ports - 1)))
    ∷ key place (codes "default_class") (optional (integer_in 0 (most_classes - 1)))
    ∷ []

-- the files of the whole run
abbrev pub file_keys : Place → List Key
file_keys place =
    key place (codes "trace") (required file_name)
    ∷ key place (codes "log") (required file_name)
    ∷ []

-- the array of classes: 1 to 16, where it is not left out
abbrev pub class_array : Version → Key
class_array version = array Classes (optional (array_of 1 most_classes)) (λ i. class_keys version)

-- the array of ports, which has to be there: 1 to 64
abbrev pub port_array : Key
port_array = array Ports (required (array_of 1 most_ports)) (λ i. port_keys)

-- the array of addresses: at most 4096, each of them unlike those before it
abbrev pub address_array : Members → Key
address_array top =
    array Addresses (optional (array_of 0 4096)) (λ i. address_keys (ports_in top)
    (take i (map mac_in (rows_in Addresses top))))

-- the array of rules: at most 256
abbrev pub rule_array : Members → Key
rule_array top = array Rules (optional (array_of 0 256)) (λ i. rule_keys (ports_in top) (classes_in top))

-- the arrays, in the order of their checks
abbrev pub array_keys : Members → List Key
array_keys top = class_array (version_in top) ∷ port_array ∷ address_array top ∷ rule_array top ∷ []

-- all keys of the top table, in the order of their checks
abbrev pub top_keys : Members → List Key
top_keys top = figure_keys Top ++ (file_keys Top ++ array_keys top)

-- ## The tables

-- the figures that the top table states, and the defaults of those that are left out
abbrev pub figures_of : Members → Figures
figures_of top = record {
  version = version_in top;
  cell_bytes = found_or default_tables.cell_bytes integer_value (codes "cell_bytes") top;
  slot_ns = found_or default_tables.slot_ns integer_value (codes "slot_ns") top;
  limit_bytes = found_or default_tables.limit_bytes integer_value (codes "limit_bytes") top;
  workers = found_or default_tables.workers integer_value (codes "workers") top;
  default_output = found_or default_tables.default_output integer_value (codes "default_output") top;
  default_class = found_or default_tables.default_class integer_value (codes "default_class") top;
}

-- those that have a range of their own are in it
pub record AreFigures (figures : Figures) : Type 0 where
  pub cell_bytes : IsInRange 1 65535 figures.cell_bytes
  pub slot_ns : IsInRange 1 1000000000 figures.slot_ns
  pub limit_bytes : IsInRange 24 longest_file figures.limit_bytes
  pub workers : IsInRange 1 most_workers figures.workers

-- the ports of the top table: of each the files, the discipline and the limit
pub record ArePortsOf (top : Members) (ports : PortEntries) : Type 0 where
  pub files : ports.files.items ≡ map port_row (rows_in Ports top)
  pub kinds : ports.kinds.items ≡ map port_kind (rows_in Ports top)
  pub limits : ports.limits.items ≡ map port_limit (rows_in Ports top)
  pub count : length ports.files.items ≡ ports_in top
  pub count_kinds : length ports.kinds.items ≡ ports_in top
  pub count_limits : length ports.limits.items ≡ ports_in top

-- the tables that the top table gives
unfoldable pub tables_of : Members → Tables
tables_of top = record {
  cell_bytes = (figures_of top).cell_bytes;
  slot_ns = (figures_of top).slot_ns;
  limit_bytes = (figures_of top).limit_bytes;
  workers = (figures_of top).workers;
  default_output = (figures_of top).default_output;
  default_class = (figures_of top).default_class;
  trace = found_or [] text_value (codes "trace") top;
  log = found_or [] text_value (codes "log") top;
  setup = record { classes = class_rows (version_in top) top; kinds = map port_kind (rows_in Ports top) };
  ports = map port_row (rows_in Ports top);
  limits = map port_limit (rows_in Ports top);
  addresses = map address_row (rows_in Addresses top);
  rules = map rule_row (rows_in Rules top);
}

-- ## What is checked across the keys

-- a key that names a port or a class which may not be there
abbrev pub is_there : List ℕ → ℕ → ℕ → Check
is_there name n count = at name (unless (nat_lt n count) NoSuchPortOrClass)

-- a file that is named, to be read or to be written
pub record Named : Type 0 where
  pub path : List ℕ
  pub file : List ℕ
  pub is_read : Bool

-- two names clash where they name one file, unless it is only read
abbrev pub clash : Named → Named → Bool
clash a b = not (b.is_read && a.is_read) && bytes_eq a.file b.file

-- a file to be written, which a key names
abbrev pub written_at : Place → List ℕ → List ℕ → Named
written_at place name file = record { path = path place name; file = file; is_read = false }

-- a file to be read, which a key names
abbrev pub read_at : Place → List ℕ → List ℕ → Named
read_at place name file = record { path = path place name; file = file; is_read = true }

-- the file that a port reads, if it names one
abbrev pub read_of : ℕ → PortRow → List Named
read_of i row = unwrap_or (option_map (λ file. read_at (Element Ports i) (codes "read") file ∷ []) row.read) []

-- the files that a port names, in order
abbrev pub names_of : ℕ → PortRow → List Named
names_of i row = read_of i row ++ (written_at (Element Ports i) (codes "write") row.write ∷ [])

-- the files that ports name, in order, the first port having this index
abbrev pub files_of : ℕ → List PortRow → List Named
files_of i [] = []
files_of i (row ∷ rows) = names_of i row ++ files_of (suc i) rows

-- all files, in order
abbrev pub files_in : Tables → List Named
files_in t = written_at Top (codes "trace") t.trace ∷ written_at Top (codes "log") t.log ∷ files_of 0 t.ports

-- each name clashes with none before it
abbrev pub apart_from : List Named → List Named → List Check
apart_from earlier [] = []
apart_from earlier (n ∷ names) =
    at n.path (unless (not (list_any (clash n) earlier)) DuplicateFile) ∷ apart_from (earlier ++ n ∷ []) names

-- the defaults of these figures are there, among so many ports and classes
abbrev pub default_checks_of : Figures → ℕ → ℕ → List Check
default_checks_of figures ports classes =
    is_there (codes "default_output") figures.default_output ports
    ∷ is_there (codes "default_class") figures.default_class classes
    ∷ []

-- the defaults are there
abbrev pub default_checks : Members → List Check
default_checks top = default_checks_of (figures_of top) (ports_in top) (classes_in top)

-- no file is named twice
abbrev pub file_check : Tables → Check
file_check t = first (apart_from [] (files_in t))

-- ## The whole text

-- the document that the text is, if it is one
unfoldable pub document : List ℕ → Option Members
document text = if is_utf8 text then parse_document text else None

-- the path of what is wrong with the whole text
abbrev pub whole : List ℕ
whole = codes "-"

-- all checks of a text, in order
abbrev pub checks_in : List ℕ → Members → List Check
checks_in text top =
    at whole (unless (nat_le (length text) longest_configuration) TooLong)
    ∷ at whole (unless (is_some (document text)) NotToml)
    ∷ table_checks Top (top_keys top) top
    ++ (default_checks top ++ (file_check (tables_of top) ∷ []))

-- the top table of the document that the text is: an empty one where it is none
abbrev pub top_of : List ℕ → Members
top_of text = unwrap_or (document text) no_members

-- the first check of a text that does not hold
abbrev pub verdict : List ℕ → Check
verdict text = first (checks_in text (top_of text))

-- the tables where the check holds, or what it refuses them for
abbrev pub judged : Check → Tables → Result Tables Refused
judged None tables = Ok tables
judged (Some refused) tables = Err refused

-- what a text is read as: the tables where each check holds, or the first check that does not
unfoldable pub read_or_refused : List ℕ → Result Tables Refused
read_or_refused text = judged (verdict text) (tables_of (top_of text))

-- why a text of which this is known gives no tables: it is refused so, or memory ran out
abbrev pub IsRefusedFor : Result Tables Refused → TableRefusal → Type 0
IsRefusedFor read (refusal.At code path) = read ≡ Err (record { code = code; path = path })
IsRefusedFor read refusal.NoMemory = Unit {0}
