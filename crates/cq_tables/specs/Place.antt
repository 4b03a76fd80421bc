-- Where a key stands: in the top table, or in an element of one of its arrays.
use Rattle.std.specs.Prelude.{ℕ, List, ◌++◌, codes}
use Rattle.std.specs.Fmt.{decimal}
use Rattle.cq_tables.specs.declared.place.Array.{Array}
use Rattle.cq_tables.specs.declared.place.Array.TheVariants.{Classes, Ports, Addresses, Rules}
use Rattle.cq_tables.specs.declared.place.Place.{Place}
use Rattle.cq_tables.specs.declared.place.Place.TheVariants.{Top, Element}

-- the key of an array
abbrev pub array_key : Array → List ℕ
array_key Classes = codes "class"
array_key Ports = codes "port"
array_key Addresses = codes "address"
array_key Rules = codes "rule"

-- the path of an element, as port[1]
abbrev pub element_path : Array → ℕ → List ℕ
element_path array i = array_key array ++ codes "[" ++ decimal i ++ codes "]"

-- the path of a key, as port[1].write
abbrev pub path : Place → List ℕ → List ℕ
path Top key = key
path (Element array i) key = element_path array i ++ codes "." ++ key
