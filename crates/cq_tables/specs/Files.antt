-- Only proofs use this. How file names are compared port by port, in the words of the code that does it. What is
-- refused is said by `file_check` of `Document`, which does not use these.
use Rattle.std.specs.Prelude.{ℕ, Bool, true, false, not, ◌&&◌, ◌||◌, List, ◌∷◌, codes, take, option_map, unwrap_or}
use Rattle.std.specs.List.{list_any}
use Rattle.std.specs.Str.{bytes_eq}
use Rattle.cq_route.specs.declared.tables.PortRow.{PortRow}
use Rattle.cq_route.specs.declared.tables.Tables.{Tables}
use Rattle.cq_tables.specs.declared.place.Place.TheVariants.{Top}
use Rattle.cq_tables.specs.Document.{Named, files_of, written_at}

-- the files that the whole run and its first ports name
abbrev pub files_before : Tables → ℕ → List Named
files_before t i =
    written_at Top (codes "trace") t.trace ∷ written_at Top (codes "log") t.log ∷ files_of 0 (take i t.ports)

-- whether a port names the file, where that clashes
abbrev pub is_named : List ℕ → Bool → PortRow → Bool
is_named file is_read row =
    unwrap_or (option_map (λ read. not is_read && bytes_eq file read) row.read) false || bytes_eq file row.write

-- whether the whole run or one of its first ports names the file, where that clashes
abbrev pub is_taken : Tables → ℕ → List ℕ → Bool → Bool
is_taken t i file is_read =
    bytes_eq file t.trace || (bytes_eq file t.log || list_any (is_named file is_read) (take i t.ports))

-- whether the file that a port reads clashes with one that is named before it
abbrev pub read_clashes : Tables → ℕ → PortRow → Bool
read_clashes t i row = unwrap_or (option_map (λ read. is_taken t i read true) row.read) false

-- whether the file that a port writes clashes with one that is named before it
abbrev pub write_clashes : Tables → ℕ → PortRow → Bool
write_clashes t i row =
    is_taken t i row.write false || unwrap_or (option_map (λ read. bytes_eq row.write read) row.read) false
