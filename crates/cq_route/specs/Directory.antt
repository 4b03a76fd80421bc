-- The addresses that are known, by their numbers.
use Rattle.std.specs.Prelude.{ℕ, ◌≡◌, ◌<◌, Bool, true, false, List, ◌∷◌, length, nat_eq, get_or, find, Option, None, Some, option_map}
use Rattle.std.specs.HashMap.{get}
use Rattle.std.specs.Int.{w64, from_be_bytes}
use Rattle.cq_route.specs.declared.directory.Directory.{Directory}
use Rattle.cq_route.specs.declared.tables.Tables.{Tables}
use Rattle.cq_route.specs.Route.{is_to}

-- an address: six bytes
pub record IsAddress (mac : List ℕ) : Type 0 where
  pub six : length mac ≡ 6
  pub bytes : (i : ℕ) → get_or mac i 0 < 256

-- the number that an address writes, of which the byte that is sent first weighs most
unfoldable pub number_of : List ℕ → ℕ
number_of mac = from_be_bytes w64 (0 ∷ 0 ∷ mac)

-- a value, if it is there
abbrev pub some_if : Bool → ℕ → Option ℕ
some_if true n = Some n
some_if false n = None

-- the directory has each address at the output of the first row with it, and no other
unfoldable pub IsDirectoryOf : Tables → Directory → Type 0
IsDirectoryOf t d =
    (mac : List ℕ) → IsAddress mac →
    get nat_eq d.outputs (number_of mac) ≡ option_map (λ row. row.output) (find (is_to (Some mac)) t.addresses)
