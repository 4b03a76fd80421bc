-- The keys of a table: a key may be required, each has a check of its own, and no table has another key.
use Rattle.std.specs.Prelude.{ℕ, Bool, if◌then◌else◌, List, ◌∷◌, map, Option, None, Some, option_map, unwrap_or}
use Rattle.std.specs.Ordering.{nat_cmp, is_lt}
use Rattle.std.specs.Cmp.Lexicographic.{slice_cmp}
use Rattle.std.specs.List.{list_any}
use Rattle.std.specs.Str.{bytes_eq}
use Rattle.toml.specs.Data.{Data, Members, no_members, member, get_member}
use Rattle.cq_tables.specs.declared.refusal.Wrong.{Wrong}
use Rattle.cq_tables.specs.declared.refusal.Wrong.TheVariants.{Missing, UnknownKey}
use Rattle.cq_tables.specs.declared.place.Place.{Place}
use Rattle.cq_tables.specs.Check.{Check, at, refused}
use Rattle.cq_tables.specs.Place.{path}

-- what is wrong with the value of a key that has to be there
abbrev pub required : (Data → Option Wrong) → Option Data → Option Wrong
required rule None = Some Missing
required rule (Some d) = rule d

-- what is wrong with the value of a key that may be left out
abbrev pub optional : (Data → Option Wrong) → Option Data → Option Wrong
optional rule None = None
optional rule (Some d) = rule d

-- the check of a key of a table by one rule
abbrev pub key_check : Place → List ℕ → (Option Data → Option Wrong) → Members → Check
key_check place name rule table = at (path place name) (rule (get_member name table))

-- a key of a table, with the check of what it holds
pub record Key : Type 0 where
  pub name : List ℕ
  pub check : Option Data → Check

-- the key at a place that is judged by one rule
abbrev pub key : Place → List ℕ → (Option Data → Option Wrong) → Key
key place name rule = record { name = name; check = λ d. at (path place name) (rule d) }

-- the text is one of these
abbrev pub is_among : List (List ℕ) → List ℕ → Bool
is_among names name = list_any (bytes_eq name) names

-- the lesser of two keys, in the order of bytes
abbrev pub lesser : List ℕ → Option (List ℕ) → Option (List ℕ)
lesser k None = Some k
lesser k (Some l) = if is_lt (slice_cmp nat_cmp l k) then Some l else Some k

-- the least key, in the order of bytes, that is none of these
unfoldable pub least_unknown : List (List ℕ) → Members → Option (List ℕ)
least_unknown names no_members = None
least_unknown names (member k d ms) =
    if is_among names k then least_unknown names ms else lesser k (least_unknown names ms)

-- a table has no key but these, or else the least other one is told
abbrev pub no_other : Place → List (List ℕ) → Members → Check
no_other place names table = option_map (λ name. refused (path place name) UnknownKey) (least_unknown names table)

-- the check of a key in a table
abbrev pub check_of : Members → Key → Check
check_of table k = k.check (get_member k.name table)

-- the checks of several keys in a table, in order
abbrev pub checks_of : Members → List Key → List Check
checks_of table keys = map (check_of table) keys

-- the checks of a table: it has no other key, and then each of its keys in order
abbrev pub table_checks : Place → List Key → Members → List Check
table_checks place keys table = no_other place (map (λ k. k.name) keys) table ∷ checks_of table keys

-- what a key holds, by what its value says
abbrev pub found : {A : Type 0} → (Data → A) → List ℕ → Members → Option A
found value name table = option_map value (get_member name table)

-- what a key holds, or the default where it is left out
abbrev pub found_or : {A : Type 0} → A → (Data → A) → List ℕ → Members → A
found_or default value name table = unwrap_or (found value name table) default
