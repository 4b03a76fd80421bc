-- Only proofs use this.
-- How entries stand for what files in memory hold of each name.
use Rattle.std.specs.Prelude.{◌≡◌, ℕ, ◌<◌, ◌≤◌, Bool, List, [], ◌∷◌, length, map, drop, slice_index_or, slice_set, string_bytes, Option, None, Some, IsSome, unwrap_or}
use Rattle.std.specs.Option.{option_map}
use Rattle.std.specs.List.{position_or_len}
use Rattle.std.specs.Ordering.{nat_cmp, eq_by_cmp}
use Rattle.std.specs.Cmp.Lexicographic.{slice_cmp}
use Rattle.std.specs.FinMap.{FinMap, empty, insert, remove}
use Rattle.cq_space.specs.Space.{Contents, Mode, Closed, Reading, Writing}
use Rattle.cq_space.specs.MemSpace.{Cuts}
use Rattle.cq_space.specs.declared.entries.Entry.{Entry}
use Rattle.cq_space.specs.declared.entries.State.{State}
use Rattle.cq_space.specs.declared.entries.State.TheVariants as state

-- whether two names are equal
abbrev pub same_name : List ℕ → List ℕ → Bool
same_name = eq_by_cmp (slice_cmp nat_cmp)

-- what the entries say, each part as a list
pub record Columns : Type 0 where
  pub names : List (List ℕ)
  pub bytes : List (Option (List ℕ))
  pub read_cuts : List (Option ℕ)
  pub write_cuts : List (Option ℕ)

-- the columns of a list of entries
abbrev pub columns_of : List Entry → Columns
columns_of es = record {
  names = map (λ e. string_bytes e.name) es;
  bytes = map (λ e. option_map (λ v. v.items) e.bytes) es;
  read_cuts = map (λ e. e.read_cut) es;
  write_cuts = map (λ e. e.write_cut) es;
}

-- the map in which the name has this value, or none
abbrev pub put : {X : Type 0} → FinMap (slice_cmp nat_cmp) X → List ℕ → Option X → FinMap (slice_cmp nat_cmp) X
put m name None = remove m name
put m name (Some x) = insert m name x

-- the map from names to values, in which the first of a name counts
abbrev pub by_name : {X : Type 0} → List (List ℕ) → List (Option X) → FinMap (slice_cmp nat_cmp) X
by_name [] values = empty
by_name (name ∷ names) [] = empty
by_name (name ∷ names) (value ∷ values) = put (by_name names values) name value

-- the contents that the columns stand for
abbrev pub contents_of : Columns → Contents
contents_of c = by_name c.names c.bytes

-- where reading each name is cut
abbrev pub read_cuts_of : Columns → Cuts
read_cuts_of c = by_name c.names c.read_cuts

-- where writing each name is cut
abbrev pub write_cuts_of : Columns → Cuts
write_cuts_of c = by_name c.names c.write_cuts

-- the first entry of the name is at i
pub record IsEntryOf (names : List (List ℕ)) (i : ℕ) (name : List ℕ) : Type 0 where
  pub there : i < length names
  pub first : position_or_len (same_name name) names ≡ i
  pub named : slice_index_or names i [] ≡ name

-- the name of the entry at i
abbrev pub name_at : Columns → ℕ → List ℕ
name_at c i = slice_index_or c.names i []

-- the bytes of the entry at i, where there is such a name
abbrev pub told_at : Columns → ℕ → Option (List ℕ)
told_at c i = slice_index_or c.bytes i None

-- the bytes of the entry at i, none where there is no such name
abbrev pub bytes_at : Columns → ℕ → List ℕ
bytes_at c i = unwrap_or (told_at c i) []

-- the mode that the open entry stands for
abbrev pub mode_of : Columns → State → Mode
mode_of c state.Shut = Closed
mode_of c (state.Reads at place) = Reading (name_at c at) (drop place (bytes_at c at))
mode_of c (state.Writes at) = Writing (name_at c at)

-- what is open is the first of its name, and the place is in its bytes
abbrev pub IsInPlace : Columns → State → Type 0
IsInPlace c state.Shut = Unit {0}
IsInPlace c (state.Reads at place) = IsEntryOf c.names at (name_at c at) × (place ≤ length (bytes_at c at))
IsInPlace c (state.Writes at) = IsEntryOf c.names at (name_at c at) × IsSome (told_at c at)

-- the columns in which the entry at i has these bytes
abbrev pub with_bytes : Columns → ℕ → List ℕ → Columns
with_bytes c i bytes = record c { bytes = slice_set c.bytes i (Some bytes) }

-- the columns in which reading the entry at i is cut there
abbrev pub with_read_cut : Columns → ℕ → ℕ → Columns
with_read_cut c i after = record c { read_cuts = slice_set c.read_cuts i (Some after) }

-- the columns in which writing the entry at i is cut there
abbrev pub with_write_cut : Columns → ℕ → ℕ → Columns
with_write_cut c i after = record c { write_cuts = slice_set c.write_cuts i (Some after) }

-- entries that say the same, of every name and in every state
pub record SaysTheSame (old new : Columns) : Type 0 where
  pub contents : contents_of new ≡ contents_of old
  pub read_cuts : read_cuts_of new ≡ read_cuts_of old
  pub write_cuts : write_cuts_of new ≡ write_cuts_of old
  pub mode : (s : State) → IsInPlace old s → mode_of new s ≡ mode_of old s
  pub in_place : (s : State) → IsInPlace old s → IsInPlace new s
