-- What is wrong with a value, kind by kind, and what it says where nothing is.
use Rattle.std.specs.Prelude.{ℕ, ℤ, pos, negsuc, ◌+◌, ◌*◌, ◌-◌, ◌%◌, ◌^◌, Bool, false, ◌&&◌, ◌==◌, nat_le, nat_lt, if◌then◌else◌, List, [], ◌∷◌, codes, length, slice_index, is_some, Option, None, Some, option_map, option_and_then, unwrap_or}
use Rattle.std.specs.Option.{option_or}
use Rattle.std.specs.Str.{all_ascii_digits, bytes_eq}
use Rattle.std.specs.Str.Parse.{digits_value}
use Rattle.toml.specs.Data.{Data, Items, no_items, item, Members, no_members, as_str, as_integer, as_array, as_table}
use Rattle.cq_base.specs.declared.setup.Kind.{Kind}
use Rattle.cq_base.specs.declared.setup.Kind.TheVariants.{FirstCome, Priority, Fair}
use Rattle.cq_tables.specs.declared.refusal.Wrong.{Wrong}
use Rattle.cq_tables.specs.declared.refusal.Wrong.TheVariants.{WrongType, OutOfRange, BadAddress}
use Rattle.cq_tables.specs.Check.{unless}

-- a value of another type is wrong by that, and else by the rule of its type
abbrev pub typed : {A : Type 0} → Option A → (A → Option Wrong) → Option Wrong
typed None rule = Some WrongType
typed (Some x) rule = rule x

-- the number is one of those from the least to the most
abbrev pub is_from : ℕ → ℕ → ℕ → Bool
is_from least most n = nat_le least n && nat_le n most

-- the number is there, and in this range
abbrev pub is_within : ℕ → ℕ → Option ℕ → Bool
is_within least most None = false
is_within least most (Some n) = is_from least most n

-- an integer that is not below zero
abbrev pub natural : ℤ → Option ℕ
natural (pos n) = Some n
natural (negsuc n) = None

-- integers in a range
abbrev pub integer_in : ℕ → ℕ → Data → Option Wrong
integer_in least most d = typed (as_integer d) (λ z. unless (is_within least most (natural z)) OutOfRange)

-- what an integer that is not below zero says; any other value says 0
abbrev pub integer_value : Data → ℕ
integer_value d = unwrap_or (option_and_then natural (as_integer d)) 0

-- the number below 2^128 that 1 to 39 digits write
unfoldable pub written : List ℕ → Option ℕ
written text =
    if is_from 1 39 (length text) && all_ascii_digits text
    && nat_lt (digits_value 10 text) (2 ^ 128) then Some (digits_value 10 text) else None

-- an integer or a text of digits as a wide number, which is below 2^128; the inner None is one that writes no such
-- number
abbrev pub wide_number : Data → Option (Option ℕ)
wide_number d = option_or (option_map natural (as_integer d)) (option_map written (as_str d))

-- the number is there, and not below the least
abbrev pub is_at_least : ℕ → Option ℕ → Bool
is_at_least least None = false
is_at_least least (Some n) = nat_le least n

-- wide numbers from a least one on
abbrev pub wide_from : ℕ → Data → Option Wrong
wide_from least d = typed (wide_number d) (λ n. unless (is_at_least least n) OutOfRange)

-- what a wide number says; any other value says 0
abbrev pub wide_value : Data → ℕ
wide_value d = unwrap_or (unwrap_or (wide_number d) None) 0

-- texts: names of files, of 1 to 4096 bytes
abbrev pub file_name : Data → Option Wrong
file_name d = typed (as_str d) (λ text. unless (is_from 1 4096 (length text)) OutOfRange)

-- what a text says; any other value says the empty text
abbrev pub text_value : Data → List ℕ
text_value d = unwrap_or (as_str d) []

-- the disciplines that a port may have, by their names
unfoldable pub discipline_of : List ℕ → Option Kind
discipline_of text =
    if bytes_eq text (codes "first-come") then Some FirstCome
    else if bytes_eq text (codes "priority") then Some Priority
    else if bytes_eq text (codes "fair") then Some Fair
    else None

-- texts: names of disciplines
abbrev pub discipline : Data → Option Wrong
discipline d = typed (as_str d) (λ text. unless (is_some (discipline_of text)) OutOfRange)

-- the discipline that a text names; any other value says first-come
abbrev pub kind_value : Data → Kind
kind_value d = unwrap_or (discipline_of (text_value d)) FirstCome

-- the value of a hexadecimal digit, in either case
unfoldable pub hex_digit : ℕ → Option ℕ
hex_digit c =
    if is_from 48 57 c then Some (c - 48)
    else if is_from 65 70 c then Some (c - 55)
    else if is_from 97 102 c then Some (c - 87)
    else None

-- the byte of two hexadecimal digits
abbrev pub hex_pair : Option ℕ → Option ℕ → Option ℕ
hex_pair (Some high) (Some low) = Some (16 * high + low)
hex_pair _ _ = None

-- the byte of group k of an address: it has two digits, and a colon stands behind it, but not behind the last
unfoldable pub group : List ℕ → ℕ → Option ℕ
group text k =
    if (k == 5) then hex_pair (hex_digit (slice_index text (3 * k))) (hex_digit (slice_index text (3 * k + 1)))
    else if slice_index text (3 * k + 2) == 58 then hex_pair (hex_digit (slice_index text (3 * k)))
    (hex_digit (slice_index text (3 * k + 1)))
    else None

-- the second step, on what the first gives, if it gives something
infixl 10 ◌>>=◌
abbrev ◌>>=◌ : {A B : Type 0} → Option A → (A → Option B) → Option B
o >>= f = option_and_then f o

-- the address that a text of six groups writes; one whose first byte is odd is the address of a group of stations,
-- and of none
unfoldable pub address_of : List ℕ → Option (List ℕ)
address_of text = if length text == 17 then (do
  a ← group text 0
  b ← group text 1
  c ← group text 2
  d ← group text 3
  e ← group text 4
  f ← group text 5
  if a % 2 == 0 then Some (a ∷ b ∷ c ∷ d ∷ e ∷ f ∷ []) else None) else None

-- texts: addresses of one station
abbrev pub address : Data → Option Wrong
address d = typed (as_str d) (λ text. unless (is_some (address_of text)) BadAddress)

-- the address that a text writes; any other value says the empty list
abbrev pub address_value : Data → List ℕ
address_value d = unwrap_or (address_of (text_value d)) []

-- the elements of an array, as a list
abbrev pub listed : Items → List Data
listed no_items = []
listed (item d ds) = d ∷ listed ds

-- arrays that have from the least to the most elements
abbrev pub array_of : ℕ → ℕ → Data → Option Wrong
array_of least most d = typed (as_array d) (λ items. unless (is_from least most (length (listed items))) OutOfRange)

-- the elements of an array; any other value has none
abbrev pub elements : Data → List Data
elements d = listed (unwrap_or (as_array d) no_items)

-- tables
abbrev pub table_type : Data → Option Wrong
table_type d = unless (is_some (as_table d)) WrongType

-- the members of a table; any other value has none
abbrev pub members : Data → Members
members d = unwrap_or (as_table d) no_members
