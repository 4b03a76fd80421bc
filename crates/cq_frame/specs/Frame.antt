-- The fields of an Ethernet frame (IEEE 802.3), as functions of its bytes.
use Rattle.std.specs.Prelude.{ℕ, ◌+◌, ◌*◌, ◌/◌, ◌%◌, ◌^◌, Bool, false, not, ◌||◌, ◌==◌, nat_le, if◌then◌else◌, List, [], ◌∷◌, length, take, find, slice_index, Option, None, Some, unwrap_or, option_and_then}
use Rattle.std.specs.Option.{option_map, option_map_or}

-- the big-endian number of the two bytes at an offset, None where the frame ends before the second
abbrev pub number_at : List ℕ → ℕ → Option ℕ
number_at bytes at =
    if nat_le (at + 2) (length bytes) then Some (256 * slice_index bytes at + slice_index bytes (at + 1)) else None

-- the types of tags (IEEE 802.1Q): a customer's, and a provider's
abbrev pub is_tag : ℕ → Bool
is_tag kind = kind == 0x8100 || kind == 0x88A8

-- whether the type of a tag stands at an offset
abbrev pub has_tag_at : List ℕ → ℕ → Bool
has_tag_at bytes at = option_map_or is_tag (number_at bytes at) false

-- the offset of the type that is read: the first of 12 and 16 at which no tag stands, or else 20
abbrev pub type_offset : List ℕ → ℕ
type_offset bytes = unwrap_or (find (λ at. not (has_tag_at bytes at)) (12 ∷ 16 ∷ [])) 20

-- the destination address: the first six bytes
unfoldable pub destination : List ℕ → Option (List ℕ)
destination bytes = if nat_le 6 (length bytes) then Some (take 6 bytes) else None

-- the priority code point of a tag at an offset (IEEE 802.1Q): the top three bits of its control field, which follows
-- its type
abbrev pub priority_at : List ℕ → ℕ → Option ℕ
priority_at bytes at =
    if has_tag_at bytes at then option_map (λ control. control / 2 ^ 13) (number_at bytes (at + 2)) else None

-- the priority code point of the outermost tag
unfoldable pub priority : List ℕ → Option ℕ
priority bytes = priority_at bytes 12

-- the type of what the frame carries
unfoldable pub ether_type : List ℕ → Option ℕ
ether_type bytes = number_at bytes (type_offset bytes)

-- the code point of differentiated services (RFC 2474) in a packet of this type, from its first two bytes: in IPv4
-- (RFC 791) the top six bits of the second; in IPv6 (RFC 8200) those of the traffic class, which is the low half of
-- the first and the high half of the second
abbrev pub code_point_of : ℕ → ℕ → ℕ → Option ℕ
code_point_of kind first second =
    if kind == 0x0800 then Some (second / 4) else (if kind == 0x86DD then Some (first % 16 * 4 + second / 64) else
    None)

-- the code point in the two bytes that follow the type at an offset, where the frame has both
abbrev pub code_point_at : List ℕ → ℕ → Option ℕ
code_point_at bytes at =
    if nat_le (at + 4) (length bytes) then option_and_then
    (λ kind. code_point_of kind (slice_index bytes (at + 2)) (slice_index bytes (at + 3))) (number_at bytes at)
    else None

-- the code point of the packet that the frame carries
unfoldable pub code_point : List ℕ → Option ℕ
code_point bytes = code_point_at bytes (type_offset bytes)
