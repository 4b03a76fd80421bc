-- The forms of captures (pcap file format, version 2.4): the first four bytes of a file tell in which order the bytes
-- of its numbers stand, and the unit of its subseconds.
use Rattle.std.specs.Prelude.{ℕ, List, [], ◌∷◌, take, drop, Option, Bool, true, false}
use Rattle.std.specs.List.{find}
use Rattle.std.specs.Str.{bytes_eq}
use Rattle.byteorder.specs.Endian.{big_number, big_bytes, little_number, little_bytes}
use Rattle.cq_pcap.specs.declared.form.Form.{Form}

-- the number in the first n bytes, of which the highest comes first where the flag is set
abbrev pub number_in : Bool → ℕ → List ℕ → ℕ
number_in false n bytes = little_number n bytes
number_in true n bytes = big_number n bytes

-- the n bytes of a number, in the same order
abbrev pub bytes_in : Bool → ℕ → ℕ → List ℕ
bytes_in false n x = little_bytes n x
bytes_in true n x = big_bytes n x

-- the number in the n bytes at a place
unfoldable pub number_at : Bool → ℕ → List ℕ → ℕ → ℕ
number_at big n bytes at = number_in big n (drop at bytes)

-- the nanoseconds of one subsecond
abbrev pub unit : Bool → ℕ
unit false = 1000
unit true = 1

-- the first four bytes of the files of a form, by its parts
abbrev pub magic_in : Bool → Bool → List ℕ
magic_in true false = 161 ∷ 178 ∷ 195 ∷ 212 ∷ []
magic_in false false = 212 ∷ 195 ∷ 178 ∷ 161 ∷ []
magic_in true true = 161 ∷ 178 ∷ 60 ∷ 77 ∷ []
magic_in false true = 77 ∷ 60 ∷ 178 ∷ 161 ∷ []

-- the first four bytes of the files of a form
abbrev pub magic : Form → List ℕ
magic form = magic_in form.big form.nano

-- all forms
abbrev pub forms : List Form
forms =
    record { big = true; nano = false }
    ∷ record { big = false; nano = false }
    ∷ record { big = true; nano = true }
    ∷ record { big = false; nano = true }
    ∷ []

-- the form that the first four bytes tell, if any
unfoldable pub form_at : List ℕ → Option Form
form_at bytes = find (λ form. bytes_eq (take 4 bytes) (magic form)) forms
