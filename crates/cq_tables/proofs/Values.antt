-- What values are seen as.
use Rattle.cq_tables.proofs.Terms.{rules, arith, ◌≡◌, ℕ, Bool, true, ◌&&◌, nat_lt, ◌≤◌, IfSome, Option, List, [], ◌∷◌, length, map, Some, Result, refl, ap, common_steps, result_ok, and_parts, cases_Bool, leb-true, ltb-true, IsInRange, all_ascii_digits, is_ascii_digit, list_all, digits_value, ParsesUnsigned, IsNumeralModel, numerals_by_value, tells_all_ascii_digits, parse_digits, Data, as_array, view, items_of, items_view, Value, OutOfRange, unless, listed, array_of, elements, is_from, written, not, option_map, String, Bor, Less, string_bytes, nat_list_cmp_total, find, AllByRecursion, list_any, IsStrictlySortedBy, keys_of, bytes_eq, string_cmp, members_view, Entry, is_among, least_unknown, lesser, nat_tests}
use Rattle.std.proofs.Common.{Global}

pub listed_items : (ds : List Data) → listed (items_of ds) ≡ ds
listed_items [] = refl
listed_items (d ∷ ds) = ap (λ t. d ∷ t) (listed_items ds)

pub array_view_in : (least most : ℕ) (d : Data) (vs : List Value) → as_array d ≡ Some (items_view vs) →
    array_of least most d ≡ unless (is_from least most (length vs)) OutOfRange
array_view_in least most d vs e = grind (arith, common_steps, listed_items)

pub array_view_elements : (d : Data) (vs : List Value) → as_array d ≡ Some (items_view vs) → elements d ≡ map view vs
array_view_elements d vs e = rw (e, listed_items)

-- a test of each byte is the test of the whole text
pub each_is_digit : (text : List ℕ) → list_all is_ascii_digit text ≡ all_ascii_digits text
each_is_digit [] = refl
each_is_digit (byte ∷ text) = ap (λ rest. is_ascii_digit byte && rest) (each_is_digit text)

pub whole : IsNumeralModel (λ ds. all_ascii_digits ds ≡ true) (digits_value 10)
whole = numerals_by_value _ tells_all_ascii_digits

-- what `parse` gives of a text of digits is what the text writes
pub parsed_is_written : {E : Type 0} (text : List ℕ) (r : Result ℕ E) →
    (is_from 1 39 (length text) && all_ascii_digits text) ≡ true → ParsesUnsigned 128 10 text r →
    result_ok r ≡ written text
unfolding written
parsed_is_written text r test parsed = search
    (arith, rules, parse_digits whole 128 text r parsed, and_parts, leb-true, cases_Bool, nat_lt, ltb-true)

-- a number in a range is at least its least, where there is one
pub least_of : (least most : ℕ) (n : Option ℕ) → IfSome n (IsInRange least most) → IfSome n (λ n. least ≤ n)
least_of least most n range = search (arith, rules)

-- ## The keys of a table ascend, so the least one that is not known is the first

-- texts behind references, as a test of each sees them
among_behind : (names : List (Bor (List ℕ))) (name : List ℕ) →
    list_any (λ known. bytes_eq name known.now) names ≡ is_among (map (λ known. known.now) names) name
among_behind [] name = refl
among_behind (n ∷ names) name = rw (among_behind names name)

module _ (names : List (Bor (List ℕ))) where
  abbrev pub is_unknown : String Global → Bool
  is_unknown key = not (list_any (λ known. bytes_eq (string_bytes key) known.now) names)

  -- a key before all of these is the lesser one
  lesser_first : (k : String Global) (ks : List (String Global)) → AllByRecursion (λ y. string_cmp k y ≡ Less) ks →
      lesser (string_bytes k) (option_map string_bytes (find is_unknown ks)) ≡ Some (string_bytes k)
  lesser_first k [] h = refl
  lesser_first k (y ∷ ks) h = grind
      (arith, common_steps, lesser_first k ks h.1, nat_list_cmp_total.antisymm (string_bytes y) (string_bytes k))

  pub least_is_first : (es : List Entry) → IsStrictlySortedBy string_cmp (keys_of es) →
      option_map string_bytes (find is_unknown (keys_of es))
      ≡ least_unknown (map (λ known. known.now) names) (members_view es)
  unfolding least_unknown IsStrictlySortedBy
  least_is_first [] h = refl
  least_is_first (e ∷ es) h =
      search (arith, rules, among_behind names, least_is_first es h.1, lesser_first e.0 (keys_of es) h.0)

pub ruleset elements_steps = (nat_tests, array_view_in, array_view_elements)
