-- The document that a text is, and the verdict on it.
use Rattle.cq_tables.proofs.Terms.{rules, arith, ◌≡◌, ℕ, nat_le, ◌<◌, ◌≤◌, List, [], ◌∷◌, ◌++◌, Some, None, Result, Ok, IfErr, length, is_some, ap, ◌∙◌, sym, le-leb, common_steps, IsUtf8, cases_Bool, lt-leb, is_utf8-from_IsUtf8, IsUtf8-from_is_utf8, Members, Tables, TableRefusal, Refuses, at, first, refused, unless, NotToml, TooLong, Top, table_checks, default_checks, document, file_check, top_keys, whole, read_or_refused, IsRefusedFor, tables_of, verdict}
use Rattle.toml.specs.Parse.{parse_document}
use Rattle.cq_tables.proofs.Checks.{all_in, first_all, first_here, first_none, first_on, here, here_in, later, later_in}

pub document_some : (text : List ℕ) (top : Members) → IsUtf8 text → parse_document text ≡ Some top →
    document text ≡ Some top
unfolding document
document_some text top utf8 e = rw (is_utf8-from_IsUtf8 text utf8) e

pub document_none : (text : List ℕ) → (IsUtf8 text → parse_document text ≡ None) → document text ≡ None
unfolding document
document_none text h = grind (arith, common_steps, cases_Bool, IsUtf8-from_is_utf8)

-- the verdict decides
pub read_refused : (text : List ℕ) (r : TableRefusal) → Refuses (verdict text) r → IsRefusedFor (read_or_refused text) r
unfolding read_or_refused
read_refused text r h = search (arith, rules)

-- ---- the steps of reading: each one's answer is the answer on the text

fits : (text : List ℕ) → length text ≤ 1048576 → at whole (unless (nat_le (length text) 1048576) TooLong) ≡ None
fits text small = rw (le-leb (length text) 1048576 small)

refused_in : {A : Type 0} (r : Result A TableRefusal) (text : List ℕ) → IfErr r (Refuses (verdict text)) →
    IfErr r (IsRefusedFor (read_or_refused text))
refused_in r text h = search (rules, read_refused)

pub long_told : (text : List ℕ) (r : TableRefusal) → 1048576 < length text →
    Refuses (Some (refused whole TooLong)) r → IsRefusedFor (read_or_refused text) r
long_told text r long told = grind (arith, common_steps, nat_le, lt-leb, read_refused, first_here)

pub no_document : {A : Type 0} (text : List ℕ) (r : Result A TableRefusal) → length text ≤ 1048576 →
    IfErr r (Refuses (at whole (unless (is_some (document text)) NotToml))) →
    IfErr r (IsRefusedFor (read_or_refused text))
no_document text r small told = refused_in r text (later r _ _ (fits text small) (here r _ _ told))

-- the verdict is that of the checks which are left once the text is a document
left_of : (text : List ℕ) (top : Members) → length text ≤ 1048576 → document text ≡ Some top
    →
    verdict text
    ≡ first ((table_checks Top (top_keys top) top ++ default_checks top) ++ (file_check (tables_of top) ∷ []))
left_of text top small is = rw is (search (arith, rules, first_on, fits, is_some))

pub table_fault : {A : Type 0} (text : List ℕ) (top : Members) (r : Result A TableRefusal) → length text ≤ 1048576 →
    document text ≡ Some top
    → IfErr r (Refuses (first (table_checks Top (top_keys top) top ++ default_checks top))) →
    IfErr r (IsRefusedFor (read_or_refused text))
table_fault text top r small is told = rw (left_of text top small is) at (refused_in r text) (here_in r _ _ told)

pub file_fault : {A : Type 0} (text : List ℕ) (top : Members) (t : Tables) (r : Result A TableRefusal) →
    length text ≤ 1048576 → document text ≡ Some top
    → first (table_checks Top (top_keys top) top ++ default_checks top) ≡ None → t ≡ tables_of top →
    IfErr r (Refuses (file_check t)) → IfErr r (IsRefusedFor (read_or_refused text))
file_fault text top t r small is held value told =
    refused_in r text (rw (left_of text top small is) (later_in r _ _ held (here r _ _ (rw value at told))))

pub read_all : (text : List ℕ) (top : Members) (t : Tables) → length text ≤ 1048576 → document text ≡ Some top
    → first (table_checks Top (top_keys top) top ++ default_checks top) ≡ None → t ≡ tables_of top →
    file_check t ≡ None → read_or_refused text ≡ Ok t
unfolding read_or_refused
read_all text top t small is held value apart =
    let last : file_check (tables_of top) ≡ None = rw value at apart in
    let none : verdict text ≡ None = left_of text top small is
    ∙ all_in (table_checks Top (top_keys top) top ++ default_checks top) _ held (first_all _ _ last first_none) in
    rw (none, is) (ap Ok (sym value))
