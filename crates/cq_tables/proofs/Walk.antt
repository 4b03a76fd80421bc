-- A walk over the elements of an array: what is checked and read so far, and what is left to check.
use Rattle.cq_tables.proofs.Terms.{common_steps, rules, ◌≡◌, ℕ, suc, ◌+◌, ◌<◌, ◌≤◌, List, [], ◌∷◌, ◌++◌, length, get_or, take, drop, map, None, Result, IfErr, All, refl, ap, ◌∙◌, sym, arith, add-one, drop_all, map-append, All-push, drop-cons, take-suc, Data, Members, view, Value, TableRefusal, Check, Refuses, first, each, members, ◌≢◌, Bool, true, false, ◌||◌, Option, Some, nat_cmp, slice_cmp, AllPairs, list_any, list_any-append, list_any_at, length-map, get_or-map, is_eq, insert_key, bytes_eq, not-true, is_eq-slice_cmp, bytes_eq-Decides, all_pairs_push, DuplicateAddress, Addresses, address_keys, address_row, and_then, element_check, is_new, mac_in, required, address, address_value, not, codes, append_assoc, append-nil, or-false, Tables, DuplicateFile, Ports, Element, at, otherwise, unless, path, Named, apart_from, clash, file_check, files_of, names_of}
use Rattle.cq_tables.proofs.Checks.{first_none, first_on, here, first-append, here_in}
use Rattle.cq_route.specs.declared.tables.AddressRow.{AddressRow}
use Rattle.cq_route.specs.declared.tables.PortRow.{PortRow}
use Rattle.cq_tables.specs.Files.{files_before, is_named, read_clashes, write_clashes}

-- the checks from an element on are its own and those from the next one on
each_drop : (check : ℕ → Data → Check) (vs : List Value) (i n : ℕ) (d : Value) → i < length vs →
    each check n (map view (drop i vs))
    ≡ check n (view (get_or vs i d)) ∷ each check (suc n) (map view (drop (suc i) vs))
unfolding each
each_drop check vs i n d h = rw (drop-cons vs i d)

-- where no element is left to check, all hold
pub walk_holds : (check : ℕ → Data → Check) (vs : List Value) (i : ℕ) →
    first (each check 0 (map view vs)) ≡ first (each check i (map view (drop i vs))) → length vs ≤ i →
    first (each check 0 (map view vs)) ≡ None
unfolding each
walk_holds check vs i so_far past = grind (arith, common_steps, drop_all, first_none)

module _ {A : Type 0} where
  abbrev pub rows_of : (Members → A) → List Value → List A
  rows_of row vs = map row (map members (map view vs))

  rows_more : (row : Members → A) (vs : List Value) (i : ℕ) (d : Value) → i < length vs →
      rows_of row (take (suc i) vs) ≡ rows_of row (take i vs) ++ row (members (view (get_or vs i d))) ∷ []
  rows_more row vs i d h = grind (arith, common_steps, take-suc, map-append)

  -- the first i elements hold what is checked of them, and are read as these rows, of which P holds
  pub record Walked (check : ℕ → Data → Check) (row : Members → A) (P : A → Type 0) (vs : List Value) (i : ℕ)
      (rows : List A) : Type 0 where
    pub checked : first (each check 0 (map view vs)) ≡ first (each check i (map view (drop i vs)))
    pub read : rows ≡ rows_of row (take i vs)
    pub kept : All P rows

  pub walked_none : (check : ℕ → Data → Check) (row : Members → A) (P : A → Type 0) (vs : List Value) →
      Walked check row P vs 0 []
  walked_none check row P vs = record { checked = refl; read = refl; kept = λ k d h. absurd (omega arith) }

  module _ {check : ℕ → Data → Check} {row : Members → A} {P : A → Type 0} {vs : List Value} {i : ℕ} {rows : List A}
      (w : Walked check row P vs i rows) where
    pub walked_more : {after : List A} (v : Value) {x : A} → i < length vs → v ≡ get_or vs i v
        → check i (view v) ≡ None → x ≡ row (members (view v)) → P x → after ≡ rows ++ x ∷ [] →
        Walked check row P vs (i + 1) after
    walked_more v {x} small is held reads p pushed =
        search (arith, rules, add-one, each_drop check vs i i v small, first_on, rows_more, All-push P)

    pub walked_stop : {B : Type 0} (r : Result B TableRefusal) (v : Value) → i < length vs → v ≡ get_or vs i v
        → IfErr r (Refuses (check i (view v))) → IfErr r (Refuses (first (each check 0 (map view vs))))
    walked_stop r v small is told = rw (w.checked, each_drop check vs i i v small) (here r _ _ (rw (sym is) told))

    pub walked_read : length vs ≤ i → rows ≡ rows_of row vs
    walked_read past = grind (arith, common_steps)

-- ## Addresses that are known: a set of them has those of the rows so far, and they differ

-- whether the address is one of these
abbrev pub has : List (List ℕ) → List ℕ → Bool
has macs mac = list_any (bytes_eq mac) macs

-- as the set looks an address up
pub set_has : (mac : List ℕ) (macs : List (List ℕ)) →
    list_any (λ x. is_eq (slice_cmp nat_cmp mac x)) macs ≡ has macs mac
set_has mac macs = search (arith, rules, is_eq-slice_cmp mac)

-- one more address in a set
pub has-insert : (macs : List (List ℕ)) (mac q : List ℕ) →
    has (insert_key (slice_cmp nat_cmp) macs mac) q ≡ (bytes_eq q mac || has macs q)
has-insert [] mac q = refl
has-insert (x ∷ xs) mac q =
    grind (arith, common_steps, bytes_eq-Decides mac x, is_eq-slice_cmp mac x, has-insert xs mac q)

-- an address is a new one by what is known alone
mac_same : (a b : List (List ℕ)) → ((q : List ℕ) → has a q ≡ has b q) → (d : Option Data) →
    required (and_then address address_value (is_new a) DuplicateAddress) d
    ≡ required (and_then address address_value (is_new b) DuplicateAddress) d
mac_same a b same None = refl
mac_same a b same (Some d) = rw (same (address_value d))

abbrev pub macs_of : List Value → List (List ℕ)
macs_of vs = map mac_in (map members (map view vs))

abbrev pub address_check : ℕ → List Value → ℕ → Data → Check
address_check ports vs = element_check Addresses (λ i. address_keys ports (take i (macs_of vs)))

-- ---- the walk over the addresses

abbrev pub mac : AddressRow → List ℕ
mac row = row.mac

-- what a set has is what the rows have
abbrev pub AreKnown : List (List ℕ) → List AddressRow → Type 0
AreKnown known rows = (q : List ℕ) → has known q ≡ has (map mac rows) q

take_macs : (vs : List Value) (i : ℕ) → map mac (rows_of address_row (take i vs)) ≡ take i (macs_of vs)
take_macs (v ∷ vs) (suc i) = ap (λ t. mac_in (members (view v)) ∷ t) (take_macs vs i)
take_macs vs i = grind (arith, common_steps)

others : (rows : List AddressRow) (q : List ℕ) → has (map mac rows) q ≡ false → (k : ℕ) (d : AddressRow) →
    k < length rows → (get_or rows k d).mac ≢ q
others rows q h k d small same = search
    (arith, rules, list_any_at (bytes_eq q) (map mac rows) k d.mac, length-map, get_or-map, bytes_eq-Decides q)

pub record Walked_apart (ports : ℕ) (vs : List Value) (i : ℕ) (known : List (List ℕ)) (rows : List AddressRow) : Type
    0 where
  pub walked : Walked (address_check ports vs) address_row (λ row. row.output < ports) vs i rows
  pub knows : AreKnown known rows
  pub differ : AllPairs (λ a b. a.mac ≢ b.mac) rows

same_at : (ports i : ℕ) (vs : List Value) (d : Data) (known : List (List ℕ)) (rows : List AddressRow) →
    Walked_apart ports vs i known rows
    → element_check Addresses (λ _. address_keys ports known) i d ≡ address_check ports vs i d
same_at ports i vs d known rows w = search (arith, rules, take_macs, mac_same)

module _ {ports : ℕ} {vs : List Value} {i : ℕ} {known : List (List ℕ)} {rows : List AddressRow}
    (w : Walked_apart ports vs i known rows) where
  pub apart_more : {known_after : List (List ℕ)} {after : List AddressRow} (v : Value) {row : AddressRow} →
      i < length vs → v ≡ get_or vs i v → element_check Addresses (λ _. address_keys ports known) i (view v) ≡ None →
      row ≡ address_row (members (view v)) → row.output < ports → is_new known row.mac ≡ true
      → ((q : List ℕ) → has known_after q ≡ (bytes_eq q row.mac || has known q)) → after ≡ rows ++ row ∷ [] →
      Walked_apart ports vs (i + 1) known_after after
  apart_more v {row} small is held reads below fresh added pushed =
      let walked = walked_more w.walked v small is (sym (same_at ports i vs (view v) known rows w) ∙ held) reads below
      pushed in
      let pairs = all_pairs_push (λ (a b : AddressRow). a.mac ≢ b.mac) in
      search (arith, rules, walked, list_any-append, map-append, pairs, others, w.knows, not-true)

  pub apart_stop : {B : Type 0} (r : Result B TableRefusal) (v : Value) → i < length vs → v ≡ get_or vs i v
      → IfErr r (Refuses (element_check Addresses (λ _. address_keys ports known) i (view v))) →
      IfErr r (Refuses (first (each (address_check ports vs) 0 (map view vs))))
  apart_stop r v small is told =
      grind (arith, common_steps, same_at ports i vs (view v) known rows w, walked_stop w.walked r v small is)

-- ## The names of files, port by port

-- a name clashes with those of the ports that name its file
named_among : (n : Named) (i : ℕ) (rows : List PortRow) →
    list_any (clash n) (files_of i rows) ≡ list_any (is_named n.file n.is_read) rows
named_among n i [] = refl
named_among n i (row ∷ rows) = grind (arith, common_steps, list_any-append, or-false, named_among n (suc i) rows)

-- as the code asks it
pub taken : (t : Tables) (i : ℕ) (n : Named) →
    (bytes_eq n.file t.trace || (bytes_eq n.file t.log || list_any (is_named n.file n.is_read) (take i t.ports)))
    ≡ list_any (clash n) (files_before t i)
taken t i n = rw (named_among n 0 (take i t.ports))

-- ---- the walk over the ports

files_take : (rows : List PortRow) (i n m : ℕ) (d : PortRow) → m ≡ n + i → i < length rows →
    files_of n (take (suc i) rows) ≡ files_of n (take i rows) ++ names_of m (get_or rows i d)
files_take [] i n m d e h = absurd (omega arith)
files_take (row ∷ rows) i n m d e h = grind (arith, common_steps, append-nil, append_assoc, files_take rows)

-- the names of the first i ports clash with none before them
abbrev pub Apart : Tables → ℕ → Type 0
Apart t i = file_check t ≡ first (apart_from (files_before t i) (files_of i (drop i t.ports)))

port_step : (t : Tables) (i : ℕ) (row : PortRow) → i < length t.ports → row ≡ get_or t.ports i row →
    apart_from (files_before t i) (files_of i (drop i t.ports))
    ≡ apart_from (files_before t i) (names_of i row)
    ++ apart_from (files_before t (suc i)) (files_of (suc i) (drop (suc i) t.ports))
port_step t i row small is = grind (arith, common_steps, files_take, drop-cons, append-nil, append_assoc)

pub apart_next : (t : Tables) (i : ℕ) (row : PortRow) → i < length t.ports → row ≡ get_or t.ports i row →
    first (apart_from (files_before t i) (names_of i row)) ≡ None → Apart t i → Apart t (i + 1)
apart_next t i row small is held apart = rw (add-one, apart, port_step t i row small is, first-append, held) refl

pub apart_stops : {B : Type 0} (r : Result B TableRefusal) (t : Tables) (i : ℕ) (row : PortRow) → i < length t.ports →
    row ≡ get_or t.ports i row → IfErr r (Refuses (first (apart_from (files_before t i) (names_of i row)))) →
    Apart t i → IfErr r (Refuses (file_check t))
apart_stops r t i row small is told apart = rw (apart, port_step t i row small is) (search (rules, here_in))

pub apart_all : (t : Tables) (i : ℕ) → length t.ports ≤ i → Apart t i → file_check t ≡ None
apart_all t i past apart = grind (arith, common_steps, first_none)

-- ---- one port

-- the checks of a port's names
abbrev port_checks : ℕ → Bool → Bool → Check
port_checks i read write =
    otherwise (at (path (Element Ports i) (codes "read")) (unless (not read) DuplicateFile))
    (at (path (Element Ports i) (codes "write")) (unless (not write) DuplicateFile))

pub port_checked : (t : Tables) (i : ℕ) (row : PortRow) →
    first (apart_from (files_before t i) (names_of i row))
    ≡ port_checks i (read_clashes t i row) (write_clashes t i row)
unfolding first
port_checked t i row = let asked = taken t i in grind (arith, common_steps, list_any-append, asked)

pub ruleset differ_steps = (apart_all, apart_next, apart_stops, port_checked)
