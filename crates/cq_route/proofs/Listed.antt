-- Rows that are listed by the numbers of their addresses.
use Rattle.cq_route.proofs.Terms.{common_steps, ℕ, suc, ◌≡◌, ◌<◌, ◌==◌, ◌+◌, Bool, w64, List, [], ◌∷◌, ◌++◌, length, take, drop, get_or, Option, None, Some, option_map, All, refl, ap, sym, ◌∙◌, arith, rules, to_be_bytes, find, option_or, unwrap_or, bytes_eq, cond_both, Decides-eqb, same_from_decides, take_more, All-push, find-append, be_bytes_8, bytes_eq-Decides, AddressRow, Tables, IsAddress, IsDirectoryOf, number_of, some_if, is_to, output_for}
use Rattle.std.specs.HashMap.{HashMap, IsEmpty, get}
use Rattle.std.specs.Prelude.{nat_eq}
use Rattle.cq_route.specs.declared.directory.Directory.{Directory}

-- the output of the first row whose address has this number
abbrev pub listed : List AddressRow → ℕ → Option ℕ
listed rows q = option_map (λ row. row.output) (find (λ row. number_of row.mac == q) rows)

-- each row has an address
abbrev pub AreAddresses : List AddressRow → Type 0
AreAddresses rows = All (λ row. IsAddress row.mac) rows

-- an address behind two bytes of zero
widened : (mac : List ℕ) → IsAddress mac → (i : ℕ) → get_or (0 ∷ 0 ∷ mac) i 0 < 256
widened mac a i = grind (arith, common_steps, a.bytes)

bytes_are : (mac : List ℕ) (n : ℕ) → IsAddress mac → n ≡ number_of mac → to_be_bytes w64 n ≡ 0 ∷ 0 ∷ mac
unfolding number_of
bytes_are mac n a e = let six = a.six in be_bytes_8 (0 ∷ 0 ∷ mac) n (omega arith) (widened mac a) e

-- two addresses have one number only if they are one
same_address : (a b : List ℕ) → IsAddress a → IsAddress b → number_of a ≡ number_of b → a ≡ b
same_address a b x y e = ap (drop 2) (sym (bytes_are a (number_of a) x refl) ∙ bytes_are b (number_of a) y e)

same_test : (mac other : List ℕ) → IsAddress mac → IsAddress other →
    (number_of other == number_of mac) ≡ bytes_eq mac other
same_test mac other a b = grind (arith, common_steps, Decides-eqb, same_address, same_from_decides, bytes_eq-Decides)

-- two tests that agree at each row find the same one
find_same : (p q : AddressRow → Bool) (rows : List AddressRow) → All (λ row. p row ≡ q row) rows →
    find p rows ≡ find q rows
find_same p q [] all = refl
find_same p q (r ∷ rows) all = cc (all 0 r (omega arith), find_same p q rows (λ k d h. all (suc k) d (omega arith)))

-- what is listed of an address is what the first row with it says
pub listed_is : (mac : List ℕ) (rows : List AddressRow) → IsAddress mac → AreAddresses rows →
    listed rows (number_of mac) ≡ option_map (λ row. row.output) (find (is_to (Some mac)) rows)
listed_is mac rows a all = grind (arith, common_steps, option_map, find_same, same_test)

-- one row more: it is listed where none with its number came before it
pub listed_push : (rows : List AddressRow) (row : AddressRow) (q : ℕ) →
    listed (rows ++ row ∷ []) q ≡ option_or (listed rows q) (some_if (number_of row.mac == q) row.output)
listed_push rows row q = grind (arith, common_steps, option_map, find-append, cond_both)

-- the rows are listed in a map
pub record AreListed {S : Type 0} (rows : List AddressRow) (outputs : HashMap ℕ ℕ S) : Type 0 where
  pub macs : AreAddresses rows
  pub known : (q : ℕ) → get nat_eq outputs q ≡ listed rows q

-- which is the directory of tables with these rows
pub directory_is : (t : Tables) (d : Directory) → AreListed t.addresses d.outputs → IsDirectoryOf t d
unfolding IsDirectoryOf
directory_is t d l = λ mac a. l.known (number_of mac) ∙ listed_is mac t.addresses a l.macs

-- frames to an address go where the directory says, or by default
pub goes_to : (t : Tables) (d : Directory) (mac : List ℕ) → IsAddress mac → IsDirectoryOf t d →
    unwrap_or (get nat_eq d.outputs (number_of mac)) t.default_output ≡ output_for t (Some mac)
unfolding IsDirectoryOf
goes_to t d mac a is = grind (arith, common_steps)

-- no row speaks of a frame without an address
nobody : (rows : List AddressRow) → find (is_to None) rows ≡ None
nobody [] = refl
nobody (r ∷ rows) = nobody rows

pub goes_nowhere : (t : Tables) → output_for t None ≡ t.default_output
goes_nowhere t = grind (arith, common_steps, nobody)

-- an empty map lists no row
pub none_listed : {S : Type 0} (outputs : HashMap ℕ ℕ S) → IsEmpty outputs → AreListed [] outputs
none_listed outputs e = record { macs = λ k d h. absurd (let P : ⊥ = omega arith in P); known = λ q. search (rules, e) }

-- a map that has learnt the next row
pub listed_more : {S : Type 0} (rows : List AddressRow) (i : ℕ) (old new : HashMap ℕ ℕ S) (n : ℕ) (d : AddressRow) →
    i < length rows → AreListed (take i rows) old → IsAddress (get_or rows i d).mac →
    n ≡ number_of (get_or rows i d).mac →
    ((q : ℕ) → get nat_eq new q ≡ option_or (get nat_eq old q) (some_if (n == q) (get_or rows i d).output)) →
    AreListed (take (i + 1) rows) new
listed_more rows i old new n d inside l a is learnt =
    let more = take_more rows i d inside in
    let all = All-push (λ (r : AddressRow). IsAddress r.mac) (take i rows) (get_or rows i d) l.macs a in
    search (arith, rules, more, all, listed_push, l.known, learnt)
