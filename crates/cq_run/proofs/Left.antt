-- What stands under a name after files were written. A name that is none of theirs has what it had, and the last of a
-- name stays.
use Rattle.cq_run.proofs.Terms.{common_steps, arith, rules, ◌≡◌, ◌≢◌, ◌+◌, ◌++◌, ℕ, suc, List, [], ◌∷◌, Some, refl, ap, IfSome, get, get-insert, AllByRecursion, nat_list_cmp_total, exact_bytes, tells_apart, Departure, Captured, PortRow, Tables, Contents, captures_out, Reader, captures_from, all_replaced, get_same}
use Rattle.std.specs.FinMap.{insert}

-- ## One name

other_same : (m : Contents) (name bytes asked : List ℕ) → name ≢ asked → get (insert m name bytes) asked ≡ get m asked
other_same m name bytes asked other =
    grind (arith, common_steps, get-insert nat_list_cmp_total m name bytes asked, tells_apart exact_bytes asked name)

pub untouched : (ws : List (List ℕ × List ℕ)) (m left : Contents) (name : List ℕ) → all_replaced ws (Some m) ≡ Some left
    → AllByRecursion (λ w. w.0 ≢ name) ws → get left name ≡ get m name
untouched [] m left name e none = let same : left ≡ m = cc e in ap (λ (c : Contents). get c name) same
untouched (w ∷ ws) m left name e none = search (rules, other_same, untouched ws (insert m w.0 w.1) left name e none.1)

-- the last two files
pub last_two : (ws : List (List ℕ × List ℕ)) (m left : Contents) (a x b y : List ℕ) → a ≢ b
    → all_replaced (ws ++ (a, x) ∷ (b, y) ∷ []) (Some m) ≡ Some left → (get left a ≡ Some x) × (get left b ≡ Some y)
last_two [] m left a x b y ne e = grind (arith, common_steps, other_same, get_same)
last_two (w ∷ ws) m left a x b y ne e = last_two ws (insert m w.0 w.1) left a x b y ne e

-- ## All that is written

pub outputs_named : (P : List ℕ → Type 0) (t : Tables) (captures : List (List Captured)) (sent : List Departure) (k : ℕ)
    (rows : List PortRow) → AllByRecursion (λ row. P row.write) rows →
    AllByRecursion (λ w. P w.0) (captures_out t captures sent k rows)
unfolding captures_out
outputs_named P t captures sent k [] all = tt
outputs_named P t captures sent k (row ∷ rows) all = (all.0, outputs_named P t captures sent (suc k) rows all.1)

-- ## What is judged of contents that have the same under the names that are read

pub captures_same : (m left : Contents) (r : Reader) (limit input : ℕ) (rows : List PortRow) →
    AllByRecursion (λ row. IfSome row.read (λ name. get left name ≡ get m name)) rows →
    captures_from r limit input rows left ≡ captures_from r limit input rows m
unfolding captures_from
captures_same m left r limit input [] same = refl
captures_same m left r limit input (row ∷ rows) same =
    search (arith, rules, captures_same m left r limit (input + 1) rows same.1)
