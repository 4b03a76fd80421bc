-- The cell that arrived last in a list. All others arrived in slots before, so its slot finds it; and the cells for its
-- output that stand ahead of it are more urgent, so its key finds it too.
use Rattle.cq_fabric.proofs.Terms.{common_steps, rules, ◌≡◌, ℕ, zero, suc, ◌<◌, ◌≤◌, eqb, Bool, true, not, List, [], ◌∷◌, length, Some, arith, ◌&&◌, insert, slice_get, position_or_len, eq-eqb, ne_eqb, cases_eq, same_Some, Queued, is_before, KeepsOrder, ArrivedBefore, is_for, place_of_arrival, with_arrival, key_laws, all_at, first_here, first_later, IsNewest}

-- an older cell ahead
newest_later : (y c : Queued) (xs : List Queued) → y.key.slot < c.key.slot → IsNewest c xs → IsNewest c (y ∷ xs)
newest_later y c xs older rest =
    record { place = suc rest.place; at = rest.at; alone = search (arith, rules, rest.alone, same_Some) }

newest_insert : (xs : List Queued) (p : ℕ) (c : Queued) → p ≤ length xs → ArrivedBefore c.key.slot xs →
    IsNewest c (insert xs p c)
newest_insert xs zero c inside before = grind (arith, common_steps, all_at)
newest_insert [] (suc p) c inside before = absurd (omega arith)
newest_insert (y ∷ xs) (suc p) c inside before = grind (arith, common_steps, newest_later, newest_insert xs p c)

pub newest_arrived : (cushion : ℕ) (c : Queued) (xs : List Queued) → ArrivedBefore c.key.slot xs →
    IsNewest c (with_arrival cushion c xs)
newest_arrived cushion c xs before = newest_insert xs (place_of_arrival cushion c xs) c (omega arith) before

-- ## The place that its key tells

-- whether a cell is for its output, and no more urgent
no_sooner : Queued → Queued → Bool
no_sooner c x = is_for c.cell.output x && not (is_before x.key c.key)

in_slot : Queued → Queued → Bool
in_slot c x = eqb x.key.slot c.key.slot

finds_itself : (c : Queued) → no_sooner c c ≡ true
unfolding no_sooner
finds_itself c = grind (arith, common_steps, eq-eqb, key_laws.never_itself)

found : (c : Queued) (xs : List Queued) (place : ℕ) → slice_get xs place ≡ Some c →
    ((t : ℕ) (x : Queued) → slice_get xs t ≡ Some x → x.key.slot ≡ c.key.slot → t ≡ place) → KeepsOrder xs →
    position_or_len (no_sooner c) xs ≡ position_or_len (in_slot c) xs
unfolding in_slot no_sooner
found c [] place at alone order = absurd (let P : ⊥ = cc in P)
found c (x ∷ xs) zero at alone order = search (rules, same_Some, first_here, no_sooner, finds_itself, in_slot, eq-eqb)
found c (x ∷ xs) (suc place) at alone order =
    let rest = found c xs place at (λ t y here same. omega (arith, alone (suc t) y here same)) order.1 in
    search (arith, rules, first_later, eq-eqb, cases_eq, ne_eqb, all_at, alone 0 x)

pub found_by_key :
    (c : Queued) (xs : List Queued) → IsNewest c xs → KeepsOrder xs →
    position_or_len (λ x. is_for c.cell.output x && not (is_before x.key c.key)) xs ≡ position_or_len
    (λ x. eqb x.key.slot c.key.slot) xs
unfolding no_sooner in_slot
found_by_key c xs newest order = found c xs newest.place newest.at newest.alone order
