-- How many cells for an output there are. An arrival brings one more, a transfer moves one from the inputs to the
-- output's buffer, and a departure takes one away. So it is in each slot with stable matchings, whoever found them.
use Rattle.cq_fabric.proofs.Terms.{rules, ◌≡◌, ℕ, zero, suc, ◌+◌, ◌≤◌, eqb, Bool, List, [], ◌∷◌, length, Option, Some, None, ap, ⊎_elim, arith, common_steps, if◌then◌else◌, is_some, filter, insert, cond_both, length-drop, length-insert, Cell, Queued, arrival_at, is_for, first_for, without_first, Machine, list_of, HasCellFor, orders_of, Partners, partner_of, IsMatching, IsStable, partner_or_free, without_length, length_put, Fabric, input, list_arrived, Transfers, SlotRecord, FabricSlot, came_cell, rest_of, Marked, admission, count_for, each_once, LimitedFabricSlot, LimitedRecord, waiting_for, held_for, is_output_order, outputs_at, admitted_at, get_or_past, drop}

abbrev bit : Bool → ℕ
bit b = if b then 1 else 0

-- how many cells of a list are for output j
abbrev count : ℕ → List Queued → ℕ
count j xs = length (filter (is_for j) xs)

-- whether the cell that arrives, if one does, is for output j
abbrev comes : ℕ → Option Cell → ℕ
comes j None = 0
comes j (Some cell) = bit (eqb cell.output j)

count_cons : (j : ℕ) (x : Queued) (xs : List Queued) → count j (x ∷ xs) ≡ bit (is_for j x) + count j xs
count_cons j x xs = grind (arith, common_steps, cond_both)

count_insert : (j : ℕ) (xs : List Queued) (p : ℕ) (c : Queued) → count j (insert xs p c) ≡ bit (is_for j c) + count j xs
count_insert j xs zero c = count_cons j c xs
count_insert j [] (suc p) c = count_cons j c []
count_insert j (x ∷ xs) (suc p) c = grind (arith, common_steps, count_cons, count_insert j xs p c)

count_left : (j k : ℕ) (xs : List Queued) → count j (without_first k xs) ≤ count j xs
count_left j k [] = omega arith
count_left j k (x ∷ xs) = grind (arith, common_steps, count_cons, cond_both, count_left j k xs)

count_without : (j : ℕ) (xs : List Queued) (c : Queued) → first_for j xs ≡ Some c →
    count j (without_first j xs) + 1 ≡ count j xs
count_without j [] c h = absurd (let P : ⊥ = cc in P)
count_without j (x ∷ xs) c h = grind (arith, common_steps, count_cons, cond_both, count_without j xs c)

-- ## Sums over the inputs

-- each list has no more than before, or one that arrives
sum_comes : (j : ℕ) (new old : List (List Queued)) (cells : List (Option Cell)) → length new ≡ length old →
    ((i : ℕ) → count j (list_of new i) ≤ count j (list_of old i) + comes j (arrival_at cells i)) →
    waiting_for j new ≤ waiting_for j old + count_for j cells
sum_comes j [] old cells same each = omega arith
sum_comes j (x ∷ new) [] cells same each = absurd (omega arith)
sum_comes j (x ∷ new) (y ∷ old) cells same each =
    let rest = sum_comes j new old (drop 1 cells) (omega arith) (λ i. grind (arith, common_steps, each (suc i))) in
    grind (arith, common_steps, each zero)

-- each list has no more than before
sum_most : (j : ℕ) (new old : List (List Queued)) → length new ≡ length old →
    ((i : ℕ) → count j (list_of new i) ≤ count j (list_of old i)) → waiting_for j new ≤ waiting_for j old
sum_most j new old same each = search (arith, rules, sum_comes j new old [], same, each)

-- and one of them has one less
sum_less : (j : ℕ) (new old : List (List Queued)) (k : ℕ) → length new ≡ length old →
    ((i : ℕ) → count j (list_of new i) ≤ count j (list_of old i)) →
    count j (list_of new k) + 1 ≤ count j (list_of old k) → waiting_for j new + 1 ≤ waiting_for j old
sum_less j [] old k same each less = grind (arith, common_steps, get_or_past)
sum_less j (x ∷ new) [] k same each less = absurd (omega arith)
sum_less j (x ∷ new) (y ∷ old) zero same each less =
    let rest = sum_most j new old (omega arith) (λ i. each (suc i)) in omega arith
sum_less j (x ∷ new) (y ∷ old) (suc k) same each less =
    let here = each zero in let rest = sum_less j new old k (omega arith) (λ i. each (suc i)) less in omega arith

-- ## The phases

came_one : (f : Fabric) (j : ℕ) (came : Option Queued) (cell : Option Cell) (xs : List Queued) →
    ((c : Queued) → came ≡ Some c → cell ≡ Some c.cell) → count j (list_arrived f came xs) ≤ count j xs + comes j cell
came_one f j came cell xs is = grind (arith, common_steps, count_insert, is)

-- an input whose partner is output j has a cell for it
offered : (m : Partners) (f : Fabric) → IsMatching (orders_of f.inputs) m → (i j : ℕ) → partner_of m i ≡ Some j →
    HasCellFor (input f i) j
offered m f matching i j p =
    ((is_output_order (input f i)).offered j).0 (rw (outputs_at f.inputs i) at (matching.offered i j p))

moved : (m : Partners) (old new : Fabric) → IsMatching (orders_of old.inputs) m → Transfers m old new → (j : ℕ) →
    held_for j new ≤ held_for j old
moved m old new matching step j =
    let each : (i : ℕ) → count j (input new i) ≤ count j (input old i) =
    search (arith, rules, step.moves.taken, count_left) in
    ⊎_elim (λ r.
    let cell = offered m old matching r.0 j r.1 in
    search (arith, rules, length_put, step.moves.given r.0 j cell.0, cell, step.moves.taken, count_without, sum_less))
    (λ free. search (arith, rules, step.moves.kept, sum_most)) (partner_or_free m j)

module _ (ms : List Machine) (slot : ℕ) (cells : List (Option Cell)) (f g : Fabric) (r : SlotRecord)
    (step : FabricSlot IsStable ms slot cells f r g) where
  pub lists_kept : (i : ℕ) → length (input g i) ≤ length (input f i) + bit (is_some (arrival_at cells i))
  lists_kept i = search (arith, rules, came_cell, length-insert, without_length)

  pub outputs_kept : (j : ℕ) → held_for j g ≤ held_for j f + count_for j cells
  outputs_kept j =
      let came = sum_comes j r.arrived.inputs f.inputs cells step.arrive.ports (λ i.
      let e = ap (count j) (step.arrive.lists i) in search (arith, rules, came_one, came_cell)) in
      search (arith, rules, rest_of, length-drop, moved r.first r.arrived r.filled, moved)

-- ## With limits

module _ (limits : List (Option ℕ)) (ms : List Machine) (slot : ℕ) (cells : List (Option Cell)) (f g : Marked Fabric)
    (r : LimitedRecord) (s : LimitedFabricSlot IsStable limits ms slot cells f r g) where
  pub limited_lists_kept : (i : ℕ) →
      length (input g.state i) ≤ length (input f.state i) + (if is_some (arrival_at cells i) then 1 else 0)
  unfolding admission
  limited_lists_kept i = search (arith, rules, admitted_at, lists_kept ms slot _ f.state g.state r.of_slot s.runs i)

  pub limited_outputs_kept : (j : ℕ) → held_for j g.state ≤ held_for j f.state + count_for j cells
  unfolding admission
  limited_outputs_kept j =
      grind (arith, common_steps, each_once, outputs_kept ms slot _ f.state g.state r.of_slot s.runs j)
