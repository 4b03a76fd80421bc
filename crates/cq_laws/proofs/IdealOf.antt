-- The one ideal switch with which a sound fabric is in step. Write the cells of the fabric for an output as one list:
-- those of the first input, of the second and so on, and those of its buffer: all their keys differ. Put in the order
-- of their keys, one after the other, each new one is before or behind every other, so the list rises, and it has the
-- same members. So the lists made of the cells that the fabric has for each output rise and have these cells: that is
-- agreement. And two lists that rise and have the same members are one list. So each output holds as many cells in the
-- ideal switch as in the fabric.
use Rattle.cq_laws.proofs.Terms.{flat_map, common_steps, rules, ◌≡◌, ◌↔◌, ℕ, List, [], ◌∷◌, length, sym, ◌∙◌, ⊎_elim, arith, zero, suc, filter, cases_lt, eqb-true, eq-eqb, ext_get_or, get_or_past, get_or-map-range_with_len, length-map-range_with_len, Queued, IdealState, Agrees, Fabric, IsAmong, IsFabric, buffer, ListsKeepOrder, IsBefore, IsRising, KeysDiffer, KeepsOrder, is_for, list_of, IsSoundFabric, ideal_of, in_order, cells_for, HasFor, has_cases, has_left, has_right, has_kept, kept_has, all_of_has, none_had, all_from_has, same_pairs, pairs_joined, pairs_kept_with, map, refl, range_with_len, length-append, ideal_held, waiting_for, held_for, fabric_held, length_put, replicate}
use Rattle.cq_laws.proofs.Sound.{among_put, rising_put, apart_from, not_before_itself, Apart, never_both}

-- ## Lists whose keys differ

differ_rising : (xs : List Queued) → IsRising xs → KeysDiffer xs
differ_rising [] r = tt
differ_rising (x ∷ xs) r = grind (arith, all_from_has, all_of_has, not_before_itself, differ_rising xs r.1)

-- ## The cells that wait for an output

module _ (j : ℕ) where
  -- of each of these lists those for the output
  abbrev pub waits : List (List Queued) → List Queued
  waits lists = flat_map (filter (is_for j)) lists

  waits_at : (lists : List (List Queued)) (c : Queued) → IsAmong c (waits lists) →
      (i : ℕ) × IsAmong c (list_of lists i) × (c.cell.output ≡ j)
  waits_at [] c h = absurd h
  waits_at (cells ∷ lists) c h = ⊎_elim (λ l. search (arith, rules, kept_has (is_for j) cells c l, eqb-true))
      (λ k. let r = waits_at lists c k in (suc r.0, r.1, r.2)) (has_cases (filter (is_for j) cells) (waits lists) c h)

  at_waits : (lists : List (List Queued)) (i : ℕ) (c : Queued) → IsAmong c (list_of lists i) → c.cell.output ≡ j →
      IsAmong c (waits lists)
  at_waits [] i c h e = absurd h
  at_waits (cells ∷ lists) i c h e = grind (arith, common_steps, has_left, has_kept, eq-eqb, has_right, at_waits lists)

  waits_differ : (lists : List (List Queued)) → ((i : ℕ) → KeepsOrder (list_of lists i)) →
      ((i k : ℕ) (c d : Queued) → IsAmong c (list_of lists i) → IsAmong d (list_of lists k) → c.key ≡ d.key → i ≡ k) →
      KeysDiffer (waits lists)
  waits_differ [] order apart = tt
  waits_differ (cells ∷ lists) order apart = pairs_joined _ (filter (is_for j) cells) (waits lists)
      (differ_rising _ (pairs_kept_with _ IsBefore (is_for j) (search (arith, rules, eqb-true)) cells (order zero)))
      (waits_differ lists (λ i. order (suc i)) (λ i k c d a b e. omega (arith, apart (suc i) (suc k) c d a b e)))
      (λ c d l r e. let at = waits_at lists d r in
      omega (arith, apart zero (suc at.0) c d (kept_has (is_for j) cells c l).0 at.1 e))

  pub to_cells : (f : Fabric) (c : Queued) → HasFor f j c → IsAmong c (cells_for j f)
  to_cells f c h = search (rules, has_left, at_waits, has_right)

  pub from_cells : (f : Fabric) (c : Queued) → IsAmong c (cells_for j f) → HasFor f j c
  from_cells f c h = grind (arith, common_steps, waits_at f.inputs c, has_cases (waits f.inputs) (buffer f j) c h)

  cells_differ : (f : Fabric) → IsFabric f → ListsKeepOrder f → Apart f → KeysDiffer (cells_for j f)
  cells_differ f fabric order apart =
      search (rules, pairs_joined, waits_differ, differ_rising, fabric.rising, waits_at, apart.waiting, apart.between)

-- ## Cells in the order of their keys

among_in_order : (d : Queued) (xs : List Queued) → IsAmong d (in_order xs) ↔ IsAmong d xs
among_in_order d [] = (λ h. h, λ h. h)
among_in_order d (x ∷ xs) = grind (arith, common_steps, among_put d x (in_order xs), among_in_order d xs)

rising_in_order : (xs : List Queued) → KeysDiffer xs → IsRising (in_order xs)
rising_in_order [] differ = tt
rising_in_order (x ∷ xs) differ = search (rules, rising_put, rising_in_order xs, all_of_has, among_in_order)

-- ## The ideal switch of these cells

list_is : (f : Fabric) → IsFabric f → (j : ℕ) → list_of (ideal_of f).lists j ≡ in_order (cells_for j f)
unfolding ideal_of
list_is f fabric j = ⊎_elim (λ inside. grind (arith, common_steps, get_or-map-range_with_len)) (λ past.
    -- there are none for what is no output
    let none = none_had (cells_for j f) (search (arith, rules, from_cells j f, fabric.outputs, get_or_past)) in
    grind (arith, none, length-map-range_with_len, get_or_past (ideal_of f).lists j [])) (cases_lt j (length f.inputs))

pub agrees_of : (slot : ℕ) (f : Fabric) → IsSoundFabric slot f → Agrees slot f (ideal_of f)
unfolding ideal_of
agrees_of slot f sound =
    let apart = apart_from f sound.differ in
    let size = length-map-range_with_len (λ j. in_order (cells_for j f)) 0 (length f.inputs) in
    let out = λ (c : Queued) (xs : List Queued). (among_in_order c xs).0 in
    let into = λ (c : Queued) (xs : List Queued). (among_in_order c xs).1 in
    search (arith, rules, size, list_is, rising_in_order, cells_differ, from_cells, out, into, to_cells)

pub sound_from : (slot : ℕ) (f : Fabric) (ideal : IdealState) → Agrees slot f ideal → IsSoundFabric slot f
sound_from slot f ideal agrees = grind (arith, common_steps)

-- ## There is no other

pub only_ideal : (slot : ℕ) (f : Fabric) (ideal : IdealState) → Agrees slot f ideal → ideal ≡ ideal_of f
only_ideal slot f a x =
    let y = agrees_of slot f (sound_from slot f a x) in
    let lists = ext_get_or [] a.lists (ideal_of f).lists (x.ports ∙ sym y.ports) (λ j _.
    search (arith, rules, same_pairs IsBefore never_both, x.rising j, y.rising j, x.same j, y.same j)) in
    grind (arith, common_steps)

-- ## Outputs hold as many

length_in_order : (xs : List Queued) → length (in_order xs) ≡ length xs
length_in_order [] = refl
length_in_order (x ∷ xs) = grind (arith, common_steps, length_put, length_in_order xs)

length-waits : (j : ℕ) (lists : List (List Queued)) → length (waits j lists) ≡ waiting_for j lists
length-waits j [] = refl
length-waits j (cells ∷ lists) = grind (arith, common_steps, length-append, length-waits j lists)

hold_so : (f : Fabric) (js : List ℕ) → map length (map (λ j. in_order (cells_for j f)) js) ≡ map (λ j. held_for j f) js
hold_so f [] = refl
hold_so f (j ∷ js) = grind (arith, common_steps, length_in_order, length-append, waits, length-waits, hold_so f js)

pub hold_as_many : (slot : ℕ) (f : Fabric) (ideal : IdealState) → Agrees slot f ideal → fabric_held f ≡ ideal_held ideal
unfolding fabric_held ideal_of
hold_as_many slot f ideal agrees = cc (only_ideal slot f ideal agrees, hold_so f (range_with_len 0 (length f.inputs)))

-- no output holds a cell where no list has one
pub nothing_for : (j n : ℕ) → waiting_for j (replicate n []) ≡ 0
nothing_for j zero = refl
nothing_for j (suc n) = let rest = nothing_for j n in omega arith
