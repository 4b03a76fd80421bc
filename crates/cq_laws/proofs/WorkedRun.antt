-- That the worked records are the run with input-best matchings: each matching is the one in which the proposals of
-- its offers end, which is computed, and so is what its transfer moves.
use Rattle.cq_laws.proofs.Terms.{rules, ◌≡◌, ℕ, suc, ◌<◌, List, [], ◌∷◌, length, Some, None, refl, arith, set, ◌≢◌, common_steps, replicate, length-replicate, get_or-set_same, get_or-set_other, Queued, first_come_all, Fabric, input, buffer, empty_fabric, came_to, list_arrived, Transfers, SlotRecord, FabricSlot, FabricRun, from_input2, for_output1, three_slots, three, three_empty, worked_records, put, first_for, without_first, is_before, all_told, place_in, ports, with_pair, partner_of, orders_of, list_of, none_at, AllByRecursion, input_best-best, are_offers, all_of_has, Partners, IsInputBest}
use Rattle.cq_laws.specs.Example.{lone_cell, from_input0, from_input1, slot0, slot1, slot2}
use Rattle.cq_laws.proofs.QuietSlots.{nobody_best, nothing_moves}
use Rattle.cq_prefs.specs.LeastFirst.{best, least_free}
use Rattle.cq_prefs.specs.Proposals.{start, propose, keeper, matching_of, is_free}
use Rattle.cq_laws.proofs.Sound.{from_first}

-- ## Phases

record Phase (m : Partners) (f g : Fabric) : Type 0 where
  best : IsInputBest (orders_of f.inputs) m
  moved : Transfers m f g

-- the pair of these ports alone, of three
abbrev pair_alone : ℕ → ℕ → Partners
pair_alone i j = with_pair (replicate 3 None) i j

-- the matching of input i and output j alone
record IsOnlyPair (m : Partners) (i j : ℕ) : Type 0 where
  pair : partner_of m i ≡ Some j
  others : (k : ℕ) → k ≢ i → partner_of m k ≡ None

only_pair : (i j : ℕ) → i < 3 → IsOnlyPair (pair_alone i j) i j
only_pair i j h = grind (arith, common_steps, get_or-set_same, length-replicate, get_or-set_other, none_at)

-- each cell of these lists is for one of so many outputs
abbrev AreFor : ℕ → List (List Queued) → Type 0
AreFor ports lists = AllByRecursion (AllByRecursion (λ (c : Queued). c.cell.output < ports)) lists

first_in_range : (ports : ℕ) (lists : List (List Queued)) (i j : ℕ) (c : Queued) → AreFor ports lists →
    first_for j (list_of lists i) ≡ Some c → j < ports
first_in_range ports [] i j c are is = absurd (let P : ⊥ = cc in P)
first_in_range ports (cells ∷ lists) i j c are is =
    grind (arith, common_steps, from_first j (list_of (cells ∷ lists) i) c is, all_of_has, first_in_range ports lists)

-- a cell crosses
crosses : (f : Fabric) (i j : ℕ) (c : Queued) → AreFor (length f.inputs) f.inputs →
    best (orders_of f.inputs) ≡ pair_alone i j → first_for j (input f i) ≡ Some c → i < 3 → i < length f.inputs →
    j < length f.buffers →
    Phase (pair_alone i j) f (record {
      inputs = set f.inputs i (without_first j (input f i));
      buffers = set f.buffers j (put c (buffer f j));
      ranks = f.ranks;
    })
crosses f i j c own is front few inside inside' =
    let offers = are_offers f.inputs (λ i j c. first_in_range (length f.inputs) f.inputs i j c own) in
    search (arith, rules, only_pair i j few, input_best-best (orders_of f.inputs) offers)

-- what comes to an input goes into its list
abbrev ComesTo : Fabric → SlotRecord → ℕ → Type 0
ComesTo old r i = input r.arrived i ≡ list_arrived old (came_to r.came i) (input old i)

-- of three inputs, and past them
at_inputs : (old : Fabric) (r : SlotRecord) → ComesTo old r 0 → ComesTo old r 1 → ComesTo old r 2 →
    ((i : ℕ) → ComesTo old r (suc (suc (suc i)))) → (i : ℕ) → ComesTo old r i
at_inputs old r a b c past (suc (suc (suc i))) = past i
at_inputs old r a b c past i = grind (arith, common_steps)

-- ## The slots

abbrev after0 : Fabric
after0 = three [] [] (from_input2 ∷ []) (from_input1 ∷ []) [] []

abbrev none_left : Fabric
none_left = three [] [] [] [] [] []

abbrev after1 : Fabric
after1 = three [] [] [] (from_input2 ∷ []) [] []

worked0 : FabricSlot IsInputBest first_come_all 0
    (Some (lone_cell 0 0 0) ∷ Some (lone_cell 1 0 0) ∷ Some (lone_cell 2 0 0) ∷ []) none_left slot0 after0
unfolding all_told is_before place_in best least_free start propose
    keeper matching_of is_free
worked0 = search (arith, rules, crosses slot0.arrived 0 0 from_input0, crosses slot0.sent 1 0 from_input1, at_inputs)

worked1 : FabricSlot IsInputBest first_come_all 1 (None ∷ None ∷ Some (lone_cell 2 1 1) ∷ []) after0 slot1 after1
unfolding all_told is_before place_in best least_free start propose
    keeper matching_of is_free
worked1 = search (arith, rules, crosses slot1.arrived 2 1 for_output1, crosses slot1.sent 2 0 from_input2, at_inputs)

worked2 : FabricSlot IsInputBest first_come_all 2 (None ∷ None ∷ None ∷ []) after1 slot2 none_left
unfolding all_told
worked2 = search (arith, rules, at_inputs, nobody_best, nothing_moves)

pub runs : FabricRun IsInputBest first_come_all 0 three_slots (empty_fabric 3 three_empty) worked_records
    (empty_fabric 3 three_empty)
runs = (after0, worked0, (after1, worked1, (none_left, worked2, refl)))
