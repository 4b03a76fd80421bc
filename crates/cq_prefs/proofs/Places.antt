-- Places in an order, and what offers say of them. A place that is found shows its port, and where no port is twice
-- the port at a place is found there. So an offered pair has its ports in range, and no order is longer than there
-- are ports.
use Rattle.std.proofs.iter.runs.Made.{chains}
use Rattle.cq_prefs.proofs.Terms.{common_steps, rules, ℕ, ◌≡◌, ◌<◌, ◌≤◌, List, length, get_or, eqb, refl, arith, IsDistinct, cases_lt, eqb-true, eq-eqb, ne_eqb, get_or_past, get_or_default, get_or-replicate, length-replicate, position_or_len_is, passes_at_first, prefix_len-le-length, apart_from_distinct, Any-from_list_any, length-le_from_distinct_below, Orders, AreOffers, ports, outputs_of, inputs_of, place_in, place_of, position_of, IsOffered, no_offers}

pub get_or-place_in : (xs : List ℕ) (y : ℕ) → place_in xs y < length xs → get_or xs (place_in xs y) 0 ≡ y
unfolding place_in
get_or-place_in xs y h = eqb-true _ _ (passes_at_first (λ x. eqb x y) xs 0 h)

pub place_in-get_or : (xs : List ℕ) (p : ℕ) → IsDistinct eqb xs → p < length xs → place_in xs (get_or xs p 0) ≡ p
unfolding place_in
place_in-get_or xs p d h = position_or_len_is (λ x. eqb x (get_or xs p 0)) xs p 0 (omega arith)
    (λ k l. apart_from_distinct eqb xs k p 0 d l h) (λ _. eq-eqb _ _ refl)

pub place_in-le-length : (xs : List ℕ) (y : ℕ) → place_in xs y ≤ length xs
unfolding place_in
place_in-le-length xs y = prefix_len-le-length _ xs

-- one place shows one port
pub same_at_place : (xs : List ℕ) (a b : ℕ) → place_in xs a ≡ place_in xs b → place_in xs a < length xs → a ≡ b
same_at_place xs a b e h = grind (arith, common_steps, get_or-place_in xs a h, get_or-place_in xs b)

-- ports that are offered are in range
pub input_in_range : (o : Orders) (i j : ℕ) → IsOffered o i j → i < ports o
input_in_range o i j h = grind (arith, common_steps, get_or_past, cases_lt)

pub output_in_range : (o : Orders) → AreOffers o → (i j : ℕ) → IsOffered o i j → j < ports o
output_in_range o v i j h = grind (arith, common_steps, get_or_past, cases_lt, v.square, v.shown i j)

-- the output at a place is offered, at that place
pub place_of-at : (o : Orders) → AreOffers o → (i p : ℕ) → p < length (outputs_of o i) →
    place_of o i (get_or (outputs_of o i) p 0) ≡ p
place_of-at o v i p h = place_in-get_or (outputs_of o i) p (v.outputs_differ i) h

pub position_of-at : (o : Orders) → AreOffers o → (j p : ℕ) → p < length (inputs_of o j) →
    position_of o j (get_or (inputs_of o j) p 0) ≡ p
position_of-at o v j p h = place_in-get_or (inputs_of o j) p (v.inputs_differ j) h

-- an order of different ports below n has at most n
pub places_at_most : (xs : List ℕ) (n : ℕ) → IsDistinct eqb xs → ((q : ℕ) → place_in xs q < length xs → q < n) →
    length xs ≤ n
places_at_most xs n d below =
    let at = place_in-get_or xs in
    search (arith, rules, length-le_from_distinct_below, Any-from_list_any, eqb-true, get_or_default, at)

pub outputs_at_most : (o : Orders) → AreOffers o → (i : ℕ) → length (outputs_of o i) ≤ ports o
outputs_at_most o v i = search (rules, places_at_most, v.outputs_differ, output_in_range)

pub inputs_at_most : (o : Orders) → AreOffers o → (j : ℕ) → length (inputs_of o j) ≤ ports o
inputs_at_most o v j = search (rules, places_at_most, v.inputs_differ, input_in_range, v.shown_back)

-- the first place that shows y is its place
pub place_in_is : (xs : List ℕ) (y i : ℕ) → i ≤ length xs → ((k : ℕ) → k < i → get_or xs k 0 ≡ y → ⊥) →
    (i < length xs → get_or xs i 0 ≡ y) → place_in xs y ≡ i
unfolding place_in
place_in_is xs y i short before here = search (arith, rules, position_or_len_is (λ x. eqb x y) xs i 0, ne_eqb, eq-eqb)

-- ## Nothing is offered

pub no_offers_are : (n : ℕ) → AreOffers (no_offers n)
unfolding IsDistinct
no_offers_are n = search (arith, rules, get_or-replicate, get_or_past, length-replicate, cases_lt)

pub ruleset new_steps = (length-replicate, no_offers_are)

pub ruleset asked_steps = (place_of-at)

pub ruleset place_steps = (chains, place_in_is)
