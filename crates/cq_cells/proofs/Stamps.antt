-- The least stamp, capture by capture.
use Rattle.cq_cells.proofs.Terms.{common_steps, ◌≡◌, ℕ, suc, ◌+◌, ◌<◌, min, List, [], ◌∷◌, length, map, take, slice_index_or, refl, ap, arith, append-nil, take_more, flat_map-append, fold-append, Captured, rows_from, PacketRow, reduce, fold, earlier, stamps_of}

fold_min : (a b : ℕ) (ns : List ℕ) → fold min (min a b) ns ≡ min a (fold min b ns)
fold_min a b [] = refl
fold_min a b (n ∷ ns) = grind (arith, common_steps, fold_min a (min b n) ns)

-- row by row the stamps are those of the packets
pub map-rows_from : (place : ℕ) (ps : List Captured) →
    map (λ (row : PacketRow). row.stamp) (rows_from place ps) ≡ map (λ (p : Captured). p.stamp) ps
map-rows_from place [] = refl
map-rows_from place (p ∷ ps) = ap (λ (ns : List ℕ). p.stamp ∷ ns) (map-rows_from (place + 16 + length p.body) ps)

-- the stamps of one capture more
pub stamps_more : (captures : List (List Captured)) (i : ℕ) (d : List Captured) → i < length captures →
    reduce min (stamps_of (take (i + 1) captures))
    ≡ earlier (reduce min (stamps_of (take i captures))) (reduce min
    (map (λ p. p.stamp) (slice_index_or captures i d)))
stamps_more captures i d h =
    grind (arith, common_steps, take_more, flat_map-append, slice_index_or, append-nil, fold-append, fold_min)

pub length-rows_from : (place : ℕ) (ps : List Captured) → length (rows_from place ps) ≡ length ps
length-rows_from place [] = refl
length-rows_from place (p ∷ ps) = ap suc (length-rows_from (place + 16 + length p.body) ps)

-- row k is that of packet k
pub row_is_of : (place : ℕ) (ps : List Captured) (k : ℕ) (d : PacketRow) (e : Captured) → k < length ps →
    ((slice_index_or (rows_from place ps) k d).stamp ≡ (slice_index_or ps k e).stamp)
    × ((slice_index_or (rows_from place ps) k d).len ≡ length (slice_index_or ps k e).body)
row_is_of place [] k d e h = absurd (omega arith)
row_is_of place (p ∷ ps) k d e h = grind (arith, common_steps, row_is_of (place + 16 + length p.body) ps)

pub ruleset stamp_steps = (map-rows_from, stamps_more)
