-- How a packet is cut.
use Rattle.cq_cells.proofs.Terms.{rules, ℕ, zero, suc, ◌+◌, ◌*◌, ◌/◌, ◌%◌, ◌<◌, ◌≤◌, min, arith, div-le_self, mul-le-mul_right, div_ceil_times, cells_of}

-- a piece begins no later than the frame ends
pub piece_begins : (len cell_bytes i : ℕ) → 1 ≤ cell_bytes → i < cells_of len cell_bytes → i * cell_bytes ≤ len
unfolding cells_of
piece_begins len cell_bytes zero some h = omega arith
piece_begins len cell_bytes (suc i) some h =
    let below : suc (suc i) ≤ len / cell_bytes + min 1 (len % cell_bytes) = omega arith in
    search (arith, rules, mul-le-mul_right cell_bytes below, div_ceil_times len cell_bytes some)

-- a packet has a cell
pub cells_above : (len cell_bytes : ℕ) → 0 < cells_of len cell_bytes
unfolding cells_of
cells_above len cell_bytes = omega arith

-- and at most one more than bytes
pub cells_few : (len cell_bytes : ℕ) → 1 ≤ cell_bytes → cells_of len cell_bytes ≤ len + 1
unfolding cells_of
cells_few len cell_bytes some = omega (arith, div-le_self len cell_bytes)
