-- What a cell changes of a joiner: what is open of its pair, and nothing else.
use Rattle.cq_reasm.proofs.Terms.{common_steps, rules, ◌≡◌, ◌≢◌, ◌⊎◌, ℕ, ◌+◌, ◌*◌, ◌<◌, true, arith, List, set, get_or, Option, None, div-mul-add, get_or-set_other, Open, cells_taken, JoinerView, IsNext, IsOtherPair, open_at, with_open, open_after}
use Rattle.cq_base.specs.declared.cell.Cell.{Cell}

-- as many cells were taken as stand before it in its packet
pub taken_before : (o : Option Open) (cell : Cell) → IsNext o cell → cells_taken o ≡ cell.id.index
taken_before o cell h = grind (arith, common_steps)

-- what is open of a pair stands at its place
pub open_is : (inputs classes : ℕ) (packets : List (Option Open)) (joiner : JoinerView) (input class place : ℕ) →
    (let seen : JoinerView = record { inputs = inputs; classes = classes; open_packets = packets } in seen) ≡ joiner →
    place ≡ input * classes + class → get_or packets place None ≡ open_at joiner input class
open_is inputs classes packets joiner input class place e p = grind (arith, common_steps)

-- the joiner with something else at that place
pub left_is : (inputs classes : ℕ) (packets left : List (Option Open)) (joiner : JoinerView) (input class place : ℕ)
    (now : Option Open) →
    (let seen : JoinerView = record { inputs = inputs; classes = classes; open_packets = packets } in seen) ≡ joiner →
    place ≡ input * classes + class → left ≡ set packets place now →
    (let seen : JoinerView = record { inputs = inputs; classes = classes; open_packets = left } in seen)
    ≡ with_open joiner input class now
left_is inputs classes packets left joiner input class place now e p h = grind (arith, common_steps)

-- the last cell leaves nothing open
pub closed_by_last : (was : Option Open) (cell : Cell) (piece : List ℕ) → cell.last ≡ true →
    None ≡ open_after was cell piece
closed_by_last was cell piece e = grind (arith, common_steps)

-- another pair stands at another place
other_place : (input class input' class' n : ℕ) → class < n → class' < n → (input ≢ input') ⊎ (class ≢ class') →
    input * n + class ≢ input' * n + class'
other_place input class input' class' n l l' differs e =
    grind (arith, common_steps, div-mul-add input n class l, div-mul-add input' n class' l')

-- every other pair is as before, whatever is put at the place of this one
pub others_kept : (new joiner : JoinerView) (cell : Cell) (now : Option Open) →
    new ≡ with_open joiner cell.id.input cell.class now → cell.class < joiner.classes → (input class : ℕ) →
    class < joiner.classes → IsOtherPair input class cell → open_at new input class ≡ open_at joiner input class
others_kept new joiner cell now left inside input class l differs = search (rules, left, get_or-set_other, other_place)
