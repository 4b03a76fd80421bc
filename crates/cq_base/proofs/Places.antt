-- What stands at the places of arrivals. Where no cell came every place answers none, inside the list and beyond it,
-- so there is no cell of which anything is asked. And what is read at a place, if it is a cell, stands at its own
-- input, also where it was put there in place of another.
use Rattle.cq_base.proofs.Terms.{common_steps, rules, ◌≡◌, ◌<◌, ℕ, List, get_or, set, Option, None, Some, Bor, sym, ◌∙◌, length-set, get_or-set_same, get_or-set_other, arith, ap, ⊎_elim, IfSome, unwrap_or, option_copied, option_flatten, option_map, cases_eq, cases_lt, length-replicate, get_or-replicate, slice_get_past, unwrap_or-slice_get}
use Rattle.cq_base.specs.declared.cell.Cell.{Cell}
use Rattle.cq_base.specs.Arrivals.{AreArrivals, arrival_at, no_arrivals}

pub arrival_at-no_arrivals : (input : ℕ) → arrival_at no_arrivals input ≡ None
arrival_at-no_arrivals input =
    let none : Option Cell = None in
    ⊎_elim (λ inside. unwrap_or-slice_get no_arrivals input none ∙ get_or-replicate 64 input none none inside)
    (λ beyond. ap (λ (o : Option (Option Cell)). unwrap_or o none) (slice_get_past no_arrivals input beyond))
    (cases_lt input 64)

pub no_arrivals_are : AreArrivals no_arrivals
no_arrivals_are =
    let none : Option Cell = None in
    record {
      places = length-replicate 64 none;
      own_input =
          λ input cell at. absurd (let clash : none ≡ Some cell = sym (arrival_at-no_arrivals input) ∙ at in cc);
    }

-- a cell that stands at a place has come to that input
own_at : (input : ℕ) (cells : List (Option Cell)) (o : Option Cell) → AreArrivals cells → o ≡ arrival_at cells input →
    IfSome o (λ cell. cell.id.input ≡ input)
own_at input cells o are is = grind (arith, common_steps, are.own_input)

-- what was read at a place and then copied is a cell of that input
pub own_read : (input : ℕ) (cells : List (Option Cell)) (found : Option (Bor (Option Cell))) (o : Option Cell) →
    AreArrivals cells → ((d : Option Cell) → unwrap_or (option_map (λ b. b.now) found) d ≡ get_or cells input d) →
    o ≡ option_flatten (option_copied found) → IfSome o (λ cell. cell.id.input ≡ input)
own_read input cells found o are read is = search (arith, rules, own_at, unwrap_or-slice_get)

-- ## One place

-- what is put to an input is its own, and the other places keep theirs
pub put_are : (cells : List (Option Cell)) (input : ℕ) (o : Option Cell) → AreArrivals cells → input < 64 →
    IfSome o (λ cell. cell.id.input ≡ input) → AreArrivals (set cells input o)
put_are cells input o are place own =
    let none : Option Cell = None in
    let read = λ (i : ℕ). unwrap_or-slice_get (set cells input o) i none in
    let had = λ (i : ℕ). unwrap_or-slice_get cells i none in
    search (arith, rules, length-set, cases_eq, read, had, get_or-set_same, get_or-set_other, are.own_input)
