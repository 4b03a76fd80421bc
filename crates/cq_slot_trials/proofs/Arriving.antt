-- Arrivals at the ports of a switch. No arrivals are for any ports, and one cell more, for one of the ports, is for
-- them too. And no more cells come for an output, are admitted there, or are refused than there are places.
use Rattle.cq_slot_trials.proofs.Terms.{rules, ◌≡◌, ℕ, ◌<◌, ◌≤◌, Bool, List, [], ◌∷◌, length, Option, Some, ap, ◌⊎◌, arith, get_or-set_same, get_or-set_other, cases_lt, set_past, unwrap_or-slice_get, Cell, arrival_at, no_arrivals, with_arrival, Admission, admission, refused, count_for, AreForPorts, common_steps, cases_eq, arrival_at-no_arrivals}
use Rattle.cq_ideal.proofs.Counting.{each_once}

-- nothing comes where nothing came
none_at : (input : ℕ) (cell : Cell) → arrival_at no_arrivals input ≡ Some cell → ⊥
none_at input cell at = let none = arrival_at-no_arrivals input in let P : ⊥ = cc in P

pub for_ports_none : (ports classes : ℕ) → AreForPorts ports classes no_arrivals
for_ports_none ports classes = search (arith, rules, none_at)

-- what comes to an input is the cell that was set there, or came there before
set_or_before : (cells : List (Option Cell)) (input : ℕ) (cell : Cell) (i : ℕ) (c : Cell) →
    arrival_at (with_arrival cells input cell) i ≡ Some c → ((i ≡ input) × (c ≡ cell)) ⊎ (arrival_at cells i ≡ Some c)
set_or_before cells input cell i c at =
    search (arith, rules, get_or-set_same, get_or-set_other, set_past, cases_eq, cases_lt, unwrap_or-slice_get)

pub for_ports_with : (ports classes : ℕ) (cells : List (Option Cell)) (input : ℕ) (cell : Cell) →
    AreForPorts ports classes cells → input < ports → cell.output < ports → cell.class < classes →
    AreForPorts ports classes (with_arrival cells input cell)
for_ports_with ports classes cells input cell for at_port for_port of_class =
    search (arith, rules, set_or_before, for.inputs, for.outputs, for.classes)

-- no more cells come for an output than there are places
pub count_most : (j : ℕ) (cells : List (Option Cell)) → count_for j cells ≤ length cells
count_most j [] = omega arith
count_most j (o ∷ cells) = grind (arith, common_steps, count_most j cells)

-- no more cells are admitted for an output, or refused, than come
pub admitted_most : (limits : List (Option ℕ)) (held : List ℕ) (marks : List Bool) (cells : List (Option Cell)) (j : ℕ)
    (a : Admission) →
    a ≡ admission limits held marks cells → count_for j a.cells ≤ length cells
unfolding admission
admitted_most limits held marks cells j a is = search (arith, rules, each_once, count_most)

pub refusals_most : (limits : List (Option ℕ)) (held : List ℕ) (marks : List Bool) (cells : List (Option Cell))
    (a : Admission) →
    a ≡ admission limits held marks cells → length a.refused ≤ length cells
unfolding admission
refusals_most limits held marks cells a is =
    let same = ap (λ (b : Admission). length b.refused) is in
    search (arith, rules, refused_fewer)
  where
    refused_fewer : (marks : List Bool) (cells : List (Option Cell)) → length (refused marks cells) ≤ length cells
    refused_fewer [] cells = omega arith
    refused_fewer (mark ∷ marks) [] = omega arith
    refused_fewer (mark ∷ marks) (o ∷ cells) = grind (arith, common_steps, refused_fewer marks cells)
