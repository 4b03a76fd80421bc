-- Admission, input by input. The mark of an input after a slot says what became of its arrival, and without a first
-- cell it is the mark of before. So what is admitted arrives; and where no mark is up and no output has a limit all
-- is admitted, as where nothing arrives.
use Rattle.cq_ideal.proofs.Terms.{rules, arith, ◌≡◌, ℕ, zero, suc, Bool, false, List, [], ◌∷◌, length, get_or, Option, Some, None, refl, ap, common_steps, Cell, arrival_at, no_arrivals, NoLimits, RefusesNone, mark_after, held_after, marks_after, admitted, refused, Admission, admission, mark_at, unless, marks_down, AreForPorts, most_ports}
use Rattle.cq_ideal.proofs.Changed.{same_at}

-- ## What is admitted

pub admitted_at : (marks : List Bool) (cells : List (Option Cell)) (i : ℕ) →
    arrival_at (admitted marks cells) i ≡ unless (mark_at marks i) (arrival_at cells i)
admitted_at [] cells i = refl
admitted_at (mark ∷ marks) cells i = grind (arith, common_steps, admitted_at marks)

pub as_many_admitted : (marks : List Bool) (cells : List (Option Cell)) → length (admitted marks cells) ≡ length cells
as_many_admitted [] cells = refl
as_many_admitted (mark ∷ marks) cells = grind (arith, common_steps, as_many_admitted marks)

-- what is admitted arrives
pub admitted_arrives : (marks : List Bool) (cells : List (Option Cell)) (i : ℕ) (cell : Cell) →
    arrival_at (admitted marks cells) i ≡ Some cell → arrival_at cells i ≡ Some cell
admitted_arrives marks cells i cell h = search (arith, rules, admitted_at)

pub admitted_for_ports : (ports classes : ℕ) (marks : List Bool) (cells : List (Option Cell)) →
    AreForPorts ports classes cells → AreForPorts ports classes (admitted marks cells)
admitted_for_ports ports classes marks cells are = grind (arith, common_steps, admitted_arrives)

-- each input keeps one mark
pub marks_kept : (limits : List (Option ℕ)) (held : List ℕ) (marks : List Bool) (cells : List (Option Cell)) →
    length (marks_after limits held marks cells) ≡ length marks
marks_kept limits held (mark ∷ marks) (cell ∷ cells) =
    ap suc (marks_kept limits (held_after (mark_after limits held mark cell) held cell) marks cells)
marks_kept limits held marks cells = refl

-- an admission is what its marks say
pub its_marks : (limits : List (Option ℕ)) (marks : List Bool) (cells : List (Option Cell)) (a : Admission)
    (by : (held : List ℕ) × (a ≡ admission limits held marks cells)) →
    (a.marks ≡ marks_after limits by.0 marks cells) × (a.cells ≡ admitted a.marks cells)
    × (a.refused ≡ refused a.marks cells)
unfolding admission
its_marks limits marks cells a by = let is = by.1 in grind (arith, common_steps)

-- ## Where nothing is refused

-- where a cell arrives no mark is up and no output has a limit
all_pass : (limits : List (Option ℕ)) (held : List ℕ) (marks : List Bool) (cells : List (Option Cell)) →
    ((i : ℕ) (cell : Cell) → get_or cells i None ≡ Some cell → (mark_at marks i ≡ false) × NoLimits limits) →
    (marks_after limits held marks cells ≡ marks) × (admitted marks cells ≡ cells) × (refused marks cells ≡ [])
all_pass limits held (mark ∷ marks) (cell ∷ cells) free =
    let after = held_after (mark_after limits held mark cell) held cell in
    grind (arith, common_steps, free zero, all_pass limits after marks cells (λ i. free (suc i)))
all_pass limits held marks cells free = (refl, refl, refl)

pub no_limits_refuse_none : (limits : List (Option ℕ)) (ports : ℕ) (cells : List (Option Cell)) → NoLimits limits →
    RefusesNone limits (marks_down ports) cells
unfolding admission
no_limits_refuse_none limits ports cells none held =
    grind (arith, common_steps, all_pass limits held (marks_down ports) cells, same_at)

pub no_arrivals_refuse_none : (limits : List (Option ℕ)) (marks : List Bool) → RefusesNone limits marks no_arrivals
unfolding admission
no_arrivals_refuse_none limits marks held =
    let none = same_at {X = Option Cell} None most_ports in
    search (arith, rules, all_pass limits held marks no_arrivals (λ i cell at. grind (arith, common_steps, none i)))
