-- What clauses see of a discipline: its kind, the classes that it keeps, its fixed numbers, with its kind in front, and
-- the state of its machine.
use Rattle.std.specs.Prelude.{ℕ, zero, suc, List, [], ◌∷◌}
use Rattle.cq_base.specs.declared.setup.ClassRow.{ClassRow}
use Rattle.cq_base.specs.declared.setup.Kind.{Kind}
use Rattle.cq_base.specs.declared.setup.Kind.TheVariants as kind
use Rattle.cq_scfq.specs.declared.discipline.Discipline.{Discipline}
use Rattle.cq_scfq.specs.declared.discipline.Discipline.TheVariants.{FirstCome, Priority, Fair}
use Rattle.cq_rank.specs.Classes.{rows_of}
use Rattle.cq_rank.specs.Machine.{Machine, KeepsLaws, first_come, priority}
use Rattle.cq_rank.specs.MachineLaws.{first_come_laws, priority_laws}
use Rattle.cq_scfq.specs.Fair.{fair}
use Rattle.cq_scfq.specs.FairLaws.{fair_laws}

-- its kind
abbrev pub kind_of : Discipline → Kind
kind_of (FirstCome r) = kind.FirstCome
kind_of (Priority r) = kind.Priority
kind_of (Fair r) = kind.Fair

-- the rows of the classes that it keeps
abbrev pub kept_of : Discipline → List ClassRow
kept_of (FirstCome r) = rows_of r.fixed
kept_of (Priority r) = rows_of r.fixed
kept_of (Fair r) = rows_of r.fixed

-- 0 for first come, 1 for priority, 2 for fair, and then the numbers that it keeps
abbrev pub fixed_of : Discipline → List ℕ
fixed_of (FirstCome r) = 0 ∷ r.fixed
fixed_of (Priority r) = 1 ∷ r.fixed
fixed_of (Fair r) = 2 ∷ r.fixed

-- the state of its machine
abbrev pub state_of : Discipline → List ℕ
state_of (FirstCome r) = r.state
state_of (Priority r) = r.state
state_of (Fair r) = r.state

-- the machine that its fixed numbers give
abbrev pub machine_from : List ℕ → Machine
machine_from [] = first_come []
machine_from (zero ∷ numbers) = first_come (rows_of numbers)
machine_from (suc zero ∷ numbers) = priority (rows_of numbers)
machine_from (suc (suc kind) ∷ numbers) = fair (rows_of numbers)

-- the machine that the numbers give keeps the laws, whichever numbers they are
pub machine_laws : (numbers : List ℕ) → KeepsLaws (machine_from numbers)
machine_laws [] = first_come_laws []
machine_laws (zero ∷ numbers) = first_come_laws (rows_of numbers)
machine_laws (suc zero ∷ numbers) = priority_laws (rows_of numbers)
machine_laws (suc (suc kind) ∷ numbers) = fair_laws (rows_of numbers)
