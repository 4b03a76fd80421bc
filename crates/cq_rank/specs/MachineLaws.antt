-- That the machines keep their laws. They stand here since the machines' impls cite them.
use Rattle.std.proofs.Common.{ℕ, List, length, refl, arith}
use Rattle.cq_base.specs.declared.setup.ClassRow.{ClassRow}
use Rattle.cq_rank.specs.Classes.{row_at}
use Rattle.cq_rank.specs.Machine.{KeepsLaws, first_come, priority, steady}

-- a machine without a state keeps the laws
pub steady_laws : (classes : ℕ) (level rank : ℕ → ℕ) → KeepsLaws (steady classes level rank)
steady_laws classes level rank = record {
  given_length = λ s c h l. h;
  sent_length = λ s k r h. h;
  idle_length = λ s h. h;
  above = λ s c h l. omega arith;
  given_floor = λ s c h l. refl;
  other_floor = λ s c d h l k ne. omega arith;
  sent_floor = λ s k r c h l. omega arith;
  idle_once = λ s h. refl;
}

-- so does first come, first served, of these classes
pub first_come_laws : (rows : List ClassRow) → KeepsLaws (first_come rows)
first_come_laws rows = steady_laws (length rows) (λ c. (row_at rows c).level) (λ c. 0)

-- so does strict priority of these classes
pub priority_laws : (rows : List ClassRow) → KeepsLaws (priority rows)
priority_laws rows = steady_laws (length rows) (λ c. (row_at rows c).level) (λ c. (row_at rows c).priority)
