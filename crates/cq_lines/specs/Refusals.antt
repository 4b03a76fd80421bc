-- Why a text of lines is not read.
use Rattle.std.specs.Prelude.{ℕ, ⊤}
use Rattle.cq_lines.specs.declared.refusal.LineRefusal.{LineRefusal}
use Rattle.cq_lines.specs.declared.refusal.LineRefusal.TheVariants.{Line, NoMemory}

-- the named line is at fault; want of memory may come at any time
abbrev pub IsCause : (ℕ → Type 0) → LineRefusal → Type 0
IsCause IsFault (Line n) = IsFault n
IsCause IsFault NoMemory = ⊤
