-- How a run of the program ends.
use Rattle.std.specs.Prelude.{ℕ}
use Rattle.cq_base.specs.declared.status.Status.{Status}
use Rattle.cq_base.specs.declared.status.Status.TheVariants.{Done, Words, Configuration, Capture, Tag, ReadFault, WriteFault, NoMemory, AuditNo, State}

-- the number that the process ends with
abbrev pub code_of : Status → ℕ
code_of Done = 0
code_of Words = 1
code_of Configuration = 2
code_of Capture = 3
code_of Tag = 4
code_of ReadFault = 5
code_of WriteFault = 6
code_of NoMemory = 7
code_of AuditNo = 8
code_of State = 9
