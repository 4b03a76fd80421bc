-- What is answered where a text is none of a state.
use Rattle.cq_resume.specs.declared.refusal.StateRefusal.{StateRefusal}
use Rattle.cq_resume.specs.declared.refusal.StateRefusal.TheVariants as refusal
use Rattle.cq_lines.specs.declared.refusal.LineRefusal.{LineRefusal}
use Rattle.cq_lines.specs.declared.refusal.LineRefusal.TheVariants as text

-- the refusal of a text that is refused at a line, or for want of memory
abbrev pub refusal_of : LineRefusal → StateRefusal
refusal_of (text.Line line) = refusal.Text line
refusal_of text.NoMemory = refusal.NoMemory
