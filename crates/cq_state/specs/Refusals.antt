-- Why a state is not written.
use Rattle.std.specs.Prelude.{ℕ, ◌<◌, List, length, ⊤}
use Rattle.cq_base.specs.Limits.{longest_file}
use Rattle.cq_state.specs.declared.write.StateLong.{StateLong}
use Rattle.cq_state.specs.declared.write.StateLong.TheVariants.{Long, NoMemory}

-- the most bytes of a state's text, as it is written and as it is read
abbrev pub longest_text : ℕ
longest_text = longest_file

-- the text has more bytes; want of memory may come at any time
abbrev pub IsTooLong : List ℕ → StateLong → Type 0
IsTooLong text Long = longest_text < length text
IsTooLong text NoMemory = ⊤
