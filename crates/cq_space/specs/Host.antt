-- What is known of the system's files.
use Rattle.std.specs.Prelude.{[], string_bytes}
use Rattle.cq_space.specs.Space.{Mode, Closed, Reading, Writing}
use Rattle.cq_space.specs.declared.host.Open.{Open}
use Rattle.cq_space.specs.declared.host.Open.TheVariants as open_file

-- the mode that an open file stands for, without its bytes, which are not told
abbrev pub host_mode : {T : Type 0} → Open T → Mode
host_mode open_file.Shut = Closed
host_mode (open_file.Reads name file) = Reading (string_bytes name) []
host_mode (open_file.Writes name file) = Writing (string_bytes name)
