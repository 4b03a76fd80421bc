-- The limits of a switch, of made traffic, and of the files of a run.
use Rattle.std.specs.Prelude.{ℕ, ◌^◌}

-- the most ports
abbrev pub most_ports : ℕ
most_ports = 64

-- the most classes
abbrev pub most_classes : ℕ
most_classes = 16

-- how many levels there are
abbrev pub level_count : ℕ
level_count = 16

-- the most workers
abbrev pub most_workers : ℕ
most_workers = 64

-- the most slots in which made packets come
abbrev pub most_soak_slots : ℕ
most_soak_slots = 20000

-- the most bytes of a file that is kept whole: a capture, a state, a log or a trace that is read
abbrev pub longest_file : ℕ
longest_file = 2 ^ 28

-- the most bytes of a configuration
abbrev pub longest_configuration : ℕ
longest_configuration = 1048576
