-- Only proofs use this.
-- The meaning of files in memory.
use Rattle.cq_space.specs.MemSpace.{MemSpace}
use Rattle.cq_space.specs.Entries.{columns_of, contents_of, read_cuts_of, write_cuts_of, mode_of, IsInPlace}
use Rattle.cq_space.specs.declared.mem_files.MemFiles.TheInside.{Inside}

-- what clauses see of the fields
abbrev pub mem_space : Inside → MemSpace
mem_space m = record {
  mode = mode_of (columns_of m.entries.items) m.state;
  contents = contents_of (columns_of m.entries.items);
  read_cuts = read_cuts_of (columns_of m.entries.items);
  write_cuts = write_cuts_of (columns_of m.entries.items);
  faults = m.faults;
  starved = m.starved;
  begun = m.begun;
  calls = m.calls;
}

-- what is open is in place
abbrev pub IsSound : Inside → Type 0
IsSound m = IsInPlace (columns_of m.entries.items) m.state
