use Rattle.cq_run.proofs.Terms.{◌≡◌, length, Closed, Reader, captures_from}
use Rattle.cq_run.proofs.Chain.{Stands}
use Rattle.cq_run.proofs.Ports.{left_from}
use Rattle.cq_run.proofs.reading.read_inputs.Given as goal

-- the captures of the ports so far were accepted, and those of the others are left
abbrev pub invariant-ports : goal.invariant-ports
invariant-ports g l = record {
  stands : (r : Reader) →
      Stands (captures_from r l.tables.limit_bytes 0 l.rows)
      (left_from r l.tables.limit_bytes l.rows l.input l.captures.items) (g.F.Files.space l.fn.files)
      (g.F.Files.space l.files);
  each : length l.captures.items
      ≡ l.input;
  closed : (g.F.Files.space l.files).mode ≡ Closed;
  kept : g.F.Files.unbegun l.fn.files l.files;
}
