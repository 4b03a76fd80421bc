use Rattle.cq_space.proofs.Terms.{length, ◌-◌, ◌≡◌, ◌≤◌, take, Writing, replaced}
use Rattle.cq_space.proofs.whole.write_whole.Given as goal

abbrev pub invariant-loop-written : goal.invariant-loop-written
invariant-loop-written g l =
    let start = g.F.Files.space l.fn.files in
    let now = g.F.Files.space l.files in
    record {
      told : now.told ≡ replaced l.name (take l.written l.bytes) start.told;
      mode : now.mode ≡ Writing l.name;
      within : l.written ≤ length l.bytes;
      uncounted : now.faults ≡ start.faults;
      kept : g.F.Files.keeps l.fn.files l.files;
    }

abbrev pub decreases-loop-written : goal.decreases-loop-written
decreases-loop-written g l = length l.bytes - l.written
