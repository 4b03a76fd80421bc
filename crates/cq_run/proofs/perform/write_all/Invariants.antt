use Rattle.cq_run.proofs.Terms.{◌≡◌, ℕ, List, vec_len, Space, Closed, all_replaced, IsCutAtFile}
use Rattle.cq_run.proofs.perform.write_all.Given as goal

-- what is left to be written comes to what all comes to, and a cut there is a cut of all
abbrev pub invariant-loop-writes : goal.invariant-loop-writes
invariant-loop-writes g l =
    let start = g.F.Files.space l.fn.files in
    let now = g.F.Files.space l.files in
    record {
      closed : now.mode ≡ Closed;
      told : all_replaced l.writes.items now.told
          ≡ all_replaced l.fn.writes.items start.told;
      uncounted : now.faults
          ≡ start.faults;
      kept : g.F.Files.keeps l.fn.files l.files;
      cut : (name : List ℕ) (end : Space)
          → IsCutAtFile l.writes.items name now end → IsCutAtFile l.fn.writes.items name start end;
    }

abbrev pub decreases-loop-writes : goal.decreases-loop-writes
decreases-loop-writes g l = vec_len l.writes
