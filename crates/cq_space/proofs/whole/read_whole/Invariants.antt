use Rattle.cq_space.proofs.Terms.{◌+◌, ◌-◌, ◌≡◌, ◌≤◌, vec_len, read_name}
use Rattle.cq_space.proofs.Replaced.{HasRead}
use Rattle.cq_space.specs.Pieces.{HasTaken}
use Rattle.cq_space.proofs.whole.read_whole.Given as goal

abbrev pub invariant-pieces : goal.invariant-pieces
invariant-pieces g l =
    let start = g.F.Files.space l.fn.files in
    let now = g.F.Files.space l.files in
    record {
      read : HasRead now.told l.name l.bytes.items now.mode;
      named : read_name now.mode ≡ l.name;
      within : vec_len l.bytes ≤ l.limit + 1;
      told : now.told ≡ start.told;
      uncounted : now.faults ≡ start.faults;
      kept : g.F.Files.unbegun l.fn.files l.files;
      taken : HasTaken g.F.Files.space g.F.Files.may_fail g.F.Files.may_pass g.F.Files.may_move g.F.Files.gives
          g.F.Files.counts g.F.Files.leaves g.F.Files.unbegun l.name l.fn.files l.bytes.items l.files;
    }

abbrev pub decreases-pieces : goal.decreases-pieces
decreases-pieces g l = l.limit + 1 - vec_len l.bytes
