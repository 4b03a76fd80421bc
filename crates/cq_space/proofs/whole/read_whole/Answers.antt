-- What was taken begins with nothing, and each read puts its piece behind it.
use Rattle.cq_space.proofs.Terms.{arith, rules, common_steps, ◌++◌, ◌≡◌, take, length-take}
use Rattle.cq_space.specs.Pieces.{Begun, More, Later}
use Rattle.cq_space.proofs.whole.read_whole.Goals as goal

pub pieces-init : goal.pieces-init
pieces-init g c = search (arith, rules, Begun)

pub pieces-preserved : goal.pieces-preserved
pieces-preserved g c =
    let all : c.extend_from_slice.new.self.items ≡ c.pieces.bytes.items ++ take c.in-Ok.count c.read.new.buf =
    grind (arith, common_steps) in
    let on = More c.pieces.bytes.items (take c.in-Ok.count c.read.new.buf) c.pieces.files c.read.new.self
    c.pieces.invariant.taken in
    record {
      read = grind (arith, common_steps);
      named = search (arith, rules, g.F.Files.space);
      within = grind (arith, common_steps);
      told = cc;
      uncounted = search (arith, rules, g.F.Files.space);
      kept = search (arith, rules, g.met.F.Files.lasts_unbegun.both);
      taken = rw all (search (arith, rules, length-take, g.F.Files.space, on));
    }

pub returns-in-Err-read-clause-broken : goal.returns-in-Err-read-clause-broken
returns-in-Err-read-clause-broken g c = λ _. Later c.pieces.bytes.items c.pieces.files c.pieces.invariant.taken
    (grind (arith, common_steps)) (search (arith, rules, g.F.Files.space))

pub returns-in-Ok-eq0-clause-kept : goal.returns-in-Ok-eq0-clause-kept
returns-in-Ok-eq0-clause-kept g c = search (arith, rules, g.met.F.Files.lasts_unbegun.both)

pub returns-in-Err-read-clause-kept : goal.returns-in-Err-read-clause-kept
returns-in-Err-read-clause-kept g c = search (arith, rules, g.met.F.Files.lasts_unbegun.both)

pub returns-then-is_err-clause-kept : goal.returns-then-is_err-clause-kept
returns-then-is_err-clause-kept g c = search (arith, rules, g.met.F.Files.lasts_unbegun.both)

pub returns-clause-kept : goal.returns-clause-kept
returns-clause-kept g c = search (arith, rules, g.met.F.Files.lasts_unbegun.both)
