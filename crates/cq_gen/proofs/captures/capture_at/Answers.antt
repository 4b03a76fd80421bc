use Rattle.cq_gen.proofs.Small.{file_small}
use Rattle.cq_gen.proofs.captures.capture_at.Goals as goal

pub read_capture-requires : goal.read_capture-requires
read_capture-requires c = file_small c.args.words.now c.args.ports c.args.slots c.args.input c.requires.slots
    c.in_ok-bytes.bytes.items c.in_ok-bytes.ensures
