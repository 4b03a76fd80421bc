use Rattle.cq_gen.proofs.Small.{one_put}
use Rattle.cq_gen.proofs.packets.file_to.Goals as goal

pub slots-preserved : goal.slots-preserved
slots-preserved c = one_put c.args.words.now c.args.ports c.args.input c.slots.slot c.slots.bytes.items
    c.put_made.new.out.items c.slots.invariant c.in_ok-put_made.ensures
