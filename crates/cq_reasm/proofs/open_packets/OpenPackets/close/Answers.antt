use Rattle.cq_reasm.proofs.Terms.{None, rules, set-get_or}
use Rattle.cq_reasm.proofs.Tables.{closed_seen, none_open}
use Rattle.cq_reasm.proofs.open_packets.OpenPackets.close.Goals as goal

pub returns-in_err-key-clause-closed : goal.returns-in_err-key-clause-closed
returns-in_err-key-clause-closed c =
    let none = none_open c.self.inside.packets c.self.inside.keys.items c.args.self.now c.args.place c.self.view_is
    c.requires c.index.result.now c.index.ensures (c.in_err-key.was {u = tt}) in
    search (rules, set-get_or c.args.self.now c.args.place None)

pub returns-clause-closed : goal.returns-clause-closed
returns-clause-closed c = closed_seen c.self.inside.packets c.finish.new.packets _ _ _ _ c.self.invariant c.self.view_is
    c.requires c.finish.ensures.others _ c.index.ensures c.in_ok-key.was
