use Rattle.cq_reasm.proofs.Terms.{arith, rules}
use Rattle.cq_reasm.proofs.Tables.{none_open, started_seen}
use Rattle.cq_reasm.proofs.open_packets.OpenPackets.add.Goals as goal

pub returns-in_ok-key-in-None-clause-added : goal.returns-in_ok-key-in-None-clause-added
returns-in_ok-key-in-None-clause-added c =
    let none = none_open c.self.inside.packets _ c.args.self.now c.args.place c.self.view_is c.requires.place _
    c.index.ensures c.in-None.is in
    search (arith, rules, started_seen)
