use Rattle.cq_reasm.proofs.Terms.{arith, rules}
use Rattle.cq_reasm.proofs.Tables.{seen_empty}
use Rattle.cq_reasm.proofs.open_packets.OpenPackets.new.Goals as goal

pub returns : goal.returns
returns c =
    let are = c.in_ok-keys.ensures.items_if_clones_equal (λ y same. search (arith, rules, same)) in
    rw are (seen_empty c.new-packets.result c.args.places)
