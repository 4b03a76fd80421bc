use Rattle.cq_pcap.proofs.Terms.{◌++◌, List, ℕ, ap, ◌∙◌, record_of}
use Rattle.cq_pcap.proofs.Writing.{written-more}
use Rattle.cq_pcap.proofs.write.capture_bytes.Goals as goal

pub loop-packet-preserved : goal.loop-packet-preserved
loop-packet-preserved c =
    let p = c.packet-item.result in
    c.in_ok-put_packet.ensures.record
    ∙ ap (λ (body : List ℕ).
    c.loop-packet.out.items ++ record_of (record { stamp = p.stamp; original = p.original; body = body }))
    c.as_slice.ensures ∙ ap (λ bytes. bytes ++ record_of p) c.loop-packet.invariant
    ∙ written-more c.args.packets.now c.loop-packet.packet-index p c.loop-packet-test.true c.packet-item.is
