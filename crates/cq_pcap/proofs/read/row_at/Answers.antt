use Rattle.cq_pcap.proofs.Terms.{arith}
use Rattle.cq_pcap.proofs.Headers.{AreBytes}
use Rattle.cq_pcap.proofs.Rows.{rows_more}
use Rattle.cq_pcap.proofs.read.row_at.Goals as goal

pub returns-clause-more : goal.returns-clause-more
returns-clause-more c rows so_far =
    let bytes = c.args.bytes.now in
    let fits : AreBytes bytes = λ i. omega (arith, c.type_inv.bytes i) in
    rows_more c.args.form bytes rows c.args.at c.in_ok-row_of.field-0 fits c.requires.small c.in_ok-row_of.ensures.row
    so_far
