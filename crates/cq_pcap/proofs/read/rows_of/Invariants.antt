use Rattle.cq_pcap.proofs.Terms.{◌-◌, length, AreRowsTo}
use Rattle.cq_pcap.proofs.read.rows_of.Given as goal

abbrev pub invariant-records : goal.invariant-records
invariant-records l = AreRowsTo l.form l.bytes l.at l.rows.items

abbrev pub decreases-records : goal.decreases-records
decreases-records l = length l.bytes - l.at
