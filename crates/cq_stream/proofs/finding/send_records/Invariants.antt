use Rattle.cq_stream.proofs.Terms.{◌-◌, length, SameProducer, sent}
use Rattle.cq_stream.proofs.Closing.{SendsTo}
use Rattle.cq_stream.proofs.finding.send_records.Given as goal

abbrev pub invariant-records : goal.invariant-records
invariant-records g l =
    SendsTo l.form l.bytes l.at (sent l.initial.items) (sent l.items) × SameProducer l.initial.items l.items

abbrev pub decreases-records : goal.decreases-records
decreases-records g l = length l.bytes - l.at
