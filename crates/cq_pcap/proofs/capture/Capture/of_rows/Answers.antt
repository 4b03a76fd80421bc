use Rattle.cq_pcap.proofs.Terms.{arith, rules}
use Rattle.cq_pcap.proofs.SpeltIsRead.{spelt_is_read}
use Rattle.cq_pcap.proofs.capture.Capture.of_rows.Goals as goal

pub returns-clause-read : goal.returns-clause-read
returns-clause-read c = search (arith, rules, spelt_is_read)
