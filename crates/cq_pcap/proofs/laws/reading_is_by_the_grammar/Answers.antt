use Rattle.cq_pcap.proofs.Terms.{rules}
use Rattle.cq_pcap.proofs.ReadIsSpelt.{read_is_faulty, read_is_spelt}
use Rattle.cq_pcap.proofs.SpeltIsRead.{fault_is_read, spelt_is_read}
use Rattle.cq_pcap.proofs.laws.reading_is_by_the_grammar.Goals as goal

pub returns : goal.returns
returns c = search (rules, spelt_is_read, fault_is_read, read_is_spelt, read_is_faulty)
