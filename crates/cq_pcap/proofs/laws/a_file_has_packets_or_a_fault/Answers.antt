use Rattle.cq_pcap.proofs.SpeltIsRead.{fault_is_read, spelt_is_read}
use Rattle.cq_pcap.proofs.laws.a_file_has_packets_or_a_fault.Goals as goal

pub returns-clause-never_both : goal.returns-clause-never_both
returns-clause-never_both c bytes packets fault s f = cc (spelt_is_read bytes packets s, fault_is_read bytes fault f)

pub returns-clause-one_list : goal.returns-clause-one_list
returns-clause-one_list c bytes packets others s t = cc (spelt_is_read bytes packets s, spelt_is_read bytes others t)
