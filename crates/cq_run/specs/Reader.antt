-- How captures are read: by the grammar of the format and its faults (`cq_pcap`), whatever reads them.
use Rattle.std.specs.Prelude.{◌≡◌, ℕ, List, Result, Ok, Err}
use Rattle.cq_pcap.specs.Captured.{Captured}
use Rattle.cq_pcap.specs.declared.read.PcapRefusal.{PcapRefusal}
use Rattle.cq_pcap.specs.Faults.{IsFaulty}
use Rattle.cq_pcap.specs.Record.{Spells}

-- what a file comes to: the packets that its bytes spell, or the first fault that they have. Of bytes there is one
-- answer, and some reader gives it (`captures_are_read_in_one_way`)
pub record Reader : Type 0 where
  pub read : List ℕ → Result (List Captured) PcapRefusal
  pub spelt : (bytes : List ℕ) (packets : List Captured) → Spells bytes packets → read bytes ≡ Ok packets
  pub faulty : (bytes : List ℕ) (fault : PcapRefusal) → IsFaulty bytes fault → read bytes ≡ Err fault
