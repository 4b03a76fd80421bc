-- One more packet adds its record at the end of the file.
use Rattle.cq_pcap.proofs.Terms.{◌≡◌, ℕ, ◌+◌, ◌<◌, List, [], ◌∷◌, ◌++◌, length, take, get_or, append_assoc, flat_map-append, append-nil, take_more, record_of, written, OutPacket}

-- the file with one more packet
pub written_with : (packets : List OutPacket) (p : OutPacket) →
    written packets ++ record_of p ≡ written (packets ++ p ∷ [])
written_with packets p = simp (append_assoc, append-nil, flat_map-append)

pub written-more : (packets : List OutPacket) (i : ℕ) (p : OutPacket) → i < length packets → p ≡ get_or packets i p →
    written (take i packets) ++ record_of p ≡ written (take (i + 1) packets)
written-more packets i p h e = cc (take_more packets i p h, written_with (take i packets) p)
