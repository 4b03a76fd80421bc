-- What is written is spelt: the header is one of the form, each record fits, and the seconds and nanoseconds of a
-- stamp below 2^32 seconds make the stamp again.
use Rattle.cq_pcap.proofs.Terms.{rules, ◌≡◌, List, [], ◌∷◌, map, refl, arith, true, false, common_steps, AllByRecursion, Form, OutPacket, number_at, Fits, IsHeader, Spells, captured_of, IsWritable, read_again, written, written_header, written_record, flat_map-map}

-- the form that is written
abbrev little_nanos : Form
little_nanos = record { big = false; nano = true }

-- each record fits, and makes its packet again
records_kept : (ps : List OutPacket) → AllByRecursion IsWritable ps → AllByRecursion Fits (map written_record ps)
    × (map (captured_of little_nanos) (map written_record ps) ≡ map read_again ps)
records_kept [] w = (tt, refl)
records_kept (p ∷ ps) w = search (arith, rules, records_kept ps w.1)

begins : IsHeader little_nanos written_header
unfolding number_at
begins = record { len = refl; magic = refl; version = record { major = refl; minor = refl }; link = refl }

pub written_is_spelt : (ps : List OutPacket) → AllByRecursion IsWritable ps → Spells (written ps) (map read_again ps)
written_is_spelt ps w = grind (arith, common_steps, begins, flat_map-map, records_kept)
