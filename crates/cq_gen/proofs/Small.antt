-- Made packets are small: each fits a record, and all records of an input fit a file. So the file that is written is
-- read again as the same packets.
use Rattle.cq_gen.proofs.Terms.{rules, ◌≡◌, ℕ, ◌*◌, ◌<◌, ◌≤◌, ◌^◌, List, [], ◌∷◌, length, map, Ok, refl, ap, sym, subst, arith, length-append, common_steps, length-map, length-map-range_with_len, AllByRecursion, flat_map, most_soak_slots, Captured, IsWritable, read_again, record_of, written, frame_of, packet_of, packets_to, to_write, packets_of, OutPacket, spelt_is_read, written_is_spelt, all_made, ◌+◌, ◌++◌, map-append, draw_for, counted_more, written_with}

-- a packet of 60 bytes, with a stamp below 2^32 seconds
record IsSmall (p : Captured) : Type 0 where
  stamp : p.stamp < 2 ^ 32 * 1000000000
  original : p.original ≡ 60
  body : length p.body ≡ 60

packet_small : (ports slot input word : ℕ) → slot < most_soak_slots → IsSmall (packet_of ports slot input word)
unfolding packet_of frame_of
packet_small ports slot input word early = record { stamp = omega arith; original = refl; body = refl }

packets_small : (words : List ℕ) (ports slots input : ℕ) → slots ≤ most_soak_slots →
    AllByRecursion IsSmall (packets_to words ports slots input)
unfolding packets_to
packets_small words ports slots input few = grind (arith, common_steps, all_made IsSmall, packet_small ports)

pub length-packets_to : (words : List ℕ) (ports slots input : ℕ) → length (packets_to words ports slots input) ≡ slots
unfolding packets_to
length-packets_to words ports slots input = grind (arith, common_steps, length-map-range_with_len)

-- ## What is written of small packets

-- the records of packets
abbrev spelt : List OutPacket → List ℕ
spelt ps = flat_map record_of ps

are_written : (ps : List OutPacket) → AllByRecursion IsSmall (map read_again ps) →
    AllByRecursion IsWritable ps × (length (spelt ps) ≡ 76 * length ps)
are_written [] small = (tt, refl)
are_written (p ∷ ps) small = search (arith, rules, length-append, are_written ps small.1)

-- ## The packets of an input

again : (ps : List Captured) → map read_again (map to_write ps) ≡ ps
again [] = refl
again (p ∷ ps) = ap (λ (qs : List Captured). p ∷ qs) (again ps)

module _ (words : List ℕ) (ports slots input : ℕ) (few : slots ≤ most_soak_slots) (bytes : List ℕ)
    (wrote : bytes ≡ written (map to_write (packets_to words ports slots input))) where
  abbrev packets : List Captured
  packets = packets_to words ports slots input

  small : AllByRecursion IsSmall (map read_again (map to_write packets))
  small = subst (AllByRecursion IsSmall) (sym (again packets)) (packets_small words ports slots input few)

  pub file_small : length bytes ≤ 2 ^ 28
  file_small = search (arith, rules, length-map, length-packets_to, are_written, small, length-append)

  pub file_read : packets_of bytes ≡ Ok (packets_to words ports slots input)
  file_read =
      let ps = map to_write packets in
      rw (wrote, spelt_is_read (written ps) _ (written_is_spelt ps (are_written ps small).0), again packets) refl

-- ## The packets of an input are put into its file one after another: after each slot it is the file of those so far

module _ (words : List ℕ) (ports input : ℕ) where
  abbrev made_in : ℕ → Captured
  made_in slot = packet_of ports slot input (draw_for words ports slot input)

  -- with one slot more
  more : (slot : ℕ) → packets_to words ports slot input ++ made_in slot ∷ [] ≡ packets_to words ports (slot + 1) input
  unfolding packets_to
  more slot = search (rules, counted_more)

  pub one_put : (slot : ℕ) (bytes new : List ℕ) → bytes ≡ written (map to_write (packets_to words ports slot input)) →
      new ≡ bytes ++ record_of (to_write (packet_of ports slot input (draw_for words ports slot input))) →
      new ≡ written (map to_write (packets_to words ports (slot + 1) input))
  one_put slot bytes new so_far put =
      let ps = packets_to words ports slot input in
      let with = written_with (map to_write ps) (to_write (made_in slot)) in
      cc (with, map-append to_write ps (made_in slot ∷ []), more slot)
