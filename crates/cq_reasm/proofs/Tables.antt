-- The open packets lie in a slab under keys, no key stands at two places, and each packet of the slab stands at one.
-- So what happens under one key changes what is seen at its own place, and at no other.
use Rattle.cq_reasm.proofs.Terms.{common_steps, rules, ◌≡◌, ◌≢◌, ℕ, zero, suc, ◌<◌, List, length, map, get_or, set, Option, None, Some, refl, sym, ap, ◌∙◌, ⊎_elim, ◌⊎◌, arith, replicate, option_map, same_Some, cases_eq, get_or-set_same, get_or-set_other, set-get_or, length-map, Open, grown, with_piece, get_or_read, ext_get_or, length-set, on_ok_weaker}
use Rattle.std.proofs.Math.ListN.{get_or-map}
use Rattle.std.proofs.lemmas.List.{get_or-map as read_map}
use Rattle.slab.specs.Slab.{Slab, get}
use Rattle.cq_reasm.specs.declared.open_packets.OpenPacket.{OpenPacket}
use Rattle.cq_reasm.specs.Table.{packet_under, IsTable}

-- ## Lists seen through a function

-- seen alike at each other place than this
pub seen_at_one : {X Y : Type 0} (f g : X → Y) (xs : List X) (p : ℕ) (x d : X) (y : Y) → g x ≡ y →
    ((q : ℕ) → q < length xs → q ≢ p → f (get_or xs q d) ≡ g (get_or xs q d)) →
    map g (set xs p x) ≡ set (map f xs) p y
seen_at_one f g xs p x d y e h =
    let seen : length (map g (set xs p x)) ≡ length xs = length-map (set xs p x) g ∙ length-set xs p x in
    let long = length-map xs f in
    ext_get_or y (map g (set xs p x)) (set (map f xs) p y) (seen ∙ sym (length-set (map f xs) p y ∙ long))
    (λ q inside. let here = read_map g (set xs p x) q d y (omega (arith, seen, length-set xs p x)) in
    grind (arith, common_steps, here, read_map f xs q d y, get_or-set_same, get_or-set_other, cases_eq q p, h q))

-- ## What is seen at a place

-- what two slabs have under a key is seen alike
seen_alike : (old new : Slab OpenPacket) (k : Option ℕ) → ((key : ℕ) → k ≡ Some key → get new key ≡ get old key) →
    packet_under old k ≡ packet_under new k
seen_alike old new k h = grind (arith, common_steps, h)

-- in a table of empty places no packet is open
pub seen_empty : (packets : Slab OpenPacket) (places : ℕ) →
    map (packet_under packets) (replicate places None) ≡ replicate places None
seen_empty packets zero = refl
seen_empty packets (suc places) = let rest = seen_empty packets places in cc

-- ## The key at a place

module _ (packets : Slab OpenPacket) (keys : List (Option ℕ)) (seen : List (Option Open)) (place : ℕ)
    (view : map (packet_under packets) keys ≡ seen) (within : place < length seen) (read : Option ℕ)
    (was_read : read ≡ get_or keys place read) where
  inside_keys : place < length keys
  inside_keys = omega (arith, length-map keys (packet_under packets), ap length view)

  key_at : get_or keys place None ≡ read
  key_at = sym (get_or_read keys place read inside_keys was_read None)

  -- where no key stands no packet is open
  pub none_open : read ≡ None → get_or seen place None ≡ None
  none_open none = grind (arith, common_steps, key_at, get_or-map (packet_under packets) keys place None)

-- ## What happens under one key

module _ (old new : Slab OpenPacket) (keys : List (Option ℕ)) (seen : List (Option Open)) (place key : ℕ)
    (table : IsTable old keys) (view : map (packet_under old) keys ≡ seen) (within : place < length seen)
    (others : (other : ℕ) → other ≢ key → get new other ≡ get old other) (read : Option ℕ)
    (was_read : read ≡ get_or keys place read) where
  inside : place < length keys
  inside = inside_keys old keys seen place view within read was_read

  -- the packet under the key of this place grows, or goes
  module _ (is : read ≡ Some key) where
    at : get_or keys place None ≡ Some key
    at = key_at old keys seen place view within read was_read ∙ is

    -- one more piece of the packet that is seen at the place
    grown_now : (number : ℕ) (piece : List ℕ) → option_map (grown piece) (packet_under old (Some key))
        ≡ Some (with_piece (get_or seen place None) number piece)
    grown_now number piece = search (arith, rules, table.present, at, get_or-map (packet_under old) keys place None)

    pub grown_seen : (number : ℕ) (piece : List ℕ) →
        packet_under new (Some key) ≡ option_map (grown piece) (packet_under old (Some key)) →
        map (packet_under new) keys ≡ set seen place (Some (with_piece (get_or seen place None) number piece))
    grown_seen number piece e =
        let there = seen_at_one (packet_under old) (packet_under new) keys place (get_or keys place None) None in
        search (arith, rules, there, set-get_or, view, at, grown_now, seen_alike, others, table.apart)

    pub closed_table : get new key ≡ None → IsTable new (set keys place None)
    closed_table gone =
        let apart = table.apart in
        search (arith, rules, inside, get_or-set_other, others, apart, table.placed, at, same_Some, get_or-set_same)

    pub closed_seen : map (packet_under new) (set keys place None) ≡ set seen place None
    closed_seen =
        let there = seen_at_one (packet_under old) (packet_under new) in
        search (arith, rules, there, view, seen_alike, others, table.apart, at)

  -- a packet comes under a key that had none
  module _ (is : read ≡ None) (vacant : get old key ≡ None) (now : Open)
      (stored : packet_under new (Some key) ≡ Some now) where
    none : get_or keys place None ≡ None
    none = key_at old keys seen place view within read was_read ∙ is

    -- what was in the slab stands where it stood, and the new packet at this place
    pub started_table : IsTable new (set keys place (Some key))
    started_table =
        record {
          present = search (arith, rules, get_or-set_same, get_or-set_other, inside, others, table.present);
          apart = search (arith, rules, get_or-set_same, get_or-set_other, inside, table.apart);
          placed = λ k h. ⊎_elim (λ same. (place, (search (arith, rules, get_or-set_same, inside)))) (λ ne.
              let was = table.placed k (search (rules, others)) in
              (was.0, (search (arith, rules, get_or-set_other, none)))) (cases_eq k key);
        }

    pub started_seen : map (packet_under new) (set keys place (Some key)) ≡ set seen place (Some now)
    started_seen =
        let there = seen_at_one (packet_under old) (packet_under new) keys place (Some key) None (Some now) stored in
        search (rules, there, seen_alike, others, view)

-- a piece that is put in
pub ruleset add_steps = (on_ok_weaker, grown_seen, started_table)
