-- Only proofs use this.
-- How the open packets lie in a slab, each under the key that stands at its place.
use Rattle.std.specs.Prelude.{◌≡◌, ℕ, List, Option, None, Some, option_map, slice_index_or}
use Rattle.slab.specs.Slab.{Slab, get, ContainsKey}
use Rattle.cq_reasm.specs.declared.open_packets.OpenPacket.{OpenPacket}
use Rattle.cq_reasm.specs.Open.{Open}

-- what is open in a packet of the slab
abbrev pub open_of : OpenPacket → Open
open_of packet = record { packet = packet.number; taken = packet.taken; body = packet.body.items }

-- the packet under a key, if there is one
abbrev pub packet_under : Slab OpenPacket → Option ℕ → Option Open
packet_under packets None = None
packet_under packets (Some key) = option_map open_of (get packets key)

-- the key stands at a place
abbrev pub StandsAt : List (Option ℕ) → ℕ → ℕ → Type 0
StandsAt keys place key = slice_index_or keys place None ≡ Some key

-- under each key that stands at a place is a packet, no key stands at two places, and the key of each packet of the
-- slab stands at one
pub record IsTable (packets : Slab OpenPacket) (keys : List (Option ℕ)) : Type 0 where
  pub present : (place key : ℕ) → StandsAt keys place key → ContainsKey packets key
  pub apart : (place other key : ℕ) → StandsAt keys place key → StandsAt keys other key → place ≡ other
  pub placed : (key : ℕ) → ContainsKey packets key → (place : ℕ) × StandsAt keys place key
