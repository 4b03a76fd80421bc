-- Pairs that are told from both sides.
use Rattle.std.specs.Prelude.{◌≡◌, ℕ, ◌<◌, length, Some}
use Rattle.cq_prefs.specs.Pairing.{IsFreeInput, IsFreeOutput, Partners, partner_of}

-- the one has the partner of each input, the other that of each output
pub record AreMirrored (m w : Partners) : Type 0 where
  pub size : length w ≡ length m
  pub there : (i j : ℕ) → partner_of m i ≡ Some j → partner_of w j ≡ Some i
  pub back : (i j : ℕ) → partner_of w j ≡ Some i → partner_of m i ≡ Some j

-- an input and an output are of these ports, and have no partner yet
pub record CanBeJoined (m : Partners) (i j : ℕ) : Type 0 where
  pub input : i < length m
  pub output : j < length m
  pub free_input : IsFreeInput m i
  pub free_output : IsFreeOutput m j
