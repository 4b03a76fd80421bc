-- Only proofs use this.
-- What is known of the file of an input, and of what the inputs come to together.
use Rattle.std.specs.Prelude.{◌≡◌, ◌≤◌, ◌∷◌, ℕ, List, length, Option, IfSome, Result, Ok, Err}
use Rattle.cq_pcap.specs.declared.read.PcapRefusal.{PcapRefusal}
use Rattle.cq_pcap.specs.Faults.{IsFaulty}
use Rattle.cq_space.specs.Space.{Contents}
use Rattle.cq_run.specs.declared.stop.Halt.{Halt}
use Rattle.cq_run.specs.declared.stop.Halt.TheVariants.{NoMemory}
use Rattle.cq_run.specs.Switching.{halt_for}
use Rattle.cq_run.specs.Verdict.{file_in}

-- these are the bytes of an input's capture of this name, and not too many
pub record IsFileOf (name : List ℕ) (input limit : ℕ) (told : Option Contents) (bytes : List ℕ) : Type 0 where
  pub short : length bytes ≤ limit
  pub whole : IfSome told (λ m. file_in name input limit m ≡ Ok bytes)

-- the program stops for what is wrong with these bytes, the capture of an input, or for want of memory
pub record IsHaltFor (input : ℕ) (bytes : List ℕ) (halt : Halt) : Type 0 where
  pub found : Option PcapRefusal
  pub faulty : IfSome found (IsFaulty bytes)
  pub told : halt ≡ halt_for input found

-- the first in front of the later ones, or why there are none: the halt of the first, or else that of the later ones,
-- or else want of memory
abbrev pub IsInFront : {A : Type 0} → Result A Halt → Result (List A) Halt → Result (List A) Halt → Type 0
IsInFront (Err halt) later result = result ≡ Err halt
IsInFront (Ok x) (Err halt) result = result ≡ Err halt
IsInFront (Ok x) (Ok xs) (Ok all) = all ≡ x ∷ xs
IsInFront (Ok x) (Ok xs) (Err halt) = halt ≡ NoMemory
