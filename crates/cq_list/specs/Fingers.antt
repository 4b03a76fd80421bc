-- Only proofs use this.
-- Fingers into a queue: what stands ahead of some of its cells.
use Rattle.std.specs.Prelude.{◌≡◌, ℕ, ◌+◌, ◌-◌, ◌<◌, ◌≤◌, ◌⊎◌, List, Some, slice_get, slice_index_or}
use Rattle.cq_list.specs.declared.fingers.Ahead.{Ahead}

-- the last of the first so many of a queue's places is this one
abbrev pub EndsAt : List ℕ → ℕ → ℕ → Type 0
EndsAt places count place = (m : ℕ) → count ≡ m + 1 → slice_get places m ≡ Some place

-- a finger with no node ahead
abbrev pub no_finger : Ahead
no_finger = record { count = 0; last = 0 }

-- a finger of some, where one beyond the last has no node ahead
abbrev pub finger_at : List Ahead → ℕ → Ahead
finger_at fingers k = slice_index_or fingers k no_finger

-- each finger knows the place of the last node ahead of it
abbrev pub AreFingers : List ℕ → List Ahead → Type 0
AreFingers places fingers = (k : ℕ) → EndsAt places (finger_at fingers k).count (finger_at fingers k).last

-- each finger is the old one, or this one
abbrev pub AreSet : Ahead → List Ahead → List Ahead → Type 0
AreSet finger old new = (k : ℕ) → (finger_at new k ≡ finger_at old k) ⊎ (finger_at new k ≡ finger)

-- a finger with more ahead than these has some less and some more
pub record IsShifted (count less more : ℕ) (old new : Ahead) : Type 0 where
  pub stays : old.count ≤ count → new ≡ old
  pub moves : count < old.count → new ≡ record { count = old.count - less + more; last = old.last }

-- so it is with each finger
abbrev pub AreShifted : ℕ → ℕ → ℕ → List Ahead → List Ahead → Type 0
AreShifted count less more old new = (k : ℕ) → IsShifted count less more (finger_at old k) (finger_at new k)
