-- What the words of a ledger and the views of its seats say. Word 0 has a bit for each input that is claimed. Word j
-- + 1 is the least position that has proposed to output j, or the number of ports where nobody has.
use Rattle.std.specs.Prelude.{ℕ, ◌≡◌, ◌⊎◌, List, Some, slice_index}
use Rattle.std.specs.Int.{bit_at}
use mathlib.Core.Option.{some}
use lib.ListN.{get_elem?}
use Rattle.cq_ledger.specs.declared.view.View.{View}

-- bit i of a number
unfoldable pub bit : ℕ → ℕ → ℕ
bit n i = bit_at n i

-- the word of claims
abbrev pub claim_word : List ℕ → ℕ
claim_word words = slice_index words 0

-- input i is claimed
abbrev pub IsClaimed : List ℕ → ℕ → Type 0
IsClaimed words i = bit (claim_word words) i ≡ 1

-- input i is not claimed
abbrev pub IsUnclaimed : List ℕ → ℕ → Type 0
IsUnclaimed words i = bit (claim_word words) i ≡ 0

-- seat a has this view
abbrev pub Sits : List View → ℕ → View → Type 0
Sits views a v = get_elem? views a ≡ some v

-- a seat with this view has claimed input i
abbrev pub HasClaimed : View → ℕ → Type 0
HasClaimed v i = bit v.claims i ≡ 1

-- a seat with this view has found input i claimed
abbrev pub HasSeen : View → ℕ → Type 0
HasSeen v i = bit v.seen i ≡ 1

-- one of the seats has claimed input i
abbrev pub IsClaimedByOne : List View → ℕ → Type 0
IsClaimedByOne views i = (a : ℕ) × (v : View) × Sits views a v × HasClaimed v i

-- input i is in the hand of one of the seats
abbrev pub IsInAHand : List View → ℕ → Type 0
IsInAHand views i = (a : ℕ) × (v : View) × (p : ℕ) × Sits views a v × (v.hand ≡ Some (i, p))

-- input i waits to be claimed, or in a hand
abbrev pub Waits : List ℕ → List View → ℕ → Type 0
Waits words views i = IsUnclaimed words i ⊎ IsInAHand views i
