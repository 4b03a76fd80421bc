-- The state of the proposal core that the words, hands and claims of a ledger show.
use Rattle.std.specs.Prelude.{ℕ, ◌+◌, ◌==◌, List, [], ◌∷◌, length, map, drop, Option, Some, None, nat_eq, if◌then◌else◌}
use Rattle.std.specs.List.{range_with_len}
use Rattle.cq_prefs.specs.Orders.{Orders, ports, outputs_of, place_of}
use Rattle.cq_prefs.specs.Proposals.{State, keeper}
use Rattle.cq_ledger.specs.declared.view.View.{View}
use Rattle.cq_ledger.specs.Views.{bit, claim_word}

-- the place of input i in this hand, if the hand has it
abbrev pub place_in_hand : Option (ℕ × ℕ) → ℕ → Option ℕ
place_in_hand None i = None
place_in_hand (Some h) i = if h.0 == i then Some h.1 else None

-- the first of two places that is there
abbrev pub first_place : Option ℕ → Option ℕ → Option ℕ
first_place None q = q
first_place (Some p) q = Some p

-- the place of input i in the hands of the seats, if one has it
abbrev pub place_in_hands : List View → ℕ → Option ℕ
place_in_hands [] i = None
place_in_hands (v ∷ views) i = first_place (place_in_hand v.hand i) (place_in_hands views i)

-- the output that holds input i by these words, if one does: no place is asked
abbrev pub output_of : Orders → List ℕ → ℕ → Option ℕ
output_of o words i = keeper o (record { positions = drop 1 words; places = [] }) i

-- where input i proposes next, by the hand that has it, the output that holds it, and the claim bit: at its place in
-- the hand; or after the output; or first, where it is unclaimed; or else nowhere
abbrev pub next_by : Orders → ℕ → Option ℕ → Option ℕ → ℕ → ℕ
next_by o i (Some p) output claimed = p
next_by o i None (Some j) claimed = place_of o i j + 1
next_by o i None None claimed = if nat_eq claimed 0 then 0 else length (outputs_of o i)

-- where input i proposes next, by the words and the views
unfoldable pub next_shown : Orders → List ℕ → List View → ℕ → ℕ
next_shown o words views i = next_by o i (place_in_hands views i) (output_of o words i) (bit (claim_word words) i)

-- the state: the outputs' words are the positions, and each input proposes next where this says
unfoldable pub core_state : Orders → List ℕ → List View → State
core_state o words views =
    record { positions = drop 1 words; places = map (next_shown o words views) (range_with_len 0 (ports o)) }
