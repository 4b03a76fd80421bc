-- One order of the proposals, so that one matching can be computed from the offers alone: the least free input proposes
-- until nobody is free.
use Rattle.std.specs.Prelude.{ℕ, zero, suc, ◌*◌, find, Option, Some, None}
use Rattle.std.specs.List.{range_with_len}
use Rattle.cq_prefs.specs.Orders.{Orders, ports}
use Rattle.cq_prefs.specs.Pairing.{Partners}
use Rattle.cq_prefs.specs.Proposals.{State, start, propose, is_free, matching_of}

-- the least free input, if there is one
unfoldable pub least_free : Orders → State → Option ℕ
least_free o s = find (is_free o s) (range_with_len 0 (ports o))

-- the state after the proposal of this input, or the same state where there is none
abbrev pub propose_if : Orders → State → Option ℕ → State
propose_if o s None = s
propose_if o s (Some i) = propose o s i

-- the state after n turns, in each of which the least free input proposes, if there is one
abbrev pub state_at : Orders → ℕ → State
state_at o zero = start o
state_at o (suc n) = propose_if o (state_at o n) (least_free o (state_at o n))

-- the matching in which these proposals end: there are never more of them than the number of ports squared
unfoldable pub best : Orders → Partners
best o = matching_of o (state_at o (ports o * ports o))
