-- What a proposal core shows, and how it changes.
use Rattle.std.specs.Prelude.{ℕ, ◌≡◌, ◌↔◌, ◌<◌, ◌+◌, ◌&&◌, Bool, nat_lt, is_none, IfSome, IsSome, List, [], Option, length, filter, slice_index, slice_set}
use Rattle.std.specs.List.{range_with_len}
use Rattle.cq_prefs.specs.Orders.{Orders, AreOffers, ports, outputs_of, position_of}
use Rattle.cq_prefs.specs.Pairing.{IsFreeInput, IsFreeOutput, Partners, partner_of, with_pair, without_pair}
use Rattle.cq_prefs.specs.Proposals.{position_held, next_place, next_output, matching_of, free_inputs}
pub use Rattle.cq_prefs.specs.Proposals.{State, start, propose, IsFree, IsQuiescent, state_after, AreEvents}

-- how far the proposals have come: their state, the pairs of those who are held, the free inputs in order of number,
-- and how many proposals were made
pub record Progress : Type 0 where
  pub state : State
  pub matching : Partners
  pub free : List ℕ
  pub made : ℕ

-- no ports, and nothing proposed
abbrev pub no_progress : Progress
no_progress = record { state = record { positions = []; places = [] }; matching = []; free = []; made = 0 }

-- proposals over these offers have led here, from the beginning on
pub record IsReached (o : Orders) (c : Progress) : Type 0 where
  pub events : List ℕ
  pub are_events : AreEvents o events
  pub state : c.state ≡ state_after o events
  pub matching : c.matching ≡ matching_of o c.state
  pub free : c.free ≡ free_inputs o c.state
  pub made : c.made ≡ length events

-- input i is free and asks output j, which holds position h, and p is its own position there, if that is less
pub record IsAsk (o : Orders) (c : Progress) (i j h : ℕ) (p : Option ℕ) : Type 0 where
  pub offers : AreOffers o
  pub reached : IsReached o c
  pub free : IsFree o c.state i
  pub output : j ≡ next_output o c.state i
  pub held : h ≡ position_held c.state (next_output o c.state i)
  pub ahead : IsSome p ↔ (position_of o (next_output o c.state i) i < h)
  pub position : IfSome p (λ q. q ≡ position_of o (next_output o c.state i) i)

-- whether input i has no partner, and an output is left to which it has not proposed
abbrev pub is_waiting : Orders → List ℕ → Partners → ℕ → Bool
is_waiting o places m i = nat_lt (slice_index places i) (length (outputs_of o i)) && is_none (partner_of m i)

-- the inputs of which this is so
abbrev pub waiting_inputs : Orders → List ℕ → Partners → List ℕ
waiting_inputs o places m = filter (is_waiting o places m) (range_with_len 0 (ports o))

-- the free inputs that are shown are those by the places and the pairs that are shown
abbrev pub ShowsWaiting : Orders → Progress → Type 0
ShowsWaiting o c = c.free ≡ waiting_inputs o c.state.places c.matching

-- input i goes on to its next place, as one proposal more
pub record MovesOn (o : Orders) (c d : Progress) (i : ℕ) : Type 0 where
  pub positions : d.state.positions ≡ c.state.positions
  pub places : d.state.places ≡ slice_set c.state.places i (next_place c.state i + 1)
  pub matching : d.matching ≡ c.matching
  pub made : d.made ≡ c.made + 1
  pub waiting : ShowsWaiting o d

-- input i is parted from its partner
pub record Parts (o : Orders) (c d : Progress) (i : ℕ) : Type 0 where
  pub state : d.state ≡ c.state
  pub matching : d.matching ≡ without_pair c.matching i
  pub made : d.made ≡ c.made
  pub waiting : ShowsWaiting o d

-- input i can be given to output j: both are ports of all that is shown, neither has a partner, and the free inputs
-- that are shown are those that wait
pub record CanTake (o : Orders) (c : Progress) (i j : ℕ) : Type 0 where
  pub input : i < length c.matching
  pub output : j < length c.matching
  pub known : i < ports o
  pub places : i < length c.state.places
  pub positions : j < length c.state.positions
  pub free_input : IsFreeInput c.matching i
  pub free_output : IsFreeOutput c.matching j
  pub waiting : ShowsWaiting o c

-- output j takes input i, which has position p there
pub record Takes (o : Orders) (c d : Progress) (i j p : ℕ) : Type 0 where
  pub positions : d.state.positions ≡ slice_set c.state.positions j p
  pub places : d.state.places ≡ c.state.places
  pub matching : d.matching ≡ with_pair c.matching i j
  pub made : d.made ≡ c.made
  pub waiting : ShowsWaiting o d
