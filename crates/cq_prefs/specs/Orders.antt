-- What the inputs and the outputs of a switch offer each other, and whom each of them prefers.
use Rattle.std.specs.Prelude.{ℕ, ◌≡◌, ◌<◌, ◌==◌, Bool, List, [], filter, length, nat_eq, nat_lt, replicate, slice_index_or}
use Rattle.std.specs.List.{IsDistinct, position_or_len, range_with_len}

-- per input the outputs that it offers a cell to, and per output the inputs that offer it one: the most wanted first
pub record Orders : Type 0 where
  pub outputs : List (List ℕ)
  pub inputs : List (List ℕ)

-- how many inputs there are, and as many outputs
abbrev pub ports : Orders → ℕ
ports o = length o.outputs

-- the order of input i
abbrev pub outputs_of : Orders → ℕ → List ℕ
outputs_of o i = slice_index_or o.outputs i []

-- the order of output j
abbrev pub inputs_of : Orders → ℕ → List ℕ
inputs_of o j = slice_index_or o.inputs j []

-- where a port first stands in an order, or the order's length where it does not stand there
unfoldable pub place_in : List ℕ → ℕ → ℕ
place_in order port = position_or_len (λ other. other == port) order

-- the port stands in the order
abbrev pub IsListed : List ℕ → ℕ → Type 0
IsListed order port = place_in order port < length order

-- the place of output j in the order of input i
abbrev pub place_of : Orders → ℕ → ℕ → ℕ
place_of o i j = place_in (outputs_of o i) j

-- the place of input i in the order of output j
abbrev pub position_of : Orders → ℕ → ℕ → ℕ
position_of o j i = place_in (inputs_of o j) i

-- input i and output j are offered to each other: j stands in the order of i
abbrev pub IsOffered : Orders → ℕ → ℕ → Type 0
IsOffered o i j = IsListed (outputs_of o i) j

-- whether input i has an offer
abbrev pub has_offer : Orders → ℕ → Bool
has_offer o i = nat_lt 0 (length (outputs_of o i))

-- those of the first n inputs that have an offer
abbrev pub inputs_with_offers : Orders → ℕ → List ℕ
inputs_with_offers o n = filter (has_offer o) (range_with_len 0 n)

-- nothing is offered, over so many ports
abbrev pub no_offers : ℕ → Orders
no_offers n = record { outputs = replicate n []; inputs = replicate n [] }

-- both sides have as many ports and show the same pairs, and no order has a port twice
pub record AreOffers (o : Orders) : Type 0 where
  pub square : length o.inputs ≡ ports o
  pub outputs_differ : (i : ℕ) → IsDistinct nat_eq (outputs_of o i)
  pub inputs_differ : (j : ℕ) → IsDistinct nat_eq (inputs_of o j)
  pub shown : (i j : ℕ) → IsOffered o i j → IsListed (inputs_of o j) i
  pub shown_back : (i j : ℕ) → IsListed (inputs_of o j) i → IsOffered o i j
