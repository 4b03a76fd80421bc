-- Matchings of offers, which of them are stable, and which is the best for the inputs (Gale and Shapley 1962).
use Rattle.std.specs.Prelude.{ℕ, ◌≡◌, ◌≢◌, ◌+◌, ◌<◌, ◌≤◌, ◌⊎◌, List, length, map, sum, Option, Some, None, slice_index_or, slice_set}
use Rattle.std.specs.List.{range_with_len}
use Rattle.cq_prefs.specs.Orders.{Orders, ports, outputs_of, place_in, place_of, position_of, IsOffered}

-- a set of pairs in which no input is twice: per input its partner, if it has one
abbrev pub Partners : Type 0
Partners = List (Option ℕ)

-- the partner of input i
abbrev pub partner_of : Partners → ℕ → Option ℕ
partner_of m i = slice_index_or m i None

-- the set with the pair of input i and output j more
abbrev pub with_pair : Partners → ℕ → ℕ → Partners
with_pair m i j = slice_set m i (Some j)

-- the set without the pair of input i
abbrev pub without_pair : Partners → ℕ → Partners
without_pair m i = slice_set m i None

-- each pair is of two ports, and no output is in two of them
pub record ArePairs (m : Partners) : Type 0 where
  pub ports : (i j : ℕ) → partner_of m i ≡ Some j → j < length m
  pub once : (i k j : ℕ) → partner_of m i ≡ Some j → partner_of m k ≡ Some j → i ≡ k

-- no pair has input i
abbrev pub IsFreeInput : Partners → ℕ → Type 0
IsFreeInput m i = partner_of m i ≡ None

-- no pair has output j
abbrev pub IsFreeOutput : Partners → ℕ → Type 0
IsFreeOutput m j = (i : ℕ) → partner_of m i ≢ Some j

-- a matching: offered pairs in which no output is twice
pub record IsMatching (o : Orders) (m : Partners) : Type 0 where
  pub size : length m ≡ ports o
  pub offered : (i j : ℕ) → partner_of m i ≡ Some j → IsOffered o i j
  pub once : (i k j : ℕ) → partner_of m i ≡ Some j → partner_of m k ≡ Some j → i ≡ k

-- how far down an order a partner stands: nobody stands at the end
abbrev pub depth : List ℕ → Option ℕ → ℕ
depth order None = length order
depth order (Some j) = place_in order j

-- the place of the partner of input i, or the length of its order where it has none
abbrev pub partner_place : Orders → Partners → ℕ → ℕ
partner_place o m i = depth (outputs_of o i) (partner_of m i)

-- input i has a partner that it prefers to output j
abbrev pub HasBetterOutput : Orders → Partners → ℕ → ℕ → Type 0
HasBetterOutput o m i j = partner_place o m i < place_of o i j

-- output j has a partner that it prefers to input i
abbrev pub HasBetterInput : Orders → Partners → ℕ → ℕ → Type 0
HasBetterInput o m i j = (k : ℕ) × (partner_of m k ≡ Some j) × (position_of o j k < position_of o j i)

-- a stable matching: each offered pair outside it has an end with a partner that it prefers
pub record IsStable (o : Orders) (m : Partners) : Type 0 where
  pub matching : IsMatching o m
  pub settled : (i j : ℕ) → IsOffered o i j → partner_of m i ≢ Some j → HasBetterOutput o m i j ⊎ HasBetterInput o m i j

-- the stable matching that is best for the inputs: in no stable matching has any input a partner that it prefers
pub record IsInputBest (o : Orders) (m : Partners) : Type 0 where
  pub stable : IsStable o m
  pub best : (n : Partners) → IsStable o n → (i : ℕ) → partner_place o m i ≤ partner_place o n i

-- how many outputs of an order an input proposes to until it has this partner: all of them, where it stays without
abbrev pub spent : List ℕ → Option ℕ → ℕ
spent order None = length order
spent order (Some j) = place_in order j + 1

-- the proposals of a matching: the sum over all inputs
abbrev pub proposals : Orders → Partners → ℕ
proposals o m = sum (map (λ i. spent (outputs_of o i) (partner_of m i)) (range_with_len 0 (ports o)))
