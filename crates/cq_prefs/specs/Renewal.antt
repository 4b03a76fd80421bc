-- Orders that are known but for the pairs of a matching.
use Rattle.std.specs.Prelude.{◌≡◌, ℕ, ◌==◌, Bool, false, not, List, length, filter, Option, None, Some}
use Rattle.cq_prefs.specs.Orders.{Orders, outputs_of, inputs_of}
use Rattle.cq_prefs.specs.Pairing.{Partners, partner_of}

-- an order without one port
abbrev pub without : ℕ → List ℕ → List ℕ
without port order = filter (λ other. not (other == port)) order

-- whether an output is the partner
abbrev pub is_partner : Option ℕ → ℕ → Bool
is_partner None j = false
is_partner (Some k) j = j == k

-- whether the matching has the pair of input i and output j
abbrev pub is_pair : Partners → ℕ → ℕ → Bool
is_pair m i j = is_partner (partner_of m i) j

-- the order of input i with the pairs of the matching taken out
abbrev pub outputs_without : Partners → Orders → ℕ → List ℕ
outputs_without m o i = filter (λ j. not (is_pair m i j)) (outputs_of o i)

-- the order of output j with the pairs of the matching taken out
abbrev pub inputs_without : Partners → Orders → ℕ → List ℕ
inputs_without m o j = filter (λ i. not (is_pair m i j)) (inputs_of o j)

-- with the pairs of the matching taken out of all orders, both are the same
pub record AreSameWithout (m : Partners) (o p : Orders) : Type 0 where
  pub ports : (length o.outputs ≡ length p.outputs) × (length o.inputs ≡ length p.inputs)
  pub outputs : (i : ℕ) → outputs_without m o i ≡ outputs_without m p i
  pub inputs : (j : ℕ) → inputs_without m o j ≡ inputs_without m p j
