-- Inputs that leave. The last of the free ones is taken out where it stands, since no input is free twice. And inputs
-- that are parted one after another, from the first on, leave no pair.
use Rattle.cq_pair.proofs.Terms.{common_steps, ◌≡◌, ℕ, suc, ◌+◌, ◌-◌, ◌<◌, eqb, List, ◌∷◌, length, take, replicate, Some, None, arith, slice_get, IsDistinct, nil_from_length, same_Some, Partners, Apart, without_here, without_there, without, Has, has_there, ap, sym, ◌∙◌, get_or, place_in, place_in-get_or, left_by, not_there, length-set, take_all, take_more_set}
use Rattle.cq_prefs.proofs.OneOrder.{apart}
use Rattle.cq_prefs.proofs.Offering.{few_offers, offers-more, offers-same}

-- a port stands where it is seen
pub seen : (order : List ℕ) (p x : ℕ) → IsDistinct eqb order → p < length order → get_or order p 0 ≡ x →
    place_in order x ≡ p
seen order p x differ inside e = ap (place_in order) (sym e) ∙ place_in-get_or order p differ inside

-- ## The last of all

pub last_apart : (xs : List ℕ) (k x : ℕ) → k + 1 ≡ length xs → Apart xs → slice_get xs k ≡ Some x →
    take k xs ≡ without x xs
last_apart (y ∷ ys) (suc k) x e a h = grind (arith, common_steps, Has, has_there, without_there, last_apart ys k x)
last_apart xs k x e a h = grind (arith, common_steps, nil_from_length, without_here, same_Some)

-- ## One after another

-- of so many ports the first n have no partner
pub record ArePartedBefore (n ports : ℕ) (m : Partners) : Type 0 where
  pub size : length m ≡ ports
  pub parted : take n m ≡ replicate n None

pub ruleset fill_steps = (few_offers, offers-more, offers-same)

pub ruleset leave_steps = (last_apart, apart, left_by, not_there)

pub ruleset part_all_steps = (length-set, take_all, take_more_set)
