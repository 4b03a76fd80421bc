-- Two matchings that are best for the inputs are one. Each is stable, so each gives every input a place that is no
-- later than the other's. So the places are the same, one place of an order shows one port, and the partners are the
-- same.
use Rattle.cq_prefs.proofs.Terms.{common_steps, ℕ, ◌≡◌, ◌<◌, List, length, Option, Some, None, arith, ext_get_or, Orders, place_in, Partners, depth, IsInputBest}
use Rattle.cq_prefs.proofs.Places.{same_at_place}

same_partner : (order : List ℕ) (p r : Option ℕ) → ((j : ℕ) → p ≡ Some j → place_in order j < length order) →
    ((j : ℕ) → r ≡ Some j → place_in order j < length order) → depth order p ≡ depth order r → p ≡ r
same_partner order p r a b e = grind (arith, common_steps, a, b, same_at_place)

pub one_input_best : (o : Orders) (m n : Partners) → IsInputBest o m → IsInputBest o n → m ≡ n
one_input_best o m n a b =
    grind (arith, common_steps, ext_get_or None m n, same_partner, a.best n b.stable, b.best m a.stable)
