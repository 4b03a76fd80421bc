use Rattle.cq_pair.proofs.Terms.{◌≢◌, ◌≡◌, ◌<◌, ◌≤◌, ◌↔◌, ℕ, All, IsDistinct, IsSome, IfSome, List, None, Option, Some, arith, eqb, get_or, get_or-place_in, get_or-take, length, length-take-le, place_in, refl, rules, take}
use Rattle.std.proofs.lemmas.List.Elements.{All-get_or}
use Rattle.cq_pair.proofs.Leaving.{seen}
use Rattle.cq_pair.proofs.before.place_before.Goals as goal

-- the last of the first so many ports that is this one stands at its place
last_seen : (order : List ℕ) (end port : ℕ) (r : Option ℕ) → IsDistinct eqb order → end ≤ length order →
    ((i : ℕ) → r ≡ Some i → (i < length (take end order)) × (get_or (take end order) i 0 ≡ port)) →
    (r ≡ None → All (λ x. x ≢ port) (take end order)) →
    (IsSome r ↔ (place_in order port < end)) × IfSome r (λ place. place ≡ place_in order port)
last_seen order end port (Some i) differ inside found none =
    search (arith, rules, found i refl, length-take-le end order, seen order i port, get_or-take end order i 0)
last_seen order end port None differ inside found none =
    let away = All-get_or (λ x. x ≢ port) (take end order) (place_in order port) 0 in
    search (arith, rules, away, none, length-take-le end order, get_or-take end order, get_or-place_in order port)

pub returns : goal.returns
returns c = search (arith, rules, last_seen c.args.order.now c.args.end c.args.port c.rposition.result)
