use Rattle.cq_list.proofs.Terms.{◌≡◌, ◌+◌, drop, is_output, place_of_nth}
use Rattle.cq_list.proofs.block.nth.Given as goal

-- the places that are left give the rest of the answer
abbrev pub invariant-places : goal.invariant-places
invariant-places l = place_of_nth (is_output l.output) l.ahead l.places ≡ l.place + place_of_nth
    (is_output l.output) l.left (drop l.place l.places)
