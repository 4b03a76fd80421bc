use Rattle.cq_base.proofs.Terms.{◌≡◌, ◌++◌, length, map, unpacked}
use Rattle.cq_base.proofs.departures.Departures.into_room.Given as goal

-- what was put together, and then what is left, are all
abbrev pub invariant-departures : goal.invariant-departures
invariant-departures l =
    record { items : l.room.items ++ map unpacked l.left ≡ l.fn.self.items; spare : length l.left ≡ l.room.spare }

abbrev pub decreases-departures : goal.decreases-departures
decreases-departures l = length l.left
