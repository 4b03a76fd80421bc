-- Only proofs use this.
-- A place as the code keeps it.
use Rattle.cq_state.specs.StateText as text
use Rattle.cq_state.specs.declared.next.Place.{Place}

-- the place of the definitions that it stands for
abbrev pub place_of : Place → text.Place
place_of p = record { due = p.due.now; seen = p.seen; ports = p.ports }
