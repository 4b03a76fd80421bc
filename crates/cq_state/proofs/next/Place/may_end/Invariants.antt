use Rattle.cq_state.proofs.Terms.{length, HasAll}
use Rattle.cq_state.proofs.next.Place.may_end.Given as goal

-- whether the text may end at a place is told where these kinds are due
abbrev pub invariant-kinds : goal.invariant-kinds
invariant-kinds l = record {
  forth : HasAll l.due l.seen l.self.ports → HasAll l.self.due.now l.self.seen l.self.ports;
  back : HasAll l.self.due.now l.self.seen l.self.ports → HasAll l.due l.seen l.self.ports;
}

abbrev pub decreases-kinds : goal.decreases-kinds
decreases-kinds l = length l.due
