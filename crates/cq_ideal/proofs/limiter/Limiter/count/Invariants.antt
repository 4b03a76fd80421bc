use Rattle.cq_ideal.proofs.Terms.{◌≡◌, ◌-◌, drop, length, refused, with_refused, CanCount}
use Rattle.cq_ideal.proofs.limiter.Limiter.count.Given as goal

-- what is counted so far, with those that are still to be counted, is what is counted in all
abbrev pub invariant-inputs : goal.invariant-inputs
invariant-inputs l = record {
  limits : l.self.limits ≡ l.fn.self.limits;
  held : l.self.held ≡ l.fn.self.held;
  marks : l.self.marks ≡ l.fn.self.marks;
  counted :
      with_refused (refused (drop l.input l.fn.self.marks) (drop l.input l.arrivals)) l.self.refused
      ≡ with_refused (refused l.fn.self.marks l.arrivals) l.fn.self.refused;
  few : CanCount (length l.fn.self.limits - l.input) l.self.refused;
}
