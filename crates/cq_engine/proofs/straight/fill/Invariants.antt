use Rattle.cq_engine.proofs.Terms.{◌≤◌, length, AreApart, AreSent}
use Rattle.cq_engine.proofs.straight.fill.Given as goal

-- the cells that came to the inputs before this one are at the places of their outputs, no two at one
abbrev pub invariant-inputs : goal.invariant-inputs
invariant-inputs l = record {
  wide : l.ports ≤ length l.gone;
  sent : AreSent l.input l.ports l.came l.gone;
  apart : AreApart l.input l.came;
}
