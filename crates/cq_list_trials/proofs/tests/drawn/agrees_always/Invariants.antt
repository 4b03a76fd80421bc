use Rattle.cq_list_trials.proofs.tests.drawn.agrees_always.Given as goal

-- it awaits the call of this slot
abbrev pub invariant-calls : goal.invariant-calls
invariant-calls g l = g.K.Keeper.awaits l.slot l.keeper
