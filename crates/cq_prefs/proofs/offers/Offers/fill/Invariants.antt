use Rattle.cq_prefs.proofs.Terms.{◌≡◌, ◌≤◌, length, map, most_ports, All, AreWaiting, output_order}
use Rattle.cq_prefs.proofs.Renewing.{Made}
use Rattle.cq_prefs.proofs.offers.Offers.fill.Given as goal

-- all lists are read, and the orders of the outputs before this one are made
abbrev pub invariant-loop-output : goal.invariant-loop-output
invariant-loop-output l = record {
  outputs : l.self-inside.by_input.items ≡ map (λ w. output_order w.cells) l.lists;
  waiting : All (λ w. AreWaiting w.outputs w.cells) l.lists;
  few : length l.lists ≤ most_ports;
  made : Made l.lists l.output l.self-inside.by_output.items;
}
