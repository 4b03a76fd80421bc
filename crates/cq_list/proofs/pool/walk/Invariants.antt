use Rattle.cq_list.proofs.Terms.{get, linked, places, EndsAt}
use Rattle.cq_list.proofs.Put.{is_no_sooner}
use Rattle.cq_list.proofs.Walk.{HasPassed}
use Rattle.cq_list.proofs.pool.walk.Given as goal

-- the cells so far are more urgent, and the place of the last of them is known
abbrev pub invariant-nodes : goal.invariant-nodes
invariant-nodes l = HasPassed (get l.nodes) l.queue (is_no_sooner l.key) l.count l.place × EndsAt
    (places (linked (get l.nodes) l.queue)) l.count l.last
