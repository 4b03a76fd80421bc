use Rattle.cq_resume.proofs.Terms.{◌≡◌, flat_map, map, take, named_as}
use Rattle.cq_resume.proofs.write.all_named.Given as goal

abbrev pub invariant-queues : goal.invariant-queues
invariant-queues l = l.named.items ≡ map named_as (flat_map (λ cells. cells) (take l.queue-index l.queues))
