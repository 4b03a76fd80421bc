use Rattle.std.proofs.Common.{rules}
use Rattle.cq_frame.specs.Frame.{code_point, ether_type, priority}
use Rattle.cq_frame.proofs.frame.parts.Goals as goal

pub returns-then-not-is_tag-2-clause-pcp : goal.returns-then-not-is_tag-2-clause-pcp
unfolding priority
returns-then-not-is_tag-2-clause-pcp c = search rules

pub returns-then-not-is_tag-2-clause-ether_type : goal.returns-then-not-is_tag-2-clause-ether_type
unfolding ether_type
returns-then-not-is_tag-2-clause-ether_type c = search rules

pub returns-then-not-is_tag-2-clause-dscp : goal.returns-then-not-is_tag-2-clause-dscp
unfolding code_point
returns-then-not-is_tag-2-clause-dscp c = search rules

pub returns-clause-pcp : goal.returns-clause-pcp
unfolding priority
returns-clause-pcp c = search rules
