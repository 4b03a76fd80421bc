use Rattle.cq_resume.proofs.Terms.{refl, leb, ltb, IsNonDecreasingBy-take, IsPartitionedBy-leb, IsPartitionedBy-ltb}
use Rattle.cq_resume.proofs.Cut.{cut_at}
use Rattle.cq_resume.proofs.between.between.Goals as goal

pub returns : goal.returns
returns g c key n no_more less rising =
    cut_at key n _ _ _ _ c.partition_point-end.ensures.bound c.partition_point-start.ensures.bound refl
    (c.partition_point-end.ensures.partitioned (λ x. leb (key x) n) no_more (IsPartitionedBy-leb key _ n rising))
    (c.partition_point-start.ensures.partitioned (λ x. ltb (key x) n) less
    (IsPartitionedBy-ltb key _ n (IsNonDecreasingBy-take key _ _ rising)))
