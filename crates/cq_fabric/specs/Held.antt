-- Only proofs use this.
-- That a limiter counts what the outputs of a fabric hold.
use Rattle.std.specs.Prelude.{◌≡◌, length}
use Rattle.cq_ideal.specs.Limiter.{LimiterView}
use Rattle.cq_laws.specs.Fabric.{Fabric}
use Rattle.cq_laws.specs.Holding.{fabric_held}

-- the outputs hold the cells for them, at all inputs and in their buffers
pub record HoldsFabric (f : Fabric) (limiter : LimiterView) : Type 0 where
  pub ports : length limiter.limits ≡ length f.inputs
  pub held : limiter.held ≡ fabric_held f
