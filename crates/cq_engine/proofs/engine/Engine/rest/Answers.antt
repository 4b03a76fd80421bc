-- An engine that rested is in step with an ideal switch that is empty too.
use Rattle.cq_engine.proofs.Terms.{rules, arith, length-map, rested_limited_run, still_held, common_steps, ◌≡◌, ℕ, ◌≤◌, List, length, Figures, Machine, Fabric, IsEmptyFabric, no_place, rested_agrees, IsInStep, IsSeen, Look, length-idle, empty_is}
use Rattle.cq_engine.proofs.Shown.{up}
use Rattle.cq_engine.specs.declared.measure.Look.TheVariants as look
use Rattle.cq_engine.proofs.engine.Engine.rest.Goals as goal

rested_in_step : (ms : List Machine) (slot later : ℕ) (x : Figures) (f : Fabric) (rested : List (List ℕ)) →
    slot ≤ later →
    IsEmptyFabric f → IsInStep ms slot x f →
    IsInStep ms later x (record { inputs = f.inputs; buffers = f.buffers; ranks = rested })
rested_in_step ms slot later x f rested le empty had =
    grind (arith, common_steps, rested_agrees slot later f had.ideal rested, had.counts.inputs, had.counts.outputs)

-- where no cell waits, each that waits has more slack
rested_seen : (looks : Look) (x : Figures) (f : Fabric) (rested : List (List ℕ)) → IsEmptyFabric f →
    length f.buffers ≡ length f.inputs → length x.inputs ≡ length f.inputs →
    IsSeen looks x (record { inputs = f.inputs; buffers = f.buffers; ranks = rested })
rested_seen looks x f rested empty square ports = grind (arith, common_steps, empty_is, no_place)

pub invariant_of-self : goal.invariant_of-self
invariant_of-self g c = search (arith, rules, up, rested_in_step, rested_seen, length-idle, still_held)

pub returns : goal.returns
returns g c = search (arith, rules, up, length-map, rested_limited_run)
