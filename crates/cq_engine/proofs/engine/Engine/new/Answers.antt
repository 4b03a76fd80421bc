-- Before the first slot nothing waits and nothing was counted.
use Rattle.cq_engine.proofs.Terms.{arith, rules, length, map, length-map, length-replicate, ◌≡◌, ℕ, List, [], Some, replicate, common_steps, slice_get, slice_get_cases, get_or-replicate, Figures, Machine, AreForOneSwitch, empty_fabric, no_figures, empty_agree, Queues, fabric_of, LimiterView, IsInStep, IsRunning, holds_first, more_at_first}
use Rattle.cq_engine.specs.declared.measure.Look.TheVariants as look
use Rattle.cq_engine.proofs.engine.Engine.new.Goals as goal

replicated : {X : Type 0} (n i : ℕ) (x y : X) → slice_get (replicate n x) i ≡ Some y → y ≡ x
replicated n i x y h = grind (arith, common_steps, slice_get_cases, length-replicate, get_or-replicate)

first_up : (ms : List Machine) (n : ℕ) (ranks : List (List ℕ)) → AreForOneSwitch ms → length ms ≡ n →
    IsInStep ms 0 (no_figures n) (empty_fabric n ranks)
first_up ms n ranks one ports = search (arith, rules, replicated, length-replicate, empty_agree n ranks)

-- and no output holds a cell
running_first : (ms : List Machine) (n : ℕ) (ranks : List (List ℕ)) (q : Queues) (x : Figures) (l : LimiterView) →
    AreForOneSwitch ms → length ms ≡ n → length ranks ≡ n → q.inputs ≡ replicate n [] → q.buffers ≡ replicate n [] →
    x ≡ no_figures n → length l.limits ≡ n → l.held ≡ replicate n 0 →
    IsRunning ms 0 look.Arriving x (fabric_of q ranks) l
running_first ms n ranks q x l one ports states inputs buffers figures limits held =
    grind (arith, common_steps, holds_first, first_up, more_at_first)

pub invariant_of-result : goal.invariant_of-result
invariant_of-result g c =
    let runs = running_first (map g.R.Rank.machine c.of.result.fixed) (length c.args.ranks.items) c.of.result.states
    c.in_ok-new.field-0 c.in_ok-no_figures.field-0 c.in_ok-new-2.field-0 in
    search (arith, rules, runs, length-map)
