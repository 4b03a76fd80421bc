use Rattle.cq_list.proofs.Terms.{rules, ap, sym, drop, arith, ◌<◌, ℕ, List, subst, Queued, AreFingers, PoolView, places, cells}
use Rattle.cq_list.proofs.Linked.{rest_stay, links_less, linked_less}
use Rattle.cq_list.proofs.Queues.{read_of, fingers_read, as_many, inside_some, is_pool_changed, view_changed}
use Rattle.cq_list.proofs.Walk.{node_there, cell_shown, reached_first}
use Rattle.cq_list.proofs.pool.Pool.take.Goals as goal

pub remove-node-requires : goal.remove-node-requires
remove-node-requires c =
    let read = read_of c.self.invariant c.self.view_is (inside_some _ c.args.output 0 c.requires)
    c.index-queue.ensures in
    let there = node_there {count = 0} {place = c.index-queue.result.now.first} read.is_linked.chained in
    search (arith, rules, as_many read, there, reached_first)

pub invariant_of-self : goal.invariant_of-self
invariant_of-self c =
    let read = read_of c.self.invariant c.self.view_is (inside_some _ c.args.output 0 c.requires)
    c.index-queue.ensures in
    let some : 0 < c.index-queue.result.now.len = omega (arith, as_many read, c.requires) in
    let removed = c.remove-node.ensures in
    let fingers = fingers_read c.self.invariant read.inside c.index-queue.ensures c.index_mut-2.ensures.value in
    let less = links_less read.is_linked some removed.value removed.updates in
    rw c.behind_first.ensures (is_pool_changed c.remove-node.new.self c.self.invariant read
    (rest_stay read.is_linked some removed.value removed.updates)
    (linked_less read.is_linked some removed.value removed.updates) c.take.new.self
    (c.take.ensures _ c.index-queue.result.now.first
    (subst (λ (l : List (ℕ × Queued)). AreFingers (places l) c.index_mut-2.result.now) less fingers))
    (omega arith) (omega arith) removed.capacity)

pub returns : goal.returns
returns c =
    let read = read_of c.self.invariant c.self.view_is (inside_some _ c.args.output 0 c.requires)
    c.index-queue.ensures in
    let some : 0 < c.index-queue.result.now.len = omega (arith, as_many read, c.requires) in
    let removed = c.remove-node.ensures in
    let spare = ap (λ (v : PoolView). v.spare) c.self.view_is in
    let now = view_changed c.remove-node.new.self c.self.invariant read
    (rest_stay read.is_linked some removed.value removed.updates)
    (linked_less read.is_linked some removed.value removed.updates) (drop 1)
    (sym (ap (λ l. drop 1 (cells l)) (links_less read.is_linked some removed.value removed.updates))) in
    search (arith, rules, cell_shown, reached_first, spare, now)
