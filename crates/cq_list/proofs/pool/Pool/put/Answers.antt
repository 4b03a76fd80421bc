use Rattle.cq_list.proofs.Terms.{rules, ap, arith, get_or-le-sum_by, put, PoolView}
use Rattle.cq_list.proofs.Put.{no_sooner_is_later}
use Rattle.cq_list.proofs.Queues.{read_of, fingers_read, is_pool_changed, view_changed}
use Rattle.cq_list.proofs.Walk.{all_placed, within}
use Rattle.cq_list.proofs.pool.Pool.put.Goals as goal

pub ahead_of-ahead-requires : goal.ahead_of-ahead-requires
ahead_of-ahead-requires c =
    let read = read_of c.self.invariant c.self.view_is c.requires.in_range c.index-queue.ensures in
    let fingers = fingers_read c.self.invariant read.inside c.index-queue.ensures c.index.ensures in
    record { chained = read.is_linked.chained; fingers = rw c.as_slice.ensures fingers }

pub put_into-requires : goal.put_into-requires
put_into-requires c =
    let read = read_of c.self.invariant c.self.view_is c.requires.in_range c.index-queue.ensures in
    let spare = ap (λ (v : PoolView). v.spare) c.self.view_is in
    search (arith, rules, read, spare, no_sooner_is_later, get_or-le-sum_by)

pub put-requires : goal.put-requires
put-requires c =
    let read = read_of c.self.invariant c.self.view_is c.requires.in_range c.index-queue.ensures in
    let fingers = fingers_read c.self.invariant read.inside c.index-queue.ensures c.index_mut-2.ensures.value in
    record {
      inside = λ k. within read.is_linked.chained (fingers k);
      ahead = within read.is_linked.chained c.ahead_of-ahead.ensures.last;
      fits = omega arith;
    }

pub invariant_of-self : goal.invariant_of-self
invariant_of-self c =
    let read = read_of c.self.invariant c.self.view_is c.requires.in_range c.index-queue.ensures in
    let spare = ap (λ (v : PoolView). v.spare) c.self.view_is in
    let fingers = fingers_read c.self.invariant read.inside c.index-queue.ensures c.index_mut-2.ensures.value in
    let placed = c.put_into.ensures.places in
    is_pool_changed c.put_into.new.nodes c.self.invariant read c.put_into.ensures.more.others c.put_into.ensures.linked
    c.put.new.self (rw placed.1 (c.put.ensures _ placed.0 (all_placed read.is_linked.chained) fingers
    c.ahead_of-ahead.ensures.last))
    (omega arith) (omega arith) c.put_into.ensures.more.capacity

pub returns : goal.returns
returns c =
    let read = read_of c.self.invariant c.self.view_is c.requires.in_range c.index-queue.ensures in
    let spare = ap (λ (v : PoolView). v.spare) c.self.view_is in
    let now = view_changed c.put_into.new.nodes c.self.invariant read c.put_into.ensures.more.others
    c.put_into.ensures.linked (put c.args.queued) c.put_into.ensures.cells in
    search (arith, rules, read, spare, now, no_sooner_is_later)
