use Rattle.cq_list.proofs.Terms.{rules, arith, common_steps, ◌≡◌, ◌∙◌, ap, append-nil, concat, Waiting}
use Rattle.std.specs.VecDeque.Iter.{deque_iter_rest}
use Rattle.cq_list.proofs.Told.{block_first}
use Rattle.cq_list.proofs.input_list.InputList.cells.Goals as goal

pub each-init : goal.each-init
each-init c =
    let left : deque_iter_rest c.into_iter-block-iterator.result ≡ c.blocks-2.result.1.now.items = search (rules) in
    rw left (c.in_ok-tell.ensures (concat c.blocks-2.result.1.now.items)
    ∙ rw (c.in_ok-cells.ensures.items, c.outputs.ensures, c.blocks-2.ensures, c.in_ok-heads.ensures)
    (ap (λ (v : Waiting). v.cells) c.self.view_is))

pub each-preserved : goal.each-preserved
each-preserved c = c.in_ok-tell-2.ensures _
    ∙ rw (block_first c.in-Some.ensures.steps c.outputs-in-each.ensures) at c.each.invariant

pub returns : goal.returns
returns c =
    let told = c.each.invariant in grind (arith, common_steps, append-nil)
