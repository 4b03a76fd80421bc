use Rattle.cq_fabric.proofs.Terms.{rules, None, map, length-set, arith, Option, length-map, take_more, take_more_set, get_or-map, front_of, popped, at_place, next_place, Queued}
use Rattle.cq_fabric.proofs.Changed.{still_behind}
use Rattle.cq_fabric.proofs.Queued.{popped_by}
use Rattle.cq_fabric.proofs.gone.pop_each.Goals as goal

pub outputs-preserved : goal.outputs-preserved
outputs-preserved c =
    let old = c.args.buffers.now in
    let none : Option Queued = None in
    let front = get_or-map front_of old c.outputs.output c.index-buffers-output.result none in
    let rest = get_or-map popped old c.outputs.output c.index-buffers-output.result c.index-buffers-output.result in
    let here = at_place (map popped old) old c.outputs.output c.index-buffers-output.result in
    let next = next_place (map popped old) old c.outputs.output c.pop.new.self c.index-buffers-output.result in
    let more = take_more (map front_of old) c.outputs.output none in
    search (arith, rules, length-set, length-map, take_more_set, still_behind, popped_by, here, next, more, front, rest)
