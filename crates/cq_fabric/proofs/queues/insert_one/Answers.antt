use Rattle.cq_fabric.proofs.Terms.{rules, length-set, arith, get_or_default, length-map, get_or-map, get_or-set_other, get_or-set_same}
use Rattle.cq_fabric.proofs.Offered.{come_behind, come_differ, come_same, set_came}
use Rattle.cq_fabric.proofs.queues.insert_one.Goals as goal

pub renew_pair-requires-clause-keys : goal.renew_pair-requires-clause-keys
renew_pair-requires-clause-keys c =
    come_differ c.requires.comes (set_came c.args.lists.now c.args.input c.cushion_for-cushion.result c.args.queued
    c.index-lists-input-3.result c.insert.new.self c.requires.comes.inside c.insert.ensures.cells)

pub renew_pair-requires-clause-others : goal.renew_pair-requires-clause-others
renew_pair-requires-clause-others c =
    let w = c.insert.new.self in
    let came = set_came c.args.lists.now c.args.input c.cushion_for-cushion.result c.args.queued
    c.index-lists-input-3.result w c.requires.comes.inside c.insert.ensures.cells in
    come_same c.requires.comes came _ (search (arith, rules, length-set))

pub returns-then-behind : goal.returns-then-behind
returns-then-behind c = search
    (arith, rules, length-map, get_or-map, come_behind, set_came, get_or_default, get_or-set_same, get_or-set_other)
