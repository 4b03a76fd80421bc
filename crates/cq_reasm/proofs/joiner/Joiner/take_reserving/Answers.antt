use Rattle.cq_reasm.proofs.Terms.{arith, ◌≡◌, ◌+◌, ◌*◌, set, get_or, None, Some, ap, ◌∙◌, rules, set-set, with_piece, open_at, with_open}
use Rattle.cq_reasm.proofs.Joins.{taken_before, open_is, left_is, closed_by_last, others_kept}
use Rattle.cq_reasm.proofs.joiner.Joiner.take_reserving.Goals as goal

pub add-requires-clause-next : goal.add-requires-clause-next
add-requires-clause-next c = search (arith, rules, open_is, taken_before)

pub returns-then-not-cell : goal.returns-then-not-cell
returns-then-not-cell c =
    let at = c.from.result * c.from-2.result + c.from-3.result in
    let place : at ≡ c.args.cell.now.id.input * c.self.inside.classes + c.args.cell.now.class = cc in
    let left = left_is c.self.inside.inputs c.self.inside.classes c.self.inside.packets c.add.new.self c.args.self.now
    c.args.cell.now.id.input c.args.cell.now.class at _ c.self.view_is place c.in_ok-add.ensures.added in
    search (arith, rules, left, others_kept _ c.args.self.now c.args.cell.now _ left)

pub returns : goal.returns
returns c =
    let id = c.args.cell.now.id in
    let class = c.args.cell.now.class in
    let at = c.from.result * c.from-2.result + c.from-3.result in
    let place : at ≡ id.input * c.self.inside.classes + class = cc in
    let packets = c.self.inside.packets in
    let added = Some (with_piece (get_or packets at None) id.packet c.args.piece.now) in
    let closed = c.close-body.ensures.closed ∙ ap (λ others. set others at None) c.in_ok-add.ensures.added
    ∙ set-set packets at added None in
    let left = left_is c.self.inside.inputs c.self.inside.classes packets c.close-body.new.self c.args.self.now id.input
    class at None c.self.view_is place closed
    ∙ ap (with_open c.args.self.now id.input class) (closed_by_last (open_at c.args.self.now id.input class)
    c.args.cell.now c.args.piece.now c.if-not-cell.false) in
    let others = others_kept _ c.args.self.now c.args.cell.now _ left c.requires.class in
    search (arith, rules, left, others)
