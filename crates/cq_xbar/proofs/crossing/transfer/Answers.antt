use Rattle.cq_xbar.proofs.Terms.{rules, ◌∙◌, ◌≡◌, ◌<◌, length, sym, arith, append-nil, append_assoc, length-append, transfers_of}
use Rattle.cq_xbar.proofs.Turns.{cell_next, crossed_past, crossed_more, first_next, room_next, key_next, crossed_moves, crossed_room, crossed_outputs}
use Rattle.cq_xbar.proofs.Noting.{kept_few, noted_one, noted_past}
use Rattle.cq_xbar.proofs.crossing.transfer.Goals as goal
use Rattle.cq_xbar.proofs.crossing.transfer.Goals.{in-Some, in_default}

pub loop-input-init : goal.loop-input-init
loop-input-init c = search (arith, rules, append-nil)

pub cross-queued-requires : goal.cross-queued-requires
cross-queued-requires c = search (arith, rules, cell_next c.loop-input.invariant.crossed, key_next, room_next)

pub push-requires : goal.push-requires
push-requires c = search (arith, rules, kept_few)

pub loop-input-preserved : goal.loop-input-preserved
loop-input-preserved c =
    let n = c.loop-input.input in
    let inv = c.loop-input.invariant in
    let pairs = c.partner_of.ensures.pairs in
    elim c.match-partner_of.branch [
      | in-Some w ↦
          let q = w.cross-queued.result in
          let p = sym c.partner_of.ensures.partner ∙ w.in-Some.is in
          let inside : n < length c.args.lists.now = omega arith in
          let crossed = crossed_more inv.crossed w.in-Some.output w.index-buffers-output.result pairs p
          c.requires.buffers w.index-lists-input.result inside q in
          let found = first_next inv.crossed w.in-Some.output w.index-buffers-output.result pairs p c.requires.buffers
          w.index-lists-input.result inside q in
          search (arith, rules, crossed, found, noted_one, append_assoc, length-append)
      | in_default w ↦ search (arith, rules, crossed_past, noted_past)
    ]

pub returns : goal.returns
unfolding transfers_of
returns c =
    let crossed = c.loop-input.invariant.crossed in
    let end : c.loop-input.input ≡ length c.args.matching.now = omega arith in
    search (arith, rules, crossed_moves crossed end, crossed_room crossed end, crossed_outputs crossed end)
