use Rattle.cq_space.proofs.Terms.{◌≤◌, ◌∙◌, ap, refl, arith, rules, MemSpace, one_more, IsReached, StaysBefore}
use Rattle.cq_space.proofs.InMemory.{of_read, short_before, stays_less, reads_on}
use Rattle.cq_space.proofs.mem_files.MemFilesFiles.read.Goals as goal

pub returns-in-Some-clause-next : goal.returns-in-Some-clause-next
returns-in-Some-clause-next c =
    reads_on c.self.inside c.self.view_is c.self.invariant c.in-Some.most c.min-count.result c.index-entry.result.now
    c.held.result.now c.copy_from_slice.new.self c.args.buf.now _ c.in-Reads.is c.index-entry.ensures c.held.ensures
    c.min-count.ensures c.copy_from_slice.ensures.after
    (c.in-Some.ensures.progress (c.within.ensures.some c.requires.room)) refl

pub returns-in-Some-clause-moved : goal.returns-in-Some-clause-moved
returns-in-Some-clause-moved c =
    let before = stays_less c.index-entry.result.now.read_cut c.in-Reads.place c.in-Some.most c.min-count.result
    (omega arith) c.in-Some.ensures.before in
    let bound = c.in-Some.ensures.bound in
    let fewer : c.min-count.result ≤ c.within.result = omega (arith, c.min-count.ensures, bound) in (
      of_read c.self.inside c.self.view_is c.self.invariant
          (λ cut moved. StaysBefore cut moved c.min-count.result) c.index-entry.result.now c.in-Reads.is
          c.index-entry.ensures before,
      short_before c.args.self.now.calls _ c.within.result c.min-count.result
          (c.next.ensures.made ∙ ap (λ (m : MemSpace). one_more m.calls) c.self.view_is) fewer
          c.within.ensures.short,
    )

pub returns-in-None-clause-answered : goal.returns-in-None-clause-answered
returns-in-None-clause-answered c =
    let cut = of_read c.self.inside c.self.view_is c.self.invariant IsReached c.index-entry.result.now c.in-Reads.is
    c.index-entry.ensures c.in-None.ensures.reached in search (arith, rules, cut)
