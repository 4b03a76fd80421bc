use Rattle.cq_space.proofs.Terms.{◌∙◌, ap, arith, take, ◌++◌, rules, MemSpace, one_more, IsReached, StaysBefore, Columns, bytes_at, with_bytes, with_items}
use Rattle.cq_space.proofs.InMemory.{written_back, of_write, short_before, appends}
use Rattle.cq_space.proofs.mem_files.MemFilesFiles.write.Goals as goal

pub returns-in-Ok-clause-ok : goal.returns-in-Ok-clause-ok
returns-in-Ok-clause-ok c =
    let changed = written_back c.self.inside.entries c.deref_mut.result.now c.append.new.entries (λ (k : Columns).
    with_bytes k c.in-Writes.at (bytes_at k c.in-Writes.at ++ take c.in-Some.count c.args.bytes.now))
    c.deref_mut.ensures.value c.append.auto.entries c.in-Ok.ensures.ok in
    let b = c.in-Some.ensures.bound in
    let w = c.within.ensures.bound in
    appends c.self.inside c.self.view_is c.self.invariant (with_items c.self.inside.entries c.append.new.entries)
    c.in-Some.count c.index-entry.result.now c.args.bytes.now c.in-Writes.is c.index-entry.ensures
    (c.in-Some.ensures.progress (c.within.ensures.some c.requires.some)) (omega arith) changed

pub returns-in-Ok-clause-moved : goal.returns-in-Ok-clause-moved
returns-in-Ok-clause-moved c = (
  of_write c.self.inside c.self.view_is c.self.invariant (λ cut moved. StaysBefore cut moved c.in-Some.count)
      c.index-entry.result.now c.in-Writes.is c.index-entry.ensures c.held.ensures c.in-Some.ensures.before,
  short_before c.args.self.now.calls _ c.within.result c.in-Some.count
      (c.next.ensures.made ∙ ap (λ (m : MemSpace). one_more m.calls) c.self.view_is) c.in-Some.ensures.bound
      c.within.ensures.short,
)

pub returns-in-None-clause-answered : goal.returns-in-None-clause-answered
returns-in-None-clause-answered c =
    let cut = of_write c.self.inside c.self.view_is c.self.invariant IsReached c.index-entry.result.now c.in-Writes.is
    c.index-entry.ensures c.held.ensures c.in-None.ensures.reached in search (arith, rules, cut)
