use Rattle.cq_space.proofs.Terms.{arith, rules, Columns, with_bytes}
use Rattle.cq_space.proofs.InMemory.{written_back, gives_bytes}
use Rattle.cq_space.proofs.mem_files.MemFilesFiles.start_write.Goals as goal

pub returns-in-Ok-clause-ok : goal.returns-in-Ok-clause-ok
returns-in-Ok-clause-ok c =
    let changed = written_back c.place_of.new.entries c.deref_mut.result.now c.put_bytes.new.entries
    (λ (k : Columns). with_bytes k c.in-Ok.at c.new.result.items) c.deref_mut.ensures.value
    c.put_bytes.auto.entries c.put_bytes.ensures in
    let told = gives_bytes c.self.inside c.self.view_is c.self.invariant c.place_of.new.entries c.put_bytes.new.entries
    c.in-Ok.ensures.same c.in-Ok.ensures.ok c.deref_mut.ensures.value c.put_bytes.auto.entries c.new.result.items
    c.put_bytes.ensures in search (arith, rules, told)
