use Rattle.cq_space.proofs.Terms.{arith, ap, ◌∙◌, MemSpace}
use Rattle.cq_space.proofs.InMemory.{begins, told_nothing, told_none, finds}
use Rattle.cq_space.proofs.mem_files.MemFilesFiles.start_read.Goals as goal

pub invariant_of-self-then-is_some : goal.invariant_of-self-then-is_some
invariant_of-self-then-is_some c =
    let is = finds c.self.inside.entries.items _ _ _ c.deref.ensures.value c.in-Some.ensures in
    (rw is.named is, omega arith)

pub returns-in-Some-clause-found : goal.returns-in-Some-clause-found
returns-in-Some-clause-found c = begins c.self.inside c.self.view_is c.args.name.now _ c.deref.ensures.value
    c.in-Some.ensures
    c.index.ensures c.if-is_some.ensures

pub returns-in_default-clause-found : goal.returns-in_default-clause-found
returns-in_default-clause-found c = (
  ap (λ (m : MemSpace). m.mode) c.self.view_is ∙ c.requires,
  ap (λ (m : MemSpace). m.faults) c.self.view_is,
  told_nothing c.self.inside c.self.view_is c.args.name.now _ c.deref.ensures.value c.in-Some.ensures c.index.ensures
      c.if-is_some.ensures,
)

pub returns-in_default-2-clause-found : goal.returns-in_default-2-clause-found
returns-in_default-2-clause-found c = (
  ap (λ (m : MemSpace). m.mode) c.self.view_is ∙ c.requires,
  ap (λ (m : MemSpace). m.faults) c.self.view_is,
  told_none c.self.inside c.self.view_is _ c.deref.ensures.value c.in_default.ensures,
)
