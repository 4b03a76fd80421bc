use Rattle.cq_space.proofs.Terms.{ap, sym, ◌∙◌, option_map, Some}
use Rattle.cq_space.proofs.InMemory.{told_found, told_none}
use Rattle.cq_space.proofs.mem_files.MemFiles.bytes.Goals as goal

pub returns-in-Some-bytes : goal.returns-in-Some-bytes
returns-in-Some-bytes c =
    told_found c.self.inside c.self.view_is c.args.name.now _ c.deref.ensures.value c.in-Some.ensures c.index.ensures
    ∙ ap (option_map (λ v. v.items)) c.in-Some-bytes.is ∙ ap Some (sym c.as_slice.ensures.value)

pub returns-in-None-bytes : goal.returns-in-None-bytes
returns-in-None-bytes c =
    told_found c.self.inside c.self.view_is c.args.name.now _ c.deref.ensures.value c.in-Some.ensures c.index.ensures
    ∙ ap (option_map (λ v. v.items)) c.in-None-bytes.is

pub returns-in-None : goal.returns-in-None
returns-in-None c = told_none c.self.inside c.self.view_is c.args.name.now c.deref.ensures.value c.in-None.ensures
