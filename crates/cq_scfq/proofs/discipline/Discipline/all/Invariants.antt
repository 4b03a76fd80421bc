use Rattle.std.proofs.Common.{◌≡◌, map, take}
use Rattle.std.specs.List.{AllByRecursion}
use Rattle.cq_scfq.specs.Discipline.{fixed_of, kept_of, kind_of, machine_from, state_of}
use Rattle.cq_scfq.specs.Disciplines.{machine_of, opening_of}
use Rattle.cq_scfq.proofs.discipline.Discipline.all.Given as goal

-- the disciplines of the ports before this one are there
abbrev pub invariant-kinds : goal.invariant-kinds
invariant-kinds l = record {
  kinds : map kind_of l.all.items ≡ take l.kind-index l.setup.kinds;
  rows : AllByRecursion (λ one. kept_of one ≡ l.setup.classes) l.all.items;
  machines : map machine_from (map fixed_of l.all.items)
      ≡ map (λ kind. machine_of kind l.setup.classes) (take l.kind-index l.setup.kinds);
  states : map state_of l.all.items ≡ map (λ kind. opening_of kind l.setup.classes) (take l.kind-index l.setup.kinds);
}
