-- The machines of a switch know the same classes: each knows those of the switch.
use Rattle.std.proofs.Common.{rules, ◌≡◌, ℕ, ◌<◌, ◌≤◌, List, [], ◌∷◌, length, map, sym, ◌∙◌, arith}
use Rattle.std.specs.List.{AllByRecursion}
use Rattle.std.proofs.lemmas.Grind.{common_steps}
use Rattle.std.proofs.lemmas.List.{length-map}
use Rattle.cq_base.specs.declared.setup.ClassRow.{ClassRow}
use Rattle.cq_base.specs.declared.setup.Kind.{Kind}
use Rattle.cq_base.specs.declared.setup.Setup.{Setup}
use Rattle.cq_rank.specs.Machine.{Machine}
use Rattle.cq_rank.specs.Switch.{AreForOneSwitch, class_count}
use Rattle.cq_scfq.specs.Disciplines.{machine_of, machines_of}

classes_of : (kind : Kind) (rows : List ClassRow) → (machine_of kind rows).classes ≡ length rows
classes_of kind rows = grind (arith, common_steps)

all_of : (rows : List ClassRow) (n : ℕ) (kinds : List Kind) → n ≡ length rows →
    AllByRecursion (λ (m : Machine). m.classes ≡ n) (map (λ kind. machine_of kind rows) kinds)
all_of rows n [] e = tt
all_of rows n (kind ∷ kinds) e = (classes_of kind rows ∙ sym e, all_of rows n kinds e)

count_of : (rows : List ClassRow) (kinds : List Kind) → 0 < length kinds →
    class_count (map (λ kind. machine_of kind rows) kinds) ≡ length rows
count_of rows [] some = absurd (omega arith)
count_of rows (kind ∷ kinds) some = classes_of kind rows

pub count : (setup : Setup) → 0 < length setup.kinds → class_count (machines_of setup) ≡ length setup.classes
count setup some = count_of setup.classes setup.kinds some

pub for_one_switch : (setup : Setup) → 0 < length setup.kinds → length setup.kinds ≤ 64 →
    AreForOneSwitch (machines_of setup)
for_one_switch setup some few = search (rules, length-map, all_of, count)
