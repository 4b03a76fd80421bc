use Rattle.cq_resume.proofs.Terms.{arith, rules, ◌≡◌, ℕ, List, slice_index_or, get_or-map, machine_of, ClassRow, Kind, FirstCome, row_at}
use Rattle.cq_resume.proofs.floors.level_of.Goals as goal

-- every discipline takes the level of a class from its row
level_is : (kind : Kind) (rows : List ClassRow) (class : ℕ) →
    (machine_of kind rows).level class ≡ (row_at rows class).level
level_is kind rows class = search rules

pub returns : goal.returns
returns c output inside =
    let rows = c.args.setup.now.classes in
    let there = get_or-map (λ (kind : Kind). machine_of kind rows) c.args.setup.now.kinds output in
    search (arith, rules, level_is (slice_index_or c.args.setup.now.kinds output FirstCome) rows, there)
