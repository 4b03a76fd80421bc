use Rattle.cq_cells.proofs.Terms.{rules, ◌≡◌, Option, None, refl, sym, ◌∙◌, arith, cases_lt, true≢false, ext_get_or, length-replicate, unwrap_or-slice_get, Cell, arrival_at, no_arrivals, arrival_at-no_arrivals}
use Rattle.cq_cells.proofs.coming.none_stand.Goals as goal

pub inputs-init : goal.inputs-init
inputs-init c = λ i before. absurd (omega arith)

pub returns-then-is_some : goal.returns-then-is_some
returns-then-is_some c = search (arith, rules, true≢false, arrival_at-no_arrivals c.inputs.input)

pub returns : goal.returns
returns c = (
  λ _.
      let nobody : Option Cell = None in
      let cells = c.args.arrivals.now in
      let past = c.inputs-test.false in
      let places = c.requires.places in
      let size = length-replicate 64 nobody in
      ext_get_or nobody cells no_arrivals (omega arith) (λ i inside.
      let here : arrival_at cells i ≡ None = search (arith, rules, c.inputs.invariant, c.requires.beyond, cases_lt) in
      sym (unwrap_or-slice_get cells i nobody) ∙ here ∙ sym (arrival_at-no_arrivals i)
      ∙ unwrap_or-slice_get no_arrivals i nobody),
  λ _. refl,
)
