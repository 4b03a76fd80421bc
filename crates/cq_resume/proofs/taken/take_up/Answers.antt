-- What is looked at is what was found, and the departures are those of the cells that were sent. What is taken up is
-- what the state comes to, part by part.
use Rattle.cq_resume.proofs.Terms.{arith, rules, cases_Bool, ℕ, departed, of_images, Seen, enumerate_from, range_with_len, figures_told, frozen_told, fabric_told}
use Rattle.cq_resume.proofs.Judging.{buffer_is, figures_are, list_is, mapped_alike}
use Rattle.cq_resume.proofs.Zipped.{same_mapped}
use Rattle.cq_resume.proofs.Cut.{departed_low, departed_rising}
use Rattle.cq_resume.proofs.taken.take_up.Goals as goal

pub places_of-placed-requires : goal.places_of-placed-requires
places_of-placed-requires c = search (arith, rules, departed_rising, departed_low, of_images departed)

pub returns : goal.returns
unfolding frozen_told figures_told fabric_told
returns c w found tally =
    let f = c.args.found in
    let s = c.args.state in
    let looked_at = rw (c.deref.ensures.value, c.as_slice.ensures) at c.in_ok-inputs.ensures in
    let figures = λ (at : ℕ × Seen). figures_are w s f found at.0 at.1 in
    let inputs = mapped_alike _ _ figures (enumerate_from 0 s.inputs) in
    let lists = mapped_alike _ _ (list_is w s f found) (range_with_len 0 s.head.ports) in
    let buffers = mapped_alike _ _ (buffer_is w s f found) (range_with_len 0 s.head.ports) in
    search (arith, rules, same_mapped, cases_Bool, c.in_ok-placed.ensures)
