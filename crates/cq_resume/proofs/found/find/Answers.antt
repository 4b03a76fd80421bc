use Rattle.cq_resume.proofs.Terms.{named_in, names_of, arith, rules, ◌≡◌, List, AllZip, all_front, all_back, all_weaker, images_held, err_from_is_err_and, has_image, has_left, has_right, Named, Sent}
use Rattle.cq_resume.proofs.Zipped.{IsOf, are_arrivals, arrivals_rise, missed, names_zip, zip_by}
use Rattle.cq_resume.proofs.found.find.Goals as goal
use Rattle.cq_resume.proofs.found.find.Goals.{In_ok-names}

-- what was found of each item of the same lists is its own
zip_same : {A B : Type 0} (R S : A → B → Type 0) (xs xs' : List A) (ys ys' : List B) →
    ((x : A) (y : B) → R x y → S x y) → xs ≡ xs' → ys' ≡ ys → AllZip R xs ys → AllZip S xs' ys'
zip_same R S xs xs' ys ys' give own is all = rw (own, ← is) at (zip_by R (AllZip S) tt (search (rules, give)) xs ys all)

-- what was looked up, where no name is missed
zips : (c : In_ok-names) → AllZip (IsOf c.args.schedule.now.came c.args.state.now.head.next) (named_in c.args.state.now)
    (names_of c.deref.result.now c.deref-2.result.now c.deref-3.result.now)
zips c = search (arith, rules, names_zip, zip_same)

pub found_all-requires-2 : goal.found_all-requires-2
found_all-requires-2 c = search (arith, rules, all_back, all_front, all_weaker)

pub found_all-requires-3 : goal.found_all-requires-3
found_all-requires-3 c = search (arith, rules, images_held, all_back, all_weaker)

pub returns-in_err-listed-clause-refused : goal.returns-in_err-listed-clause-refused
returns-in_err-listed-clause-refused c =
    let lost = missed c.args.schedule.now.came c.args.state.now (λ (n : Named). n) _ (search (arith, rules)) _
    (search (rules, has_left)) _ (rw c.as_slice.ensures at c.in_err-listed.ensures.refused) in
    search (arith, rules, err_from_is_err_and, lost)

pub returns-in_err-buffered-clause-refused : goal.returns-in_err-buffered-clause-refused
returns-in_err-buffered-clause-refused c =
    let lost = missed c.args.schedule.now.came c.args.state.now (λ (n : Named). n) _ (search (arith, rules)) _
    (search (rules, has_left, has_right)) _ (rw c.as_slice-2.ensures at c.in_err-buffered.ensures.refused) in
    search (arith, rules, err_from_is_err_and, lost)

pub returns-in_err-sent-clause-refused : goal.returns-in_err-sent-clause-refused
returns-in_err-sent-clause-refused c =
    let lost = missed c.args.schedule.now.came c.args.state.now (λ (d : Sent). d.cell) _ (search (arith, rules)) _
    (λ d has. has_right _ _ d.cell (has_image (λ (e : Sent). e.cell) _ d has)) _
    (rw c.as_slice-3.ensures at c.in_err-sent.ensures.refused) in search (arith, rules, err_from_is_err_and, lost)

pub returns-clause-found : goal.returns-clause-found
returns-clause-found c = search (arith, rules, zip_same)

pub returns-then-not-differ-clause-refused : goal.returns-then-not-differ-clause-refused
returns-then-not-differ-clause-refused c =
    let names = zips (goal.at.returns-then-not-differ-clause-refused c).In_ok-names in
    let rise = arrivals_rise c.args.schedule.now.came c.args.state.now c.in_ok-names.ensures.same names in
    search (arith, rules, rise)

pub returns-clause-arrive : goal.returns-clause-arrive
returns-clause-arrive c = are_arrivals _ _ c.in_ok-names.ensures.same
    (zips (goal.at.returns-clause-arrive c).In_ok-names)
    (rw c.deref-4.ensures.value at (c.differ.ensures.0 c.if-not-differ.false))
