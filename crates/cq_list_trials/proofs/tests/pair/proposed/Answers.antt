use Rattle.cq_list_trials.proofs.Terms.{ℕ, List, get_or, length, sym, subst, arith, ap}
use Rattle.cq_prefs.specs.Proposals.{IsFree}
use Rattle.cq_pair.proofs.Reached.{free-shown}
use Rattle.cq_list_trials.proofs.tests.pair.proposed.Goals as goal

pub propose-requires-clause-free : goal.propose-requires-clause-free
propose-requires-clause-free c =
    let o = c.args.offers.now in
    let P : List ℕ → Type 0 = λ l. IsFree o c.args.core.now.state (get_or l c.in_ok-place.place 0) in
    subst P (sym c.free-2.ensures) (free-shown o c.ports-ports.ensures.offers c.args.core.now c.requires
    c.in_ok-place.place (omega (arith, c.in_ok-place.ensures, ap length c.free.ensures)))
