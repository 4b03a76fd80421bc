use Rattle.cq_ideal.proofs.Terms.{length, map, sym, ap, subst, length-map, length-replicate, AreForOneSwitch, arith, rules}
use Rattle.cq_ideal.proofs.Changed.{map-replicate, same_at}
use Rattle.cq_ideal.proofs.ideal.Ideal.new.Goals as goal

pub invariant_of-result : goal.invariant_of-result
invariant_of-result g c =
    let many = ap length c.of.ensures.fixed in
    let lists = ap length c.in_ok-new.ensures.lists in
    let machines = subst AreForOneSwitch (ap (map g.R.Rank.machine) (sym c.of.ensures.fixed)) c.requires.machines in
    search (arith, rules, length-map, length-replicate, map-replicate, same_at)
