-- No output is in two pairs: where there is no pair, and where an output that is in none is joined to an input.
use Rattle.cq_prefs.proofs.Terms.{common_steps, rules, ℕ, ◌≡◌, ◌<◌, length, replicate, None, arith, cases_eq, cases_lt, same_Some, length-set, length-replicate, get_or-replicate, get_or_past, get_or-set_same, get_or-set_other, Partners, partner_of, with_pair, ArePairs, IsFreeOutput}

pub nobody : (n i : ℕ) → partner_of (replicate n None) i ≡ None
nobody n i = grind (arith, common_steps, get_or-replicate, get_or_past, length-replicate, cases_lt)

pub no_pairs : (n : ℕ) → ArePairs (replicate n None)
no_pairs n = grind (arith, common_steps, nobody)

pub joined_pairs : (m : Partners) (input output : ℕ) → ArePairs m → input < length m → output < length m →
    IsFreeOutput m output → ArePairs (with_pair m input output)
joined_pairs m input output p l inside free =
    search (arith, rules, length-set, same_Some, cases_eq, get_or-set_same, get_or-set_other)
