-- What a core says that has settled.
use Rattle.cq_crew.proofs.Terms.{◌≡◌, Orders, AreOffers}
use Rattle.cq_prefs.specs.Pairing.{IsInputBest, proposals}
use Rattle.cq_pair.specs.Progress.{Progress, IsReached}
use Rattle.cq_pair.proofs.Reached.{made-most}
use Rattle.cq_crew.specs.Settling.{IsBestAfter}

pub best-kept : (o : Orders) → AreOffers o → (c : Progress) → IsReached o c → IsInputBest o c.matching →
    c.made ≡ proposals o c.matching → IsBestAfter o c.made c.matching
best-kept o v c reached is_best counted = record { best = is_best; count = counted; few = made-most o v c reached }

pub ruleset best_steps = (best-kept)
