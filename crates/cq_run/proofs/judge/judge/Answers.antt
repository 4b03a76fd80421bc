use Rattle.cq_run.proofs.Planned.{soak_judged}
use Rattle.cq_run.proofs.judge.judge.Goals as goal

pub returns-in-Soak : goal.returns-in-Soak
returns-in-Soak g c = rw c.in-Soak.is (soak_judged c.requires.closed (g.met.F.Files.lasts_unbegun.none _) _
    c.soak.ensures.meets c.soak.ensures.writes c.soak.ensures.sent c.soak.ensures.refused)
