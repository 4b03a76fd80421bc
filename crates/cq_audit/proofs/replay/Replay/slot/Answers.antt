use Rattle.cq_audit.proofs.Terms.{arith, rules, err_from_is_err_and}
use Rattle.cq_audit.proofs.Slots.{can_send, first_fault, first_goes, replayed, second_fault, second_goes}
use Rattle.cq_audit.proofs.replay.Replay.slot.Goals as goal

pub come-requires : goal.come-requires
come-requires g c = (rw (← c.self.view_is) at c.requires).come

pub go_by-requires : goal.go_by-requires
go_by-requires g c = first_goes g.R.Rank.machine c.come.ensures c.self.view_is c.requires

pub send-requires : goal.send-requires
send-requires g c = can_send g.R.Rank.machine c.come.ensures c.self.view_is c.requires c.in_ok-behind.ensures.gone_by

pub go_by-requires-2 : goal.go_by-requires-2
go_by-requires-2 g c =
    second_goes g.R.Rank.machine c.come.ensures c.self.view_is c.requires c.in_ok-behind.ensures.gone_by c.send.ensures

pub returns-in_err-behind-clause-fault : goal.returns-in_err-behind-clause-fault
returns-in_err-behind-clause-fault g c =
    search (arith, rules, err_from_is_err_and, first_fault g.R.Rank.machine c.come.ensures c.self.view_is c.requires)

pub returns-in_err-rest-clause-fault : goal.returns-in_err-rest-clause-fault
returns-in_err-rest-clause-fault g c =
    let fault = second_fault g.R.Rank.machine c.come.ensures c.self.view_is c.requires
    c.in_ok-behind.ensures.gone_by c.send.ensures in
    search (arith, rules, err_from_is_err_and, fault)

pub returns-clause-slot : goal.returns-clause-slot
returns-clause-slot g c =
    replayed g.R.Rank.machine c.come.ensures c.self.view_is c.requires c.in_ok-behind.ensures.gone_by c.send.ensures
    c.in_ok-rest.ensures.gone_by
