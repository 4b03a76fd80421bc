-- The words of this crate's proofs that stand elsewhere, each passed on from its place.
pub use Rattle.cq_base.proofs.Library.{IsSome, None, Some, arith, cases_eq, cases_lt, common_steps, refl, rules, subst, ℕ, ◌*◌, ◌+◌, ◌-◌, ◌<◌, ◌∙◌, ◌≡◌}
pub use Rattle.cq_prefs.specs.Orders.{AreOffers, Orders, ports}
pub use Rattle.cq_ledger.specs.{Views.HasClaimed}
pub use Rattle.cq_ledger.specs.Seats.{IsProposed, IsSeatOf, LedgerState, SeatState}
pub use Rattle.cq_crew.specs.Work.{Grows, HasTried, HasWorked, HaveTried, IsIdleAfter, ProposesFor}
