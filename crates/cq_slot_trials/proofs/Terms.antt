-- The words of this crate's proofs that stand elsewhere, each passed on from its place.
pub use Rattle.cq_base.proofs.Library.{Bool, IfOk, List, OnOk, Option, Result, Some, [], ap, arith, cases_eq, cases_lt, common_steps, get_or-set_other, get_or-set_same, length, map, on_ok_weaker, rules, set_past, subst, sym, unwrap_or-slice_get, ℕ, ◌*◌, ◌+◌, ◌<◌, ◌^◌, ◌∷◌, ◌≡◌, ◌≤◌, ◌⊎◌}
pub use Rattle.cq_base.proofs.Places.{arrival_at-no_arrivals}
pub use Rattle.cq_base.specs.Arrivals.{arrival_at, no_arrivals, with_arrival}
pub use Rattle.cq_base.specs.declared.cell.Cell.{Cell}
pub use Rattle.cq_rank.specs.{Machine.Machine}
pub use Rattle.cq_ideal.proofs.Counting.{counts_fit, zero_fits}
pub use Rattle.cq_ideal.specs.Admission.{Admission, Marked, refused}
unfoldable pub use Rattle.cq_ideal.specs.Admission.{admission}
pub use Rattle.cq_ideal.specs.Ideal.{IdealSwitch, answer_to, count_for, marked_state}
pub use Rattle.cq_ideal.specs.LimitedIdeal.{LimitedSent, ideal_admission}
unfoldable pub use Rattle.cq_ideal.specs.LimitedIdeal.{limited_slot}
pub use Rattle.cq_ideal.specs.{Limiter.CanCount, Ranking.AreForPorts}
pub use Rattle.cq_engine.specs.Engine.{EngineView, HasGoneOn, HaveBufferRoom, HaveListRoom, SlotDone, fresh_engine, ports_of}
pub use Rattle.cq_slot_trials.specs.Trial.{HasGrown, IsOnTrial}
