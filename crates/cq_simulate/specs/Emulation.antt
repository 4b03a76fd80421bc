-- What a run of the fabric does as the ideal switch does it.
use Rattle.std.specs.Prelude.{◌≡◌, List, Ok, length, max}
use Rattle.cq_base.specs.Arriving.{Arrival, end_of}
use Rattle.cq_laws.specs.Fabric.{IsEmptyFabric}
use Rattle.cq_laws.specs.LimitedFabric.{LimitedRecord, slots_in}
use Rattle.cq_laws.specs.Measures.{figures_of}
use Rattle.cq_route.specs.Tables.{ports_of}
use Rattle.cq_route.specs.declared.tables.Tables.{Tables}
use Rattle.cq_simulate.specs.FabricRuns.{AlwaysHasSlack, AreInputBest, IsFabricRun, SendsSlotBySlot, departures_in_run}
use Rattle.cq_simulate.specs.IdealRuns.{ideal_departures, slots_ran}

-- the run of the fabric emulates the ideal switch of the same tables over the same cells
pub record EmulatesIdeal (t : Tables) (came : List Arrival) (rs : List LimitedRecord) (is : IsFabricRun t came rs) :
    Type 0 where
  -- in each slot it admits, refuses and sends the same
  pub slot_by_slot : SendsSlotBySlot t came rs
  pub departures : ideal_departures t came ≡ Ok (departures_in_run rs)
  -- both matchings of each slot are the input-best ones of what the lists offer
  pub input_best : AreInputBest rs
  -- after the arrivals of each slot no cell's input thread exceeds its output cushion
  pub slack : AlwaysHasSlack rs
  -- it ends after as many slots, with the last arrival or the last departure, and then no cell waits
  pub ends : slots_ran t came ≡ length rs
  pub slots : length rs ≡ max (end_of came) (figures_of (ports_of t.setup) (slots_in rs)).slots
  pub drained : IsEmptyFabric is.end.state
