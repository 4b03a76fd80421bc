-- The captures of the outputs, one after another: those that were made and those that are still to be made are all.
-- Each is that which was built at its output.
use Rattle.cq_run.proofs.Terms.{IsResumedBy, Scheduled, schedule_of, IsRead, IsResumed, switch_of, resumed_counts, resumed_whole, kept_of, common_steps, rules, ◌≡◌, ◌<◌, ◌≤◌, ◌∙◌, ℕ, ◌+◌, List, [], ◌∷◌, length, drop, get_or, refl, sym, arith, Ok, drop_more, length-drop, Departure, arrivals, Captured, ports_of, PortRow, Tables, capture_out, captures_out, ArePacked, Arrival, t0_of, IsTraffic, LimitedRecord, under_names, classes_of, always_slack, best_in_each, slot_by_slot, IsFabricRun, IsKeptOf, unpacked_run, ideal_departures, PackedFabricRun, AreGiven, KeepsUp, IsCrossed, Packing, each_packet_once}
use Rattle.cq_resume.specs.declared.taken.Taken.{Taken}

module _ (t : Tables) (captures : List (List Captured)) (sent : List Departure) where
  -- the captures that were built, from this output on
  module _ {places : List Packing} (packed : ArePacked t captures sent places) (output : ℕ)
      (there : output < ports_of t.setup) where
    in_places : output < length places
    in_places = let outputs : length places ≡ ports_of t.setup = packed.outputs in omega arith

    pub some_left : drop output places ≡ [] → ⊥
    some_left none = grind (arith, common_steps, packed.outputs, length-drop output places)

    module _ {place : Packing} {rest : List Packing} (first : drop output places ≡ place ∷ rest) where
      parts : get_or places output place ∷ drop (output + 1) places ≡ place ∷ rest
      parts = sym (drop_more places output place in_places) ∙ first

      pub file_is : place.bytes.items ≡ capture_out t captures sent output
      file_is = grind (arith, common_steps, parts, in_places)

  -- each of those under its name
  pub packed_under : (places : List Packing) → ArePacked t captures sent places → (rows : List PortRow) (k : ℕ)
      (left : List Packing) → drop k places ≡ left → k + length rows ≤ ports_of t.setup →
      under_names rows left ≡ captures_out t captures sent k rows
  unfolding captures_out
  packed_under places packed [] k left is fit = refl
  packed_under places packed (row ∷ rows) k left is fit =
      grind (arith, common_steps, some_left, parts, file_is, packed_under places packed rows (k + 1))

-- ## What is kept of a run of the crossbar switch, and the plan that is made of it

-- the run of the definition keeps up
pub keeps_up : (t : Tables) (captures : List (List Captured)) (rs : List LimitedRecord) → AreGiven t captures →
    IsTraffic (ports_of t.setup) (classes_of t.setup) (arrivals t captures) →
    IsFabricRun t (arrivals t captures) rs → KeepsUp t captures rs
keeps_up t captures rs given traffic is = search (rules, best_in_each, slot_by_slot, always_slack, each_packet_once)

-- a run over a schedule of the captures
pub is_crossed : (t : Tables) (captures : List (List Captured)) (came : List Arrival) (run : PackedFabricRun)
    (stamp : ℕ) →
    AreGiven t captures → came ≡ arrivals t captures → stamp ≡ t0_of captures →
    IsTraffic (ports_of t.setup) (classes_of t.setup) came → IsKeptOf t came (unpacked_run run) →
    ideal_departures t came ≡ Ok run.sent.items →
    IsCrossed t captures (record { run = run; t0 = stamp })
is_crossed t captures came run stamp given e s traffic kept sent =
    search (arith, rules, keeps_up t captures kept.records given)

-- and of one that goes on from a state: its cells leave in whole packets, and no output sent more of them than there
-- were slots
pub resumed_by : (t : Tables) (captures : List (List Captured)) (schedule : Scheduled) →
    schedule ≡ schedule_of t captures → (text : List ℕ) (from : Taken) → IsRead (switch_of t schedule) text from →
    (run : PackedFabricRun) → IsResumed (switch_of t schedule) from (kept_of (unpacked_run run)) →
    AreGiven t captures → (stamp : ℕ) → stamp ≡ schedule.t0 →
    IsResumedBy t captures text (record { run = run; t0 = stamp })
resumed_by t captures schedule is text from read run resumed given stamp e =
    let whole = resumed_whole t captures from (kept_of (unpacked_run run)) in
    let counts = resumed_counts t captures from (kept_of (unpacked_run run)) in search (arith, rules, whole, counts)
