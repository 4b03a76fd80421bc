-- Packets that are put together at all outputs in one pass. While some departures are left, each output stands where a
-- walk over its own departures would stand (`SoFar`), with the packets of that walk in its bytes (`Walked`). One
-- departure more goes on with the walk at its output, and passes by those at all others.
use Rattle.cq_simulate.proofs.Terms.{if◌then◌else◌, cons_option, Has, append_assoc, all_from_has, rules, ◌≡◌, ◌≢◌, ℕ, ◌+◌, ◌<◌, ◌≤◌, All, List, [], ◌∷◌, ◌++◌, length, map, drop, get_or, set, Option, Some, None, refl, arith, suc, true, take, zero, common_steps, IfSome, cases_eq, cond-true, cond-false, eq-eqb, ne_eqb, and_from, and_left, and_right, append-nil, get_or-set_other, get_or-set_same, length-set, unpacked, Departure, Captured, longest_body, rows_from, ports_of, Tables, ArePacked, HaveLeftOf, packets_out, CanBeJoined, IsEmptied, Took, left_with, records_of, Fits, All-push, leaves_in_flow, left_in_flow, JoinerView, open_at, packet_at, PackedDeparture, written_with, OutPacket, PacketRow, ◌-◌, ◌*◌, flat_map, min, ◌==◌, range_with_len, Cell, cells, cell_of, arrivals, came_in_flow, AreTables, of_packet, Open, filter_none, JoinsOn, cells_above, AllFit, AllByRecursion, take-add, take_min, length-drop, div_ceil_times, take_all, length-rows_from, get_or_default}
unfoldable use Rattle.cq_base.specs.Pieces.{cells_of}
use Rattle.cq_pcap.specs.Written.{written}
use Rattle.cq_simulate.specs.declared.packing.Packing.{Packing}
use Rattle.cq_simulate.proofs.OfPackets.{departed_captured, departed_class, departed_output, flow_is, packet_cells, parts_of}

-- The pieces of an output's cells, joined packet by packet. Of each input and class the cells for an output are
-- those of one packet after another, each whole and in order; those that leave are all cells of some of these
-- packets. So each cell is the next of the packet that is open, or the first of one where none is; and at the last
-- cell of a packet all its pieces are together, which are its frame.

-- ## One packet after another

module _ (t : Tables) (captures : List (List Captured)) (input : ℕ) (some : 0 < t.cell_bytes) where
  abbrev frame : ℕ → List ℕ
  frame k = (packet_at captures input k).body

  -- the pieces of the first cells of a packet
  abbrev pieces : ℕ → ℕ → List ℕ
  pieces k m = take (m * t.cell_bytes) (frame k)

  -- and those with the next cell's, which is as long, or what is left of the frame
  pieces_more : (k m : ℕ) → pieces k (m + 1) ≡ pieces k m ++ take
      (min t.cell_bytes (length (frame k) - m * t.cell_bytes)) (drop (m * t.cell_bytes) (frame k))
  pieces_more k m = grind (arith, common_steps, length-drop, take_min, take-add)

  -- what is open after the first cells of a packet, where some are left
  abbrev open_at_cell : ℕ → ℕ → Option Open
  open_at_cell k m = if m == 0 then None else Some (record { packet = k; taken = m; body = pieces k m })

  fits : (k m : ℕ) → Fits captures (open_at_cell k m) (cell_of t captures input k m)
  unfolding cell_of cells cells_of
  fits k m = search (arith, rules, pieces_more k m, div_ceil_times (length (frame k)) t.cell_bytes some, take_all)

  -- its cells from one on, and then others
  walk : (k : ℕ) (later : List Cell) → AllFit captures None later → (n m : ℕ) → 0 < n →
      m + n ≡ cells t captures input k →
      AllFit captures (open_at_cell k m) (map (cell_of t captures input k) (range_with_len m n) ++ later)
  unfolding cell_of
  walk k later go zero m some e = absurd (omega arith)
  walk k later go (suc n) m some e = search (arith, rules, fits k m, pieces_more, walk k later go n (m + 1))

  -- some packets, one after another
  all_fit : (ks : List ℕ) → AllFit captures None (flat_map (packet_cells t captures input) ks)
  unfolding cells
  all_fit [] = tt
  all_fit (k ∷ ks) = walk k (flat_map (packet_cells t captures input) ks) (all_fit ks) (cells t captures input k) 0
      (cells_above (length (frame k)) t.cell_bytes) (omega arith)

  -- and some of a flow
  pub flow_fits : AreTables t → length captures ≡ ports_of t.setup → (c j : ℕ) (ks : List ℕ) →
      AllFit captures None (flat_map (of_packet (came_in_flow input c j (arrivals t captures))) ks)
  flow_fits are many c j ks = search (arith, rules, flow_is, parts_of, all_fit)

-- The walk over the departures. Of each input and class the cells that are left fit what is open, and the packets that
-- are made and those that are left to make are those that leave.

-- ## One packet

pub original_at : (place : ℕ) (ps : List Captured) (k : ℕ) (d : PacketRow) (e : Captured) → k < length ps →
    (get_or (rows_from place ps) k d).original ≡ (get_or ps k e).original
original_at place (p ∷ ps) (suc k) d e inside = original_at (place + 16 + length p.body) ps k d e (omega arith)
original_at place ps k d e inside = grind (arith, common_steps)

-- ## One after another

-- what is known while these departures are left of those that were sent
pub record SoFar (t : Tables) (captures : List (List Captured)) (output : ℕ) (sent left : List Departure)
    (joiner : JoinerView) (packets : List OutPacket) : Type 0 where
  pub inputs : joiner.inputs ≡ length captures
  pub classes : joiner.classes ≡ length t.setup.classes
  pub fit : (i c : ℕ) → c < length t.setup.classes →
      AllFit captures (open_at joiner i c) (left_in_flow i c output left)
  pub made : packets ++ packets_out t captures left output ≡ packets_out t captures sent output
  pub small : All (λ p. length p.body ≤ longest_body) packets

module _ {t : Tables} {captures : List (List Captured)} {output : ℕ} {sent rest left : List Departure} {d : Departure}
    {joiner : JoinerView} {packets : List OutPacket} (first : left ≡ d ∷ rest)
    (so_far : SoFar t captures output sent left joiner packets) where
  at : SoFar t captures output sent (d ∷ rest) joiner packets
  at = rw first at so_far

  pub at_other : d.output ≢ output → SoFar t captures output sent rest joiner packets
  unfolding packets_out
  at_other ne = search (arith, rules, at, ne_eqb, cond-false)

  module _ (here : d.output ≡ output) where
    own_cell : leaves_in_flow d.queued.cell.id.input d.queued.cell.class output d ≡ true
    own_cell = grind (arith, common_steps, and_from, eq-eqb)

    -- its cell is the next
    pub can_join : {stamp : ℕ} → HaveLeftOf t captures sent stamp → Has sent d → CanBeJoined captures joiner d
    can_join of_run has =
        search (arith, rules, departed_captured of_run d has, departed_class of_run d has, at.fit, cond-true, own_cell)

    module _ {joiner_new : JoinerView} (joined : JoinsOn captures d joiner joiner_new) where
      fit_next : (i c : ℕ) → c < length t.setup.classes →
          AllFit captures (open_at joiner_new i c) (left_in_flow i c output rest)
      fit_next i c few = grind (arith, common_steps, at.fit i c few, and_right, ne_eqb, cases_eq, and_left, own_cell)

      pub went_on : (o : Option OutPacket) {more : List OutPacket} → o ≡ left_with t captures d →
          more ≡ packets ++ cons_option o [] → IfSome o (λ p. length p.body ≤ longest_body) →
          SoFar t captures output sent rest joiner_new more
      unfolding packets_out
      went_on o is pushed small =
          grind (arith, common_steps, at, fit_next, All-push, eq-eqb, append_assoc, append-nil)

pub at_first : {t : Tables} {captures : List (List Captured)} {sent : List Departure} {stamp : ℕ} (output : ℕ)
    (joiner : JoinerView) (packets : List OutPacket) → HaveLeftOf t captures sent stamp →
    joiner.inputs ≡ length captures → joiner.classes ≡ length t.setup.classes →
    ((i c : ℕ) → open_at joiner i c ≡ None) → packets ≡ [] → SoFar t captures output sent sent joiner packets
at_first {t} {captures} {sent} output joiner packets run inputs classes none nothing =
    let fit : (i c : ℕ) → AllFit captures None (left_in_flow i c output sent) = λ i c.
    rw ((run.whole i).left c output) (flow_fits t captures i (omega arith) run.tables run.captures c output _) in
    search (arith, rules)

-- where none is left all packets are made
pub all_are_made : {t : Tables} {captures : List (List Captured)} {output : ℕ} {sent left : List Departure}
    {joiner : JoinerView} {packets : List OutPacket} → SoFar t captures output sent left joiner packets → left ≡ [] →
    packets ≡ packets_out t captures sent output
unfolding packets_out
all_are_made so_far none = grind (arith, common_steps, append-nil)

-- at what is no port nothing departs
pub nowhere : {t : Tables} {captures : List (List Captured)} {sent : List Departure} {stamp : ℕ} (output : ℕ) →
    HaveLeftOf t captures sent stamp → ports_of t.setup ≤ output → packets_out t captures sent output ≡ []
unfolding packets_out
nowhere {t} {captures} {sent} output of_run none = search (rules, filter_none, all_from_has, departed_output, ne_eqb)

-- ## All outputs

-- the walk at an output, while these departures are left: its packets stand in the bytes
pub record Walked (t : Tables) (captures : List (List Captured)) (j : ℕ) (sent left : List Departure) (p : Packing) :
    Type 0 where
  pub packets : List OutPacket
  pub so_far : SoFar t captures j sent left p.joiner packets
  pub bytes : p.bytes.items ≡ written packets

-- what is known while these departures are left
pub record AllSoFar (t : Tables) (captures : List (List Captured)) (sent left : List Departure)
    (places : List Packing) : Type 0 where
  pub within : AllByRecursion (Has sent) left
  pub outputs : length places ≡ ports_of t.setup
  pub each : (j : ℕ) (p : Packing) → j < length places → Walked t captures j sent left (get_or places j p)

pub none_yet : {t : Tables} {captures : List (List Captured)} {sent : List Departure} {stamp : ℕ}
    (of_run : HaveLeftOf t captures sent stamp) (left : List Departure) (places : List Packing) → left ≡ sent →
    length places ≡ ports_of t.setup → All (IsEmptied (length captures) (length t.setup.classes)) places →
    AllSoFar t captures sent left places
none_yet {t} {captures} {sent} of_run left places all outputs emptied = rw all (record {
  within = all_from_has (Has sent) sent (λ d has. has);
  outputs = outputs;
  each = λ j p inside.
      let e = emptied j p inside in search (arith, rules, at_first);
})

module _ {t : Tables} {captures : List (List Captured)} {sent : List Departure} {left rest : List PackedDeparture}
    {p : PackedDeparture} {places : List Packing} {d : Departure} (so_far : AllSoFar t captures sent (map unpacked left)
    places) (first : left ≡ p ∷ rest) (opens : d ≡ unpacked p) {stamp : ℕ} (of_run : HaveLeftOf t captures sent stamp)
  where
    next : map unpacked left ≡ d ∷ map unpacked rest
    next = grind (arith, common_steps)

    within : Has sent d × AllByRecursion (Has sent) (map unpacked rest)
    within = rw next at so_far.within

    pub at_port : d.output < length places
    at_port = rw so_far.outputs (departed_output of_run d within.0)

    module _ (place : Packing) (is : place ≡ get_or places d.output place) where
      own : Walked t captures d.output sent (map unpacked left) place
      own = grind (arith, common_steps, at_port)

      -- its cell is the next
      pub can_take : CanBeJoined captures place.joiner d
      can_take = can_join next own.so_far refl of_run within.0

      module _ (new : Packing) (took : Took t captures d place new) where
        written_on : (o : Option OutPacket) →
            written own.packets ++ records_of o ≡ written (own.packets ++ cons_option o [])
        written_on None = rw (append-nil own.packets, append-nil (written own.packets))
        written_on (Some p) = written_with own.packets p

        gone_on : Walked t captures d.output sent (map unpacked rest) new
        gone_on =
            let on = went_on next own.so_far refl took.joined (left_with t captures d) refl refl took.small in
            let bytes = written_on (left_with t captures d) in search (arith, rules, on, own.bytes, took.bytes)

        at_another : (j : ℕ) (p : Packing) → j < length places → j ≢ d.output →
            Walked t captures j sent (map unpacked rest) (get_or (set places d.output new) j p)
        at_another j p in_places ne =
            let was = so_far.each j p in_places in search (arith, rules, get_or-set_other, at_other next was.so_far)

        pub one_more : AllSoFar t captures sent (map unpacked rest) (set places d.output new)
        one_more = search (arith, rules, length-set, at_another, cases_eq, get_or-set_same, at_port, gone_on, within)

-- where no departure is left all packets are put together
pub all_packed : (t : Tables) (captures : List (List Captured)) (sent left : List Departure) (places : List Packing) →
    AllSoFar t captures sent left places → left ≡ [] → ArePacked t captures sent places
unfolding packets_out
all_packed t captures sent left places so_far none = search (arith, rules, all_are_made)

pub ruleset original_steps = (length-rows_from, get_or_default, original_at)
