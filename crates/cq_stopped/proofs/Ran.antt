-- What is known of a switch that tables configure, with what arrives at it: its ports and classes, its machines, that
-- keep the laws of machines and begin in a state of their size, and its arrivals, of which there are not many. They
-- come packet after packet at each input. And what is known of a run of it that was stopped before a slot. Beside the
-- fabric stands the ideal switch that agrees with it. At each output there left some cells, and others wait; all of
-- these are keyed as the switch keys them, no two of them have the same name, and of each flow those ahead came first.
-- They are just the cells that came in, by what was recorded slot by slot. What left stands in order, and no list and
-- no number of a rank state is too great.
use Rattle.cq_stopped.proofs.Terms.{Bool, Named, ◌&&◌, ◌≡◌, ◌≢◌, ℕ, ◌⊎◌, ◌<◌, ◌≤◌, ◌^◌, List, [], ◌++◌, length, map, Option, Some, ◌==◌, filter, slice_index_or, AllByRecursion, arriving_at, Departure, Queued, IdealState, Agrees, Fabric, IsAmong, input, LimitedRecord, came_to, list_of, machine_at, EachPair, Has, Switch, All-replicate, recursion_from_All, common_steps, rules, zero, suc, ◌+◌, ◌-◌, ◌*◌, min, ◌∷◌, flat_map, arith, length-append, fold, range_with_len, length-map, Scheduled, IsRecorded, IsTraffic, KeepsLaws, Machine, all_both, ArePackets, IsScheduleOf, switch_of, AreTables, Tables, machine_of, opening_of, openings_of, AreRecorded, of_images, FitsLine, ClassRow, Kind, FirstCome, few_by, Captured, schedule_known, small_cells, keeps_laws, kind, machine_is, right_classes, right_size, level_count, longest_file, most_classes, most_ports}
use Rattle.cq_ideal.proofs.FlowStands.{Stands}
use Rattle.cq_cells.specs.Schedule.{arrivals, arrivals_at, t0_of, packets_of}

-- all numbers of a rank state fit 128 bits
abbrev pub AreLow : List ℕ → Type 0
AreLow ns = AllByRecursion (λ n. n < 2 ^ 128) ns

-- and they do so after each step of a machine, where the rank that is given or sent fits
pub record KeepsLow (m : Machine) : Type 0 where
  pub given : (s : List ℕ) (c : ℕ) → AreLow s → m.ranked s c < 2 ^ 128 → AreLow (m.given s c)
  pub sent : (s : List ℕ) (level rank : ℕ) → AreLow s → rank < 2 ^ 128 → AreLow (m.sent s level rank)
  pub idle : (s : List ℕ) → AreLow s → AreLow (m.idle s)

pub record IsConfigured (w : Switch) (ranks : List (List ℕ)) : Type 0 where
  pub some : 1 ≤ length w.machines
  pub few : length w.machines ≤ most_ports
  pub limits : length w.limits ≡ length w.machines
  pub some_classes : 1 ≤ w.classes
  pub few_classes : w.classes ≤ most_classes
  pub t0 : w.t0 < 2 ^ 63
  pub traffic : IsTraffic (length w.machines) w.classes w.came
  pub packets : ArePackets (length w.machines) w.came
  pub names : AllByRecursion FitsLine w.came
  pub few_cells : length w.came ≤ 2 ^ 34
  pub laws : (j : ℕ) → j < length w.machines → KeepsLaws (machine_at w.machines j)
  pub same : (j : ℕ) → j < length w.machines → (machine_at w.machines j).classes ≡ w.classes
  pub level : (j c : ℕ) → j < length w.machines → c < w.classes → (machine_at w.machines j).level c ≤ level_count - 1
  pub low : (j : ℕ) → KeepsLow (machine_at w.machines j)
  pub small : (j : ℕ) → j < length w.machines → (machine_at w.machines j).size ≤ 32
  pub openings : length ranks ≡ length w.machines
  pub openings_low : AllByRecursion AreLow ranks
  pub sizes : (j : ℕ) → j < length w.machines → length (slice_index_or ranks j []) ≡ (machine_at w.machines j).size

-- ## The machines of a setup

machine_low : (kind : Kind) (rows : List ClassRow) → KeepsLow (machine_of kind rows)
machine_low kind rows = grind (arith, common_steps, recursion_from_All, All-replicate)

openings_all : (kinds : List Kind) (rows : List ClassRow) →
    AllByRecursion AreLow (map (λ (k : Kind). opening_of k rows) kinds)
openings_all [] rows = tt
openings_all (k ∷ kinds) rows = grind (arith, common_steps, recursion_from_All, All-replicate, openings_all kinds)

machines_low : (kinds : List Kind) (rows : List ClassRow) (j : ℕ) →
    KeepsLow (machine_at (map (λ (k : Kind). machine_of k rows) kinds) j)
machines_low [] rows j = machine_low FirstCome []
machines_low (k ∷ kinds) rows j = search (rules, machine_low, machines_low kinds)

-- ## The captures

module _ (t : Tables) (captures : List (List Captured)) where
  lines_short : (a n : ℕ) → 1 ≤ t.cell_bytes → ((i : ℕ) → i < a + n → IsRecorded (packets_of captures i)) →
      length (flat_map (arrivals_at t captures) (range_with_len a n)) ≤ n * longest_file
  unfolding arrivals_at
  lines_short a zero some each = omega arith
  lines_short a (suc n) some each = search (rules, few_by, flat_map, length-append, lines_short (a + 1) n some)

-- ## T0

pub least_of : (a : ℕ) (ns : List ℕ) → fold min a ns ≤ a
least_of a [] = omega arith
least_of a (n ∷ ns) = let rest = least_of (min a n) ns in omega arith

stamps_low : (captures : List (List Captured)) →
    ((i : ℕ) → i < length captures → IsRecorded (packets_of captures i)) →
    AllByRecursion (λ n. n < 2 ^ 63) (flat_map (λ (ps : List Captured). map (λ (p : Captured). p.stamp) ps) captures)
stamps_low [] each = tt
stamps_low (ps ∷ captures) each =
    let first = (each zero (omega arith)).stamps in
    let rest = stamps_low captures (λ i lt. each (suc i) (omega arith)) in search (rules, all_both, of_images)

first_low : (captures : List (List Captured)) → ((i : ℕ) → i < length captures → IsRecorded (packets_of captures i)) →
    t0_of captures < 2 ^ 63
unfolding t0_of
first_low captures each = search (arith, rules, flat_map, stamps_low, least_of)

-- ## Together

pub configured : (t : Tables) (s : Scheduled) (made : IsScheduleOf t s) → AreTables t → AreRecorded t s made →
    IsConfigured (switch_of t s) (openings_of t.setup)
unfolding arrivals
configured t s made tables recorded =
    let known = schedule_known t s tables made in
    let stamp : s.t0 < 2 ^ 63 = rw made.schedule (first_low made.captures recorded) in
    let low = machines_low t.setup.kinds t.setup.classes in
    let openings = openings_all t.setup.kinds t.setup.classes in
    search (arith, rules, keeps_laws, right_classes, kind, machine_is, right_size, length-map, small_cells, lines_short)

-- ## A run that was stopped

-- a cell with its key, as the switch keys it
pub record IsKeyed (w : Switch) (q : Queued) : Type 0 where
  pub arrives : arriving_at w.came q.key.slot q.key.input ≡ Some q.cell
  pub input : q.cell.id.input ≡ q.key.input
  pub inside : q.key.input < length w.machines
  pub output : q.cell.output < length w.machines
  pub class : q.cell.class < w.classes
  pub level : q.key.level ≡ (machine_at w.machines q.cell.output).level q.cell.class
  pub rank : q.key.rank < 2 ^ 128

-- a cell of output j that came before slot n
pub record IsOwn (w : Switch) (n j : ℕ) (q : Queued) : Type 0 where
  pub keyed : IsKeyed w q
  pub here : q.cell.output ≡ j
  pub before : q.key.slot < n

-- of two cells of an output the first stands ahead: they have other names, and of one flow the first came first
pub record Follows (a b : Queued) : Type 0 where
  pub differ : a.key.slot ≡ b.key.slot → a.key.input ≢ b.key.input
  pub later : a.key.input ≡ b.key.input → a.cell.class ≡ b.cell.class → a.key.slot < b.key.slot

-- what left output j, and what waits for it in the ideal switch
pub record Lane (w : Switch) (n j : ℕ) (state : List ℕ) (left waiting : List Queued) : Type 0 where
  pub stands : Stands (machine_at w.machines j) state n 0 waiting
  pub own : AllByRecursion (IsOwn w n j) (left ++ waiting)
  pub pairs : EachPair Follows (left ++ waiting)

-- what left output j
abbrev pub left_at : ℕ → List Departure → List Queued
left_at j sent = map (λ d. d.queued) (filter (λ d. d.output == j) sent)

-- what left output j, and then what waits for it
abbrev pub pool_at : ℕ → List Departure → IdealState → List Queued
pool_at j sent ideal = left_at j sent ++ list_of ideal.lists j

-- the cell that came in slot t at input i, by what came in each slot
abbrev pub came_in : List (List (Option Queued)) → ℕ → ℕ → Option Queued
came_in cs t i = came_to (slice_index_or cs t []) i

-- what came in each slot of these records
abbrev pub came_of : List LimitedRecord → List (List (Option Queued))
came_of rs = map (λ r. r.of_slot.came) rs

-- whether a name is of slot t and input i
abbrev pub is_name_at : ℕ → ℕ → Named → Bool
is_name_at t i c = c.slot == t && c.input == i

-- a departure before slot n, not before its cell came, at the output of its cell
pub record IsSentRight (w : Switch) (n : ℕ) (d : Departure) : Type 0 where
  pub own : d.output ≡ d.queued.cell.output
  pub inside : d.output < length w.machines
  pub from : d.queued.key.slot ≤ d.slot
  pub before : d.slot < n

-- one departs before another: in an earlier slot, or in one slot at an earlier output; and of one output it went ahead
pub record DepartsBefore (d e : Departure) : Type 0 where
  pub order : (d.slot < e.slot) ⊎ ((d.slot ≡ e.slot) × (d.output < e.output))
  pub ahead : d.output ≡ e.output → Follows d.queued e.queued

-- a cell that came in a slot at an input: it is named so, and it left or waits
pub record IsHeld (ideal : IdealState) (sent : List Departure) (t i : ℕ) (q : Queued) : Type 0 where
  pub slot : q.key.slot ≡ t
  pub input : q.key.input ≡ i
  pub inside : q.cell.output < length ideal.lists
  pub held : Has (pool_at q.cell.output sent ideal) q

-- before slot n the fabric and the ideal switch stand so, with what came and what was sent so far
pub record Known (w : Switch) (n : ℕ) (f : Fabric) (ideal : IdealState) (cs : List (List (Option Queued)))
    (sent : List Departure) : Type 0 where
  pub agrees : Agrees n f ideal
  pub ports : length f.inputs ≡ length w.machines
  pub states : length ideal.ranks ≡ length w.machines
  pub lanes : (j : ℕ) → j < length w.machines →
      Lane w n j (slice_index_or ideal.ranks j []) (left_at j sent) (list_of ideal.lists j)
  pub placed : (i : ℕ) (c : Queued) → IsAmong c (input f i) → c.key.input ≡ i
  pub departed : AllByRecursion (IsSentRight w n) sent
  pub ordered : EachPair DepartsBefore sent
  pub short : (i : ℕ) → length (input f i) ≤ n
  pub low : AllByRecursion AreLow f.ranks
  pub long : length cs ≡ n
  pub origin : (j : ℕ) (q : Queued) → j < length w.machines → Has (pool_at j sent ideal) q →
      came_in cs q.key.slot q.key.input ≡ Some q
  pub held : (t i : ℕ) (q : Queued) → came_in cs t i ≡ Some q → IsHeld ideal sent t i q
