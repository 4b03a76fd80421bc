-- The least slack of a run is that of a cell as it arrived. From the arrivals of one slot to those of the next a
-- slack rises at two matchings, falls by one at most at the departures between them, and by one at most at the next
-- arrivals. So it never falls, and each cell that waits has more slack than the least so far. After arrivals it has
-- no less, so that of all slacks then only those of the cells that have arrived can be the least: slot by slot, and
-- so over a whole run.
use Rattle.cq_laws.proofs.Terms.{has_there, stands_at, common_steps, rules, ◌≡◌, ℕ, suc, ◌+◌, ◌-◌, ◌<◌, ◌≤◌, ◌⊎◌, Bool, true, false, List, [], ◌∷◌, length, map, Option, Some, None, refl, inl, ⊎_elim, arith, ◌==◌, min, fold, insert, slice_get, AllByRecursion, enumerate_from, position_or_len, reduce, option_map, cases_lt, eq-eqb, ne_eqb, length-map, get_or_past, length-enumerate_from, same_Some, slice_get-get_or, Cell, Queued, Figures, place_of_arrival, Machine, AreForPorts, IdealState, IsStable, Fabric, input, cushion_of, came_to, Arrives, EachArrivesOr, EachRises, SlotRecord, FabricSlot, Agrees, InputFigures, first_here, first_later, slacks, either_by, input_after, figures_after, slack_on_arrival, all_from_has, Has, Falls, least_slack, HasMoreSlack, option_and_then, filter_map, replicate, cons_option, length-replicate, empty_fabric, FabricRun, empty_ideal, figures_of, no_figures}
use Rattle.std.proofs.lemmas.List.Edits.{get_or-insert_at, length-insert}
use Rattle.cq_laws.proofs.AfterPhases.{arrivals_fall, departures_fall}
use Rattle.cq_laws.proofs.Sound.{one_in_order}
use Rattle.cq_laws.proofs.OneSlot.{keyed, old_sound, arrived, first, second, slack_arrived, ports_kept, same_slot}
use Rattle.cq_laws.proofs.AddingUp.{reduce-append, figures_fold}
use Rattle.cq_laws.proofs.WholeRuns.{empty_agree, no_place, traffic_for_empty}

-- ## Least numbers

pub least_bounds : (x : ℕ) (xs : List ℕ) (v : ℕ) → Has (x ∷ xs) v → fold min x xs ≤ v
least_bounds x [] v h = grind (arith, common_steps)
least_bounds x (y ∷ ys) v h = grind (arith, least_bounds (min x y) ys v, least_bounds (min x y) ys (min x y) (inl refl))

least_among : (x : ℕ) (xs : List ℕ) → Has (x ∷ xs) (fold min x xs)
least_among x [] = inl refl
least_among x (y ∷ ys) = search (arith, rules, least_among (min x y) ys)

-- numbers that are no less than a kept one, but for one of them that is told
same_least : (kept told : Option ℕ) (all : List ℕ) →
    ((v : ℕ) → Has all v → (told ≡ Some v) ⊎ ((low : ℕ) × (kept ≡ Some low) × (low ≤ v))) →
    ((v : ℕ) → told ≡ Some v → Has all v) → either_by min kept (reduce min all) ≡ either_by min kept told
same_least kept told [] low there = grind (arith, common_steps, there)
same_least kept told (x ∷ xs) low there =
    let below = λ (v : ℕ) (e : told ≡ Some v). least_bounds x xs v (there v e) in
    grind (arith, common_steps, same_Some, below, low (fold min x xs) (least_among x xs))

-- the kept number and those that are new have a least, which is no greater than any of them
new_least : (kept : Option ℕ) (all : List ℕ) (v : ℕ) → Has all v →
    (least : ℕ) × (either_by min kept (reduce min all) ≡ Some least) × (least ≤ v)
new_least kept [] v h = absurd h
new_least None (x ∷ xs) v h = (fold min x xs, refl, least_bounds x xs v h)
new_least (Some k) (x ∷ xs) v h = let le = least_bounds x xs v h in (min k (fold min x xs), refl, omega arith)

-- ## Lists that are made place by place

at_row : {X Y : Type 0} (g : ℕ → X → Y) (n : ℕ) (xs : List X) (i m : ℕ) → n + i ≡ m →
    slice_get (map (λ (at : ℕ × X). g at.0 at.1) (enumerate_from n xs)) i ≡ option_map (g m) (slice_get xs i)
at_row g n [] i m e = refl
at_row g n (x ∷ xs) i m e = grind (arith, common_steps, at_row g (n + 1) xs)

-- the slacks of a list are those of the cells at its places
slack_listed : (f : Fabric) (i t : ℕ) (c : Queued) → slice_get (input f i) t ≡ Some c →
    Has (slacks f i) (cushion_of f c - t)
unfolding slacks
slack_listed f i t c at =
    let row = at_row (λ k (d : Queued). cushion_of f d - k) 0 (input f i) t t in search (arith, rules, has_there, row)

listed_slack : (f : Fabric) (i v : ℕ) → Has (slacks f i) v →
    (t : ℕ) × (c : Queued) × (slice_get (input f i) t ≡ Some c) × (v ≡ cushion_of f c - t)
unfolding slacks
listed_slack f i v h =
    let r = stands_at (slacks f i) v h in
    grind (arith, common_steps, at_row (λ k (d : Queued). cushion_of f d - k) 0 (input f i) r.0 r.0)

-- ## Where a cell stands that has arrived

position-insert : (q : Queued → Bool) (xs : List Queued) (p : ℕ) (n : Queued) → p ≤ length xs → q n ≡ true →
    AllByRecursion (λ x. q x ≡ false) xs → position_or_len q (insert xs p n) ≡ p
position-insert q (x ∷ xs) (suc p) n le here others = search (rules, first_later, position-insert q xs p n)
position-insert q xs p n le here others = grind (arith, common_steps, first_here)

at_insert : (xs : List Queued) (p : ℕ) (n : Queued) → p ≤ length xs → slice_get (insert xs p n) p ≡ Some n
at_insert xs p n le =
    grind (arith, common_steps, get_or-insert_at xs p n n, slice_get-get_or (insert xs p n) p n, length-insert)

-- ## The figures of an input

-- the least slack with one record more
pub least_after : (x : Figures) (r : SlotRecord) (i : ℕ) → i < length x.inputs →
    least_slack (figures_after x r) i ≡ either_by min (least_slack x i) (reduce min (slacks r.arrived i))
unfolding figures_after input_after
least_after x r i inside =
    let none : InputFigures = record { cells = 0; longest = 0; slack = None } in
    rw (at_row (input_after r) 0 x.inputs i i (omega arith), slice_get-get_or x.inputs i none inside) refl

-- ## Over one slot

module _ (ms : List Machine) (slot class_count : ℕ) (cells : List (Option Cell)) (f g : Fabric) (ideal : IdealState)
    (r : SlotRecord) (agrees : Agrees slot f ideal) (come : AreForPorts (length f.inputs) class_count cells)
    (step : FabricSlot IsStable ms slot cells f r g) where
  -- from the arrivals to the end of the slot
  pub slot_rises : EachRises 1 r.arrived g
  slot_rises i t c at =
      let two = (second ms slot class_count cells f g ideal r agrees come step).rises i t c at in
      let between = departures_fall ms r.gone r.filled r.sent step.depart i two.before c two.stood in
      search (arith, rules, (first ms slot class_count cells f g ideal r agrees come step).rises i between.before c)

  -- from the arrivals to those of the next slot
  pub never_falls : (cells' : List (Option Cell)) (came' : List (Option Queued)) (next : Fabric) →
      Arrives ms (slot + 1) cells' came' g next → EachArrivesOr (Falls 0 r.arrived next) came' next
  never_falls cells' came' next arrive i t c at =
      ⊎_elim (λ a. inl a) (λ a. search (arith, rules, slot_rises i a.before c a.stood))
      (arrivals_fall ms (slot + 1) cells' came' g next arrive i t c at)

  -- the input thread with which a cell arrives is the place where it goes in
  pub arrival_place : (i : ℕ) (c : Queued) → came_to r.came i ≡ Some c →
      position_or_len (λ x. x.key.slot == r.slot) (input r.arrived i)
      ≡ place_of_arrival (cushion_of f c) c (input f i)
  arrival_place i c came =
      let new = keyed ms slot class_count cells f g ideal r agrees come step in
      search (arith, rules, new, all_from_has, ne_eqb, position-insert, eq-eqb, old_sound ms slot class_count cells f)

  pub arrival_at_place : (i : ℕ) (c : Queued) → came_to r.came i ≡ Some c →
      slice_get (input r.arrived i) (place_of_arrival (cushion_of f c) c (input f i)) ≡ Some c
  arrival_at_place i c came = search (rules, at_insert)

  -- ## With figures

  module _ (x : Figures) (has : HasMoreSlack x f) where
    -- each slack after the arrivals is that of the cell that arrived, or is no less than the least so far
    low : (i v : ℕ) → Has (slacks r.arrived i) v →
        (slack_on_arrival i r ≡ Some v) ⊎ ((least : ℕ) × (least_slack x i ≡ Some least) × (least ≤ v))
    unfolding slack_on_arrival
    low i v h =
        let at = listed_slack r.arrived i v h in
        let fall = arrivals_fall ms slot cells r.came f r.arrived step.arrive i at.0 at.1 at.2 in
        search (arith, rules, fall, arrival_place i, one_in_order, arrival_at_place i, slack_arrived, arrived ms slot)

    there_on : (i v : ℕ) (o : Option Queued) → came_to r.came i ≡ o →
        option_map (λ c. cushion_of r.arrived c - position_or_len (λ q. q.key.slot == r.slot) (input r.arrived i)) o
        ≡ Some v → Has (slacks r.arrived i) v
    there_on i v o came e = search (arith, rules, slack_listed r.arrived i, arrival_at_place, arrival_place)

    pub by_arrivals : (i : ℕ) →
        either_by min (least_slack x i) (reduce min (slacks r.arrived i))
        ≡ either_by min (least_slack x i) (slack_on_arrival i r)
    unfolding slack_on_arrival
    by_arrivals i = search (rules, same_least, low, there_on)

  -- Whatever the cells were that waited before: the figures after the slot are no greater than any slack after its
  -- arrivals, and each has risen since.
  module _ (x : Figures) (as_many : length x.inputs ≡ length f.inputs) where
    pub more_after : HasMoreSlack (figures_after x r) g
    unfolding figures_after
    more_after =
        record {
          ports = search (arith, rules, length-map, length-enumerate_from, ports_kept);
          more = λ i t c at.
              let rise = slot_rises i t c at in
              let within = slack_arrived ms slot class_count cells f g ideal r agrees come step in
              let new = new_least (least_slack x i) (slacks r.arrived i) _ (slack_listed r.arrived i _ c rise.stood) in
              search (arith, rules, least_after, get_or_past, cases_lt) fits 4000;
        }

reduce-cons : (o : Option ℕ) (xs : List ℕ) → reduce min (cons_option o xs) ≡ either_by min o (reduce min xs)
reduce-cons o xs = grind (arith, common_steps, reduce-append min (λ a b c. omega arith) (cons_option o []) xs)

-- ## Over a run

module _ (ms : List Machine) (class_count : ℕ) where
  least_run : (slot : ℕ) (traffic : List (List (Option Cell))) (f g : Fabric) (ideal : IdealState)
      (rs : List SlotRecord) (x : Figures) (i : ℕ) → Agrees slot f ideal →
      AllByRecursion (AreForPorts (length f.inputs) class_count) traffic → FabricRun IsStable ms slot traffic f rs g →
      HasMoreSlack x f → i < length x.inputs →
      least_slack (fold figures_after x rs) i
      ≡ either_by min (least_slack x i) (reduce min (filter_map (slack_on_arrival i) rs))
  least_run slot (cells ∷ traffic) f g ideal (r ∷ rs) x i agrees come run has inside =
      let more = more_after ms slot class_count cells f run.0 ideal r agrees come.0 run.1 x has.ports in
      let one = same_slot ms slot class_count cells f run.0 ideal r agrees come.0 run.1 in
      search (arith, rules, least_after, by_arrivals, reduce-cons, least_run (slot + 1) traffic run.0)
  least_run slot traffic f g ideal rs x i agrees come run has inside = grind (arith, common_steps)

-- before the first slot no input has a least slack, and no cell waits
no_least : (n i : ℕ) →
    option_and_then (λ (y : InputFigures). y.slack) (slice_get
    (replicate n (record { cells = 0; longest = 0; slack = None })) i) ≡ None
no_least (suc n) (suc i) = no_least n i
no_least n i = refl

pub more_at_first : (ports : ℕ) (ranks : List (List ℕ)) → HasMoreSlack (no_figures ports) (empty_fabric ports ranks)
more_at_first ports ranks = grind (arith, common_steps, length-replicate, no_place)

pub least_of_run : (ms : List Machine) (ports class_count : ℕ) (ranks : List (List ℕ))
    (traffic : List (List (Option Cell))) (rs : List SlotRecord) (g : Fabric) (i : ℕ) →
    AllByRecursion (AreForPorts ports class_count) traffic →
    FabricRun IsStable ms 0 traffic (empty_fabric ports ranks) rs g → i < ports →
    least_slack (figures_of ports rs) i ≡ reduce min (filter_map (slack_on_arrival i) rs)
least_of_run ms ports class_count ranks traffic rs g i come run inside =
    let start = empty_fabric ports ranks in
    let all = least_run ms class_count 0 traffic start g (empty_ideal ports ranks) rs (no_figures ports) i in
    search (arith, rules, figures_fold, all, empty_agree, traffic_for_empty, more_at_first, no_least, length-replicate)
