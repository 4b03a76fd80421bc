-- Relations that go on from one to the next. Where one holds of neighbours it holds of each and each later one, so a
-- test of neighbours decides it. And it is enough to compare an item with the last one of its lane, for which a place
-- is kept: that decides whether the relation holds of each and each later one of one lane, since of the earlier items
-- of the lane each is the last one, or stands before it. The orders of cells and of names are such relations, and so
-- are those of cells in lists and of names in flows (`specs/Laned.antt`). Of cells or names that stand by input, those
-- of one list or of one flow stand in order exactly where those of one lane do, by input first. And the cells of lists
-- have slack where those of the list of each port have.
use Rattle.cq_resume.proofs.Terms.{common_steps, rules, ap, ◌==◌, ◌≡◌, ℕ, ◌+◌, ◌<◌, ◌⊎◌, ◌↔◌, Bool, true, false, List, length, get_or, set, replicate, Option, None, Some, refl, inl, inr, arith, ◌*◌, IfSome, AllPairs, AllByRecursion, cases_eq, cases_lt, get_or-replicate, get_or-set_other, get_or-set_same, get_or_default, get_or_past, length-replicate, get_or_read, FlowsStand, IsNameBefore, IsBefore, Queued, Name, ne_eqb, SlackStands, slice_get-get_or, key_laws, most_classes, All-from_recursion, zero, suc, AllAdjacentBelow, all_weaker, filter, HasRoom, IsAheadInFlow, flow_of, filter_none}
use Rattle.cq_resume.specs.Neighbours.{IsOfNeighbours}
use Rattle.cq_base.proofs.Each.{one_there}

-- ## Neighbours

module _ {X : Type 0} (R : X → X → Type 0) (xs : List X) where
  module _ (goes_on : (a b c : X) → R a b → R b c → R a c) where
    pub next_pairs : AllAdjacentBelow R xs (length xs) → AllPairs R xs
    next_pairs all i zero d lt inside = absurd (omega arith)
    next_pairs all i (suc j) d lt inside = grind (arith, common_steps, cases_eq i j, next_pairs all i j d)

    -- the answer of a test that decides the relation, asked of each and the next one
    pub neighbours_decide : {Test : X → X → Bool → Type 0} {r : Bool} → IsOfNeighbours Test xs r →
        ((a b : X) (r : Bool) → Test a b r → (r ≡ true) ↔ R a b) → (r ≡ true) ↔ AllPairs R xs
    neighbours_decide {r = true} answer decides = grind (arith, common_steps, next_pairs, decides, answer.each)
    neighbours_decide {r = false} answer decides =
        let failed = answer.each in
        search (arith, rules, decides _ _ false (failed.2 (one_there xs failed.0 (omega (arith, failed.1))).0))

-- ## Lanes

module _ {X : Type 0} (lane : X → ℕ) (R : X → X → Type 0) where
  -- it holds of two items of one lane
  abbrev pub InLane : X → X → Type 0
  InLane a b = lane a ≡ lane b → R a b

  -- one of the items below a place, of a lane
  pub record IsThere (xs : List X) (n l : ℕ) (y : X) : Type 0 where
    pub place : ℕ
    pub below : place < n
    pub stands : (d : X) → get_or xs place d ≡ y
    pub in_lane : lane y ≡ l

  -- what is known before a place: the items of one lane stand in order, and of each lane its last one is kept, before
  -- which each other one stands
  pub record Lanes (xs : List X) (n : ℕ) (last : List (Option X)) : Type 0 where
    pub pairs : (i j : ℕ) (d : X) → i < j → j < n → InLane (get_or xs i d) (get_or xs j d)
    pub some : (l : ℕ) (y : X) → get_or last l None ≡ Some y → IsThere xs n l y
    pub each : (k : ℕ) (d : X) → k < n →
        (y : X) × (get_or last (lane (get_or xs k d)) None ≡ Some y) × ((get_or xs k d ≡ y) ⊎ R (get_or xs k d) y)

  pub lanes_first : (xs : List X) (last : List (Option X)) → last ≡ replicate (length last) None → Lanes xs 0 last
  lanes_first xs last none = grind (arith, common_steps, get_or-replicate, get_or_past, cases_lt (length last))

  module _ {xs : List X} {n : ℕ} {last : List (Option X)} (known : Lanes xs n last) (lanes : ℕ)
      (fits : AllByRecursion (λ x. lane x < lanes) xs) (long : length last ≡ lanes) (here : X)
      (is : here ≡ get_or xs n here) (inside : n < length xs) (its : ℕ) (own : its ≡ lane here) where
    abbrev then : List (Option X)
    then = set last its (Some here)

    pub within : its < length last
    within = let fit = All-from_recursion _ xs fits n here inside in omega (arith, ap lane is)

    read_here : get_or then (lane here) None ≡ Some here
    read_here = let inside = within in grind (arith, common_steps, get_or-set_same)

    module _ (read : Option X) (read_is : read ≡ get_or last its read) (may : Bool)
        (test : (may ≡ true) ↔ IfSome read (λ y. R y here)) where
      -- one that may come behind the last one of its lane stands behind all of the lane, and is the last one then
      module _ (goes_on : (a b c : X) → R a b → R b c → R a c) (comes : may ≡ true) where
        last_is : (i : ℕ) (d : X) → i < n → InLane (get_or xs i d) here
        last_is i d lt same = grind (arith, common_steps, known.each i d, goes_on, get_or_read last its read, within)

        pairs_then : (i j : ℕ) (d : X) → i < j → j < n + 1 → InLane (get_or xs i d) (get_or xs j d)
        pairs_then i j d lt le =
            grind (arith, common_steps, last_is i d, known.pairs i j d, get_or_default, cases_eq j n)

        some_then : (l : ℕ) (y : X) → get_or then l None ≡ Some y → IsThere xs (n + 1) l y
        some_then l y shown =
            search (arith, rules, read_here, known.some l y, get_or-set_other, get_or_default, cases_eq l (lane here))

        each_then : (k : ℕ) (d : X) → k < n + 1 → (y : X) × (get_or then (lane (get_or xs k d)) None ≡ Some y)
            × ((get_or xs k d ≡ y) ⊎ R (get_or xs k d) y)
        each_then k d lt = elim (cases_eq k n) [
          | inl same ↦
              let it : get_or xs k d ≡ here = grind (arith, common_steps, get_or_default) in
              rw it (here, read_here, inl refl)
          | inr before ↦ search (arith, rules, known.each k d, cases_eq, get_or-set_other, read_here, last_is)
        ]

        pub lanes_next : Lanes xs (n + 1) then
        lanes_next = record { pairs = pairs_then; some = some_then; each = each_then }

      -- one that stands behind all of its lane may come
      pub lanes_stop : may ≡ false → (false ≡ true) ↔ AllPairs InLane xs
      lanes_stop not_so = search (arith, rules, get_or_read last its read, within, follows)
        where
          follows : AllPairs InLane xs → (o : Option X) → get_or last (lane here) None ≡ o → IfSome o (λ y. R y here)
          follows pairs None shown = tt
          follows pairs (Some y) shown =
              let it = known.some (lane here) y shown in search (arith, rules, pairs it.place n here)

-- ## Orders of cells and of names

pub urgent_on : (a b c : Queued) → IsBefore a b → IsBefore b c → IsBefore a c
urgent_on a b c = key_laws.on a.key b.key c.key

pub name_on : (a b c : Name) → IsNameBefore a b → IsNameBefore b c → IsNameBefore a c
name_on a b c first second = grind (arith, common_steps)

-- ## Cells of lists

pub ruleset list_steps = (length-replicate)

-- ## Flows

module _ (ports : ℕ) (xs : List Name)
    (each : AllByRecursion (λ n. (n.queued.cell.output < ports) × (n.queued.cell.class < most_classes)) xs) where
  pub flows_fit : AllByRecursion (λ n. flow_of n < ports * most_classes) xs
  flows_fit = all_weaker _ _ (λ n is. omega arith) xs each

  pub flows_as_lanes : AllPairs IsNameBefore xs → AllPairs (InLane flow_of IsAheadInFlow) xs ↔ FlowsStand xs
  flows_as_lanes ordered = (
    (λ lanes i j d lt inside. grind (arith, common_steps, lanes i j d lt inside)),
    (λ stand i j d lt inside. grind (arith, common_steps, ordered i j d, stand i j d, All-from_recursion _ xs each)),
  )

-- cells of flows, lane by lane
pub ruleset flow_steps = (flows_fit, flows_as_lanes, length-replicate)

-- ## Slack

-- a cell at its place
pub ruleset room_steps = (get_or_default, slice_get-get_or)

-- an input behind the last one has no list
pub slack_by_input : (listed buffered : List Queued) (ports : ℕ) → AllByRecursion (λ q. q.key.input < ports) listed →
    ((i : ℕ) → i < ports → HasRoom buffered (filter (λ q. q.key.input == i) listed)) → SlackStands listed buffered
slack_by_input listed buffered ports inputs each = search (arith, rules, filter_none, all_weaker, ne_eqb, cases_lt)
