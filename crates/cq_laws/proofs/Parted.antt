-- Runs in parts, whatever a slot is. A run from where another ended goes on with it. The first slots of a run are a
-- run, and where that ended the others go on. So a run over many slots passes through the end of each shorter one,
-- and two whole runs of which each slot leaves no choice are one. The departures and the transfers of two runs on
-- end are those of the first and then those of the second.
use Rattle.cq_laws.proofs.Terms.{common_steps, rules, ◌≡◌, ℕ, suc, ◌+◌, ◌-◌, ◌<◌, ◌≤◌, List, [], ◌∷◌, ◌++◌, length, drop, Option, ap, arith, AllByRecursion, cases_lt, take_all, Arrival, end_of, Cell, IsEnd, arriving_from, first_slots, arriving_length, arriving_parts, AfterBy, HasParts, RunBy, WholeBy, all_front, TagFault, StopBy, GoOn, append-nil, map-append, length-map, flat_map-append, departures_of, departures_in, departures_append, gone_in, transfers_in, transfers_of_run, SlotRecord}

module _ {S R : Type 0} (Step : ℕ → List (Option Cell) → S → R → S → Type 0)
    (Fault : ℕ → List (Option Cell) → S → TagFault → Type 0) where
  joined : (slot : ℕ) (before after : List (List (Option Cell))) (f m g : S) (rs ss : List R) →
      RunBy Step slot before f rs m → RunBy Step (slot + length before) after m ss g →
      RunBy Step slot (before ++ after) f (rs ++ ss) g
  joined slot (cells ∷ before) after f m g (r ∷ rs) ss x y =
      grind (arith, common_steps, joined (slot + 1) before after x.0 m g rs ss x.2)
  joined slot before after f m g rs ss x y = grind (arith, common_steps)

  stopped : (slot : ℕ) (before after : List (List (Option Cell))) (f m : S) (rs ss : List R) (fault : TagFault) →
      RunBy Step slot before f rs m → StopBy Step Fault (slot + length before) after m ss fault →
      StopBy Step Fault slot (before ++ after) f (rs ++ ss) fault
  stopped slot (cells ∷ before) after f m (r ∷ rs) ss fault x y =
      grind (arith, common_steps, stopped (slot + 1) before after x.0 m rs ss fault x.2)
  stopped slot before after f m rs ss fault x y = grind (arith, common_steps)

  pub all_go_on : GoOn Step Fault
  all_go_on = grind (arith, common_steps, joined, stopped)

pub fewer_fit : (P : List (Option Cell) → Type 0) (came : List Arrival) (m n : ℕ) → m ≤ n →
    AllByRecursion P (first_slots came n) → AllByRecursion P (first_slots came m)
fewer_fit P came m n le all = search (arith, rules, all_front, arriving_parts came 0 m m (n - m) n)

module _ {S R : Type 0} (Step : ℕ → List (Option Cell) → S → R → S → Type 0) where
  pub run_length : (slot : ℕ) (traffic : List (List (Option Cell))) (f g : S) (rs : List R) →
      RunBy Step slot traffic f rs g → length rs ≡ length traffic
  run_length slot (cells ∷ traffic) f g (r ∷ rs) x = ap suc (run_length (slot + 1) traffic x.0 g rs x.2)
  run_length slot traffic f g rs x = grind (arith, common_steps)

  pub parts : (slot : ℕ) (before after : List (List (Option Cell))) (f h : S) (rs : List R) →
      RunBy Step slot (before ++ after) f rs h → HasParts Step slot before after f rs h
  parts slot (cells ∷ before) after f h (r ∷ rs) x = search (rules, parts (slot + 1) before after x.0 h rs x.2)
  parts slot before after f h rs x = grind (arith, common_steps)

  module _ (came : List Arrival) (start : S) (rs : List R) where
    -- where the run is after fewer slots, and how it goes on
    pub record Reach (m n : ℕ) (end : S) : Type 0 where
      pub state : S
      pub after : AfterBy Step came start rs m state
      pub rest : RunBy Step m (arriving_from came m (n - m)) state (drop m rs) end

    pub reach : (m n : ℕ) (end : S) → m ≤ n → RunBy Step 0 (first_slots came n) start rs end → Reach m n end
    reach m n end le run = search (arith, rules, arriving_parts came 0 m m (n - m) n, arriving_length, parts)

    pub run_of_whole : (IsEmpty : S → Type 0) (end : S) → WholeBy Step IsEmpty came start rs end →
        RunBy Step 0 (first_slots came (length rs)) start rs end
    run_of_whole IsEmpty end w = grind (arith, common_steps, take_all)

    -- where a run ends, what goes on beside it ends too, if it is not over sooner
    pub ends_with : {T : Type 0} (IsOver : S → Type 0) (At : ℕ → T → Type 0) (IsEmpty : T → Type 0) (s : S) (t : T) →
        WholeBy Step IsOver came start rs s → At (length rs) t → IsEmpty t →
        ((m : ℕ) (u : T) (v : S) → m < length rs → end_of came ≤ m → AfterBy Step came start rs m v → At m u →
        IsEmpty u → IsOver v) →
        IsEnd came At IsEmpty (length rs) t
    ends_with IsOver At IsEmpty s t w at empty back =
        record {
          after = at;
          all_came = w.all_came;
          empty = empty;
          first = λ m u after late over.
              search (arith, rules, reach m (length rs) s, run_of_whole IsOver s w);
        }

  -- ## One whole run

  module _ (one : (slot : ℕ) (traffic : List (List (Option Cell))) (f g h : S) (rs ss : List R) →
      RunBy Step slot traffic f rs g → RunBy Step slot traffic f ss h → (rs ≡ ss) × (g ≡ h)) (IsEmpty : S →
      Type 0) (came : List Arrival) (start : S) where
    no_longer : (g h : S) (rs ss : List R) → WholeBy Step IsEmpty came start rs g →
        WholeBy Step IsEmpty came start ss h → length rs ≤ length ss
    no_longer g h rs ss w v =
        search (arith, rules, cases_lt, reach came start rs (length ss), run_of_whole came start rs IsEmpty g w)

    pub one_whole : (g h : S) (rs ss : List R) → WholeBy Step IsEmpty came start rs g →
        WholeBy Step IsEmpty came start ss h → (rs ≡ ss) × (g ≡ h)
    one_whole g h rs ss w v = grind (arith, common_steps, no_longer, run_of_whole)

-- ## What was sent and moved, in parts

-- from any slot on
pub departures_on : (rs ss : List SlotRecord) (first slot : ℕ) → first + length rs ≡ slot →
    departures_of first (gone_in (rs ++ ss)) ≡ departures_of first (gone_in rs) ++ departures_of slot (gone_in ss)
departures_on rs ss first slot long = grind (arith, common_steps, length-map, map-append, departures_append)

pub departures_one : (slot : ℕ) (r : SlotRecord) → departures_of slot (gone_in (r ∷ [])) ≡ departures_in slot r.gone
unfolding departures_of
departures_one slot r = append-nil (departures_in slot r.gone)

pub transfers_both : (rs ss : List SlotRecord) →
    transfers_of_run (rs ++ ss) ≡ transfers_of_run rs ++ transfers_of_run ss
unfolding transfers_of_run
transfers_both rs ss = flat_map-append transfers_in rs ss

pub transfers_one : (r : SlotRecord) → transfers_of_run (r ∷ []) ≡ transfers_in r
unfolding transfers_of_run
transfers_one r = append-nil (transfers_in r)
