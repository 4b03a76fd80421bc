-- A run of the ideal switch in parts: what arrives in some slots and in those behind them, and what is sent in
-- these. And when it is over: no cell is to come, and none waits.
use Rattle.cq_ideal.proofs.Terms.{rules, ◌≡◌, ℕ, zero, suc, ◌+◌, ◌≤◌, List, [], ◌∷◌, ◌++◌, length, replicate, Option, Result, Ok, Err, refl, ap, arith, append_assoc, common_steps, length-map-range_with_len, Arrival, arriving, end_of, no_arrivals, Cell, Queued, TagFault, Machine, arriving_from, Ran, departures_of, ideal_run, then_ran, Sent, true, All, and_parts, eqb-true, leb-true, nil_from_length, enough, traffic_of, first_slots, is_over, IsEmptyIdeal, LimitedRan, unlimited}
use Rattle.cq_ideal.proofs.FlowCount.{none_arrive}
pub use Rattle.cq_ideal.proofs.FlowRun.{FirstSlot, first_slot}
use Rattle.cq_ideal.proofs.Waiting.{waiting}

-- ## Nothing waits

pub none_waits : (lists : List (List Queued)) → All (λ cells. cells ≡ []) lists → waiting lists ≡ 0
unfolding waiting
none_waits [] all = refl
none_waits (xs ∷ lists) all = grind (arith, common_steps, all zero xs, none_waits lists, λ (k : ℕ). all (suc k))

pub nothing_left : (lists : List (List Queued)) → waiting lists ≡ 0 → All (λ cells. cells ≡ []) lists
unfolding waiting
nothing_left [] none k d inside = absurd (omega arith)
nothing_left (xs ∷ lists) none k d inside = grind (arith, common_steps, nil_from_length, nothing_left lists)

-- ## The test

-- what the test says of a run
pub over_from_test : (came : List Arrival) (n : ℕ) (ran : LimitedRan) → is_over came n (unlimited (Ok ran)) ≡ true →
    (end_of came ≤ n) × IsEmptyIdeal ran.after.state
over_from_test came n ran e = grind (arith, common_steps, and_parts, leb-true, nil_from_length, eqb-true)

-- ## As many slots as are enough

pub all_slots : (came : List Arrival) → first_slots came (enough came) ≡ traffic_of came
unfolding arriving_from traffic_of
all_slots came = refl

-- ## What arrives

pub arriving_here : (came : List Arrival) (slot n : ℕ) →
    arriving_from came slot (suc n) ≡ arriving came slot ∷ arriving_from came (slot + 1) n
unfolding arriving_from
arriving_here came slot n = refl

pub arriving_length : (came : List Arrival) (slot n : ℕ) → length (arriving_from came slot n) ≡ n
unfolding arriving_from
arriving_length came slot n = length-map-range_with_len (arriving came) slot n

-- what arrives in some slots and in those behind them
pub arriving_parts : (came : List Arrival) (a b n m k : ℕ) → b ≡ a + n → k ≡ n + m →
    arriving_from came a n ++ arriving_from came b m ≡ arriving_from came a k
unfolding arriving_from
arriving_parts came a b zero m k e f = grind (arith, common_steps)
arriving_parts came a b (suc n) m k e f =
    let long : k ≡ suc (n + m) = omega arith in rw long (cc ((arriving_parts came (a + 1) b n m _ (omega arith) refl)))

-- from the end of the arrivals on none comes
pub quiet_from : (came : List Arrival) (n slot : ℕ) → end_of came ≤ slot →
    arriving_from came slot n ≡ replicate n no_arrivals
unfolding arriving_from
quiet_from came zero slot le = refl
quiet_from came (suc n) slot le = grind (arith, common_steps, none_arrive, quiet_from came n (slot + 1))

-- a slot, and then the run from it on
abbrev pub next_slot : List Machine → ℕ → List (List (Option Cell)) → Result Sent TagFault → Result Ran TagFault
next_slot ms slot traffic x =
    elim x [ Ok sent ↦ then_ran sent.gone (ideal_run ms slot traffic sent.after) | Err fault ↦ Err fault ]

-- ## What is sent

pub departures_append : (slot b : ℕ) (xs ys : List (List (Option Queued))) → b ≡ slot + length xs →
    departures_of slot (xs ++ ys) ≡ departures_of slot xs ++ departures_of b ys
unfolding departures_of
departures_append slot b [] ys e = let here : slot ≡ b = omega arith in ap (λ (n : ℕ). departures_of n ys) here
departures_append slot b (x ∷ xs) ys e = search (rules, append_assoc, departures_append (slot + 1) b xs ys)
