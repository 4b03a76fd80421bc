-- Slots in which nothing waits and nothing comes. Such a slot sends nothing, and only tells each machine that its
-- output was idle. A machine that keeps the laws is not changed by a second idle slot, so that many such slots do
-- what one does.
use Rattle.cq_ideal.proofs.Terms.{cases_lt, rules, ◌≡◌, ℕ, zero, suc, ◌+◌, ◌-◌, ◌<◌, ◌≤◌, List, [], length, map, get_or, set, drop, slice_get, replicate, Option, None, Ok, refl, sym, ap, arith, common_steps, ext_get_or, get_or-map, length-replicate, no_arrivals, Queued, KeepsLaws, Machine, first_come, machine_at, told, IdealSwitch, IsEmptyIdeal, empty_ideal, ideal_run, nothing_sent, IdealState, fronts, ideal_slot, rests, FitTogether, QueuesView, RanksView, idled, state_of, after_input, ranking, most_ports}
use Rattle.cq_ideal.proofs.Parted.{next_slot}
use Rattle.cq_ideal.proofs.Changed.{map-replicate, same_at, at_end, at_place, changed_to, next_place}
use Rattle.cq_ideal.proofs.Sending.{length-told, told_at}
use Rattle.cq_ideal.proofs.Came.{nobody_left}

-- ## Nobody, nothing

pub none_at : {X : Type 0} (n i : ℕ) → ◌≡◌ {A = Option X} (get_or (replicate n None) i None) None
none_at n i = same_at None n i

pub nobody_sends : (n : ℕ) → replicate n None ≡ fronts (replicate n [])
nobody_sends n = sym (map-replicate (λ (xs : List Queued). slice_get xs 0) n [])

pub nothing_left : (n : ℕ) → replicate n [] ≡ rests (replicate n [])
nothing_left n = sym (map-replicate (λ (xs : List Queued). drop 1 xs) n [])

pub ranked_none : (ms : List Machine) (slot i n : ℕ) (ranks : List (List ℕ)) →
    ranking ms slot i (replicate n None) ranks ≡ Ok (record { came = replicate n None; ranks = ranks })
ranked_none ms slot i zero ranks = refl
ranked_none ms slot i (suc n) ranks = ap (after_input None) (ranked_none ms slot (i + 1) n ranks)

-- a state in which no cell waits
pub all_empty : (s : IdealState) (n : ℕ) → IsEmptyIdeal s → length s.lists ≡ n → s ≡ empty_ideal n s.ranks
all_empty s n empty long =
    let none = [] in
    search (arith, rules, ext_get_or none s.lists (replicate n none), length-replicate n none, same_at none n)

-- ## The slots

module _ (ms : List Machine) (n : ℕ) where
  quiet_slot : (slot : ℕ) (ranks : List (List ℕ)) →
      ideal_slot ms slot no_arrivals (empty_ideal n ranks)
      ≡ Ok (record { gone = replicate n None; after = empty_ideal n (idled ms n ranks) })
  unfolding ideal_slot idled
  quiet_slot slot ranks =
      let none = nobody_left (replicate most_ports None) (replicate n []) (λ k q at. cc (none_at most_ports k, at)) in
      cc (ranked_none ms slot 0 most_ports ranks, none, nobody_sends n, nothing_left n)

  -- So many slots end in some rank states: in those of one slot, where a second one changes nothing, and in those
  -- before, where there is no slot.
  pub idle_run : (count slot : ℕ) (ranks : List (List ℕ)) → (rested : List (List ℕ))
      × (ideal_run ms slot (replicate count no_arrivals) (empty_ideal n ranks)
      ≡ Ok (nothing_sent count n (empty_ideal n rested)))
      × ((r : List (List ℕ)) → idled ms n r ≡ r → (0 < count → r ≡ idled ms n ranks) → (count ≡ 0 → r ≡ ranks) →
      rested ≡ r)
  unfolding ideal_run
  idle_run zero slot ranks = (ranks, refl, λ r again some none. sym (none refl))
  idle_run (suc count) slot ranks =
      search (arith, rules, next_slot, quiet_slot, idle_run count (slot + 1) (idled ms n ranks), cases_lt 0 count)

-- ## The machines

pub length-idle : (ms : List Machine) (n : ℕ) (ranks : List (List ℕ)) → length (idled ms n ranks) ≡ length ranks
unfolding idled
length-idle ms n ranks = length-told ms (replicate n None) ranks

pub idle_at : (ms : List Machine) (n : ℕ) (ranks : List (List ℕ)) (j : ℕ) → j < length ranks →
    get_or (idled ms n ranks) j [] ≡ (machine_at ms j).idle (get_or ranks j [])
unfolding idled
idle_at ms n ranks j inside = cc (told_at ms (replicate n None) ranks j inside, none_at n j)

-- the machines of the outputs before this one have been told, and their states had their sizes
pub record Resting (M : List ℕ → Machine) (first_fixed first_states : List (List ℕ)) (output : ℕ)
    (fixed states : List (List ℕ)) : Type 0 where
  pub same : fixed ≡ first_fixed
  pub told_so_far : states
      ≡ changed_to (idled (map M first_fixed) (length first_fixed) first_states) first_states output
  pub sized : (j : ℕ) → j < output → length (get_or first_states j []) ≡ (machine_at (map M first_fixed) j).size

module _ {M : List ℕ → Machine} {first_fixed first_states : List (List ℕ)} {output : ℕ} {fixed states : List (List ℕ)}
    (so_far : Resting M first_fixed first_states output fixed states)
    (long : length first_states ≡ length first_fixed) where
  pub resting_next : (next_fixed next_states : List (List ℕ)) → output < length first_fixed → next_fixed ≡ fixed →
      next_states ≡ set states output (told (machine_at (map M fixed) output) (get_or states output []) None) →
      length (get_or states output []) ≡ (machine_at (map M fixed) output).size →
      Resting M first_fixed first_states (output + 1) next_fixed next_states
  resting_next next_fixed next_states inside kept now sized =
      let ms = map M first_fixed in
      search (arith, rules, length-idle, at_place, idle_at ms (length first_fixed) first_states output, next_place)

  pub resting_last : length first_fixed ≤ output →
      states ≡ idled (map M first_fixed) (length first_fixed) first_states
  resting_last end = grind (arith, common_steps, at_end, length-idle)

  -- a second idle slot changes nothing
  pub resting_again : length first_fixed ≤ output → ((numbers : List ℕ) → KeepsLaws (M numbers)) →
      idled (map M first_fixed) (length first_fixed) states ≡ states
  resting_again end laws =
      let ms = map M first_fixed in
      let is = resting_last end in
      ext_get_or [] _ states (length-idle ms _ states) (λ j within.
      search (arith, rules, length-idle, get_or-map M first_fixed j [] (first_come []), idle_at ms))

-- ## The switch

-- what a switch of these parts does from its next slot on up to another, where no cell waits
pub rested : (M : List ℕ → Machine) (ranks new : RanksView) (queues : QueuesView) (switch : IdealSwitch) (to : ℕ) →
    ranks.fixed ≡ switch.fixed → state_of ranks queues ≡ switch.state → FitTogether (map M ranks.fixed) ranks queues →
    IsEmptyIdeal switch.state → switch.next < to →
    new.states ≡ idled (map M ranks.fixed) (length ranks.fixed) ranks.states →
    idled (map M ranks.fixed) (length ranks.fixed) new.states ≡ new.states →
    ideal_run (map M switch.fixed) switch.next (replicate (to - switch.next) no_arrivals) switch.state
    ≡ Ok (nothing_sent (to - switch.next) (length switch.fixed) (state_of new queues))
rested M ranks new queues switch to fixed state fit empty later states again =
    let slots = to - switch.next in
    let idle = idle_run (map M switch.fixed) (length switch.fixed) slots switch.next switch.state.ranks in
    let is = idle.2 new.states in grind (arith, common_steps, all_empty switch.state (length switch.fixed))
