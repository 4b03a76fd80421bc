-- Where no cell waits and none comes, nothing is offered: the matching of nobody is the only one, nothing moves, and
-- no figure changes. Only the rank machines are told that their outputs were idle.
use Rattle.cq_laws.proofs.Terms.{common_steps, rules, ◌≡◌, ℕ, zero, suc, ◌+◌, false, List, [], ◌∷◌, length, map, Option, None, refl, arith, All, is_some, filter_map, replicate, enumerate_from, length-map, length-replicate, ext_get_or, sum_by-replicate, Queued, Figures, no_arrivals, Machine, Fabric, empty_fabric, IsEmptyFabric, Transfers, FabricSlot, FabricRun, departures_in, departures_of, idle_at, length-idle, nobody_sends, none_at, nothing_left, ranked_none, all_empty, ports, proposals, orders_of, transfers_of, transfers_in, transfers_of_run, slacks, proposals_in, input_after, output_after, figures_after, most_ports, IsInputBest, no_departures}
use Rattle.std.proofs.lemmas.List.Elements.{All-replicate}
use Rattle.std.proofs.lemmas.List.Folds.{list_any_none}
use Rattle.cq_laws.specs.Quiet.{idled, quiet_slot, quiet_slots, idled_for, AddNothing, KeepLaws}
use Rattle.cq_laws.proofs.AddingUp.{map-constant}
use Rattle.cq_laws.proofs.OneRun.{outputs_at}
use Rattle.cq_laws.proofs.WholeRuns.{empty_list}

-- ## Nothing is offered

pub none_proposed : (n : ℕ) → proposals (orders_of (replicate n [])) (replicate n None) ≡ 0
none_proposed n =
    let zeros = sum_by-replicate (λ (x : ℕ). x) (ports (orders_of (replicate n []))) 0 in
    search (arith, rules, map-constant, none_at, outputs_at, empty_list)

pub nobody_best : (n : ℕ) → IsInputBest (orders_of (replicate n [])) (replicate n None)
nobody_best n = search (arith, rules, none_at, outputs_at, empty_list, length-replicate, length-map)

pub nothing_moves : (n : ℕ) (f : Fabric) → Transfers (replicate n None) f f
nothing_moves n f = grind (arith, common_steps, none_at)

-- ## The slot, and slots on end

pub quiet : (ms : List Machine) (slot n : ℕ) (ranks : List (List ℕ)) →
    FabricSlot IsInputBest ms slot no_arrivals (empty_fabric n ranks) (quiet_slot ms slot n ranks)
    (empty_fabric n (idled ms n ranks))
unfolding quiet_slot idled
quiet ms slot n ranks =
    let left = nothing_left n in
    search (arith, rules, nobody_best, nothing_moves, ranked_none, none_at, nobody_sends)

pub quiet_run : (ms : List Machine) (count slot n : ℕ) (ranks : List (List ℕ)) →
    FabricRun IsInputBest ms slot (replicate count no_arrivals) (empty_fabric n ranks)
    (quiet_slots ms count slot n ranks) (empty_fabric n (idled_for ms count n ranks))
quiet_run ms zero slot n ranks = refl
quiet_run ms (suc count) slot n ranks = search (rules, quiet, quiet_run ms count (slot + 1) n (idled ms n ranks))

-- ## Nothing crosses, and no figure changes

filter_map-none : {X Y : Type 0} (h : X → Option Y) → ((x : X) → h x ≡ None) → (xs : List X) → filter_map h xs ≡ []
filter_map-none h none [] = refl
filter_map-none h none (x ∷ xs) = grind (arith, none x, filter_map-none h none xs)

pub quiet_transfers : (ms : List Machine) (slot n : ℕ) (ranks : List (List ℕ)) →
    transfers_in (quiet_slot ms slot n ranks) ≡ []
unfolding transfers_in quiet_slot transfers_of
quiet_transfers ms slot n ranks = grind (arith, common_steps, filter_map-none, none_at)

same_by_place : {X : Type 0} (g : ℕ → X → X) → ((i : ℕ) (x : X) → g i x ≡ x) → (n : ℕ) (xs : List X) →
    map (λ (at : ℕ × X). g at.0 at.1) (enumerate_from n xs) ≡ xs
same_by_place g same n [] = refl
same_by_place g same n (x ∷ xs) = λ k. same n x k ∷ same_by_place g same (n + 1) xs k

pub quiet_figures : (ms : List Machine) (slot n : ℕ) (ranks : List (List ℕ)) (x : Figures) →
    figures_after x (quiet_slot ms slot n ranks) ≡ x
unfolding figures_after quiet_slot proposals_in input_after output_after slacks
quiet_figures ms slot n ranks x =
    let r = quiet_slot ms slot n ranks in
    let none = list_any_none is_some _ (All-replicate (λ (o : Option Queued). is_some o ≡ false) n None refl) in
    let inputs = same_by_place (input_after r)
    (λ i x. grind (arith, common_steps, empty_list n i, none_at {X = Queued} most_ports i)) 0 x.inputs in
    let outputs = same_by_place (output_after r) (λ j x. grind (arith, common_steps, none_at)) 0 x.outputs in
    grind (arith, common_steps, none, none_proposed n, inputs, outputs)

-- ## A fabric in which no cell waits

all_none : (lists : List (List Queued)) → All (λ cells. cells ≡ []) lists → lists ≡ replicate (length lists) []
all_none lists empty = search (rules, all_empty (record { lists = lists; ranks = [] }) (length lists) empty)

pub empty_is : (f : Fabric) → IsEmptyFabric f → length f.buffers ≡ length f.inputs →
    f ≡ empty_fabric (length f.inputs) f.ranks
empty_is f empty square = grind (arith, common_steps, all_none)

-- ## Many such slots

module _ (ms : List Machine) (n : ℕ) where
  pub adds_nothing : (count slot : ℕ) (ranks : List (List ℕ)) → AddNothing slot (quiet_slots ms count slot n ranks)
  unfolding departures_of departures_in transfers_of_run quiet_slot
  adds_nothing zero slot ranks = search rules
  adds_nothing (suc count) slot ranks = grind
      (arith, common_steps, quiet_transfers ms slot n, quiet_figures ms slot n, no_departures, adds_nothing count)

-- ## Machines that keep the laws are not changed by a second idle slot: many quiet slots are one

module _ (ms : List Machine) (n : ℕ) where
  still_keep : (ranks : List (List ℕ)) → KeepLaws ms ranks → KeepLaws ms (idled ms n ranks)
  still_keep ranks keep = grind (arith, common_steps, length-idle, keep.laws, idle_at, keep.sized)

  idled_twice : (ranks : List (List ℕ)) → KeepLaws ms ranks → idled ms n (idled ms n ranks) ≡ idled ms n ranks
  idled_twice ranks keep =
      search (arith, rules, ext_get_or [] (idled ms n (idled ms n ranks)), length-idle, idle_at, keep.laws, keep.sized)

  pub idled_once : (count : ℕ) (ranks : List (List ℕ)) → KeepLaws ms ranks →
      idled_for ms (count + 1) n ranks ≡ idled ms n ranks
  idled_once zero ranks keep = refl
  idled_once (suc count) ranks keep = search (rules, idled_twice, idled_once count (idled ms n ranks), still_keep)
