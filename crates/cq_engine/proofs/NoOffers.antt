-- Where nothing is offered the empty matching is the best for the inputs, and no proposal is made: no offered pair is
-- left out, and no input has an order to go down. It moves no cell, and nothing is noted of it.
use Rattle.cq_engine.proofs.Terms.{rules, ◌≡◌, ℕ, List, [], ◌∷◌, replicate, Option, None, refl, arith, common_steps, filter_map, sum_by, append-nil, length-replicate, sum-map, Queued, Transfer, RoomView, Queues, orders_of, Moves, transfers_of, Orders, ports, outputs_of, proposals, IsInputBest}
use Rattle.cq_prefs.proofs.Pairs.{nobody}
use Rattle.cq_engine.specs.Crossing.{HasCrossed}
use Rattle.std.proofs.lemmas.List.Sums.{sum_by-le}

zeros : (f : ℕ → ℕ) (xs : List ℕ) → ((k : ℕ) → f k ≡ 0) → sum_by f xs ≡ 0
zeros f xs none = grind (arith, common_steps, sum_by-le f 0 xs, none)

module _ (o : Orders) (none : (i : ℕ) → outputs_of o i ≡ []) where
  pub none_best : IsInputBest o (replicate (ports o) None)
  none_best = search (arith, rules, length-replicate, nobody)

  pub none_proposed : 0 ≡ proposals o (replicate (ports o) None)
  none_proposed = grind (arith, common_steps, sum-map, zeros, nobody)

-- ## Nothing moves

pub nothing_moves : (n : ℕ) (lists buffers : List (List Queued)) →
    Moves (replicate n None) lists buffers lists buffers
nothing_moves n lists buffers = grind (arith, common_steps, nobody)

none_kept : (f : ℕ → Option Transfer) (xs : List ℕ) → ((k : ℕ) → f k ≡ None) → filter_map f xs ≡ []
none_kept f [] none = refl
none_kept f (x ∷ xs) none = grind (arith, common_steps, none_kept f xs none)

pub nothing_noted : (n : ℕ) (lists : List (List Queued)) (slot phase : ℕ) →
    transfers_of (replicate n None) lists slot phase ≡ []
unfolding transfers_of
nothing_noted n lists slot phase = grind (arith, common_steps, none_kept, nobody)

-- so nothing crosses
pub nothing_crosses : (slot phase : ℕ) (q : Queues) (note : RoomView Transfer) →
    ((i : ℕ) → outputs_of (orders_of q.inputs) i ≡ []) → HasCrossed slot phase q q note note 0
nothing_crosses slot phase q note none =
    let proposed = none_proposed (orders_of q.inputs) none in
    search (arith, rules, nothing_noted, none_best (orders_of q.inputs), proposed, nothing_moves, append-nil)
