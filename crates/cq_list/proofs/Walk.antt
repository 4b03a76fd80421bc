-- A walk along a queue, node by node. Where it has come the rest of the chain begins at the place that it looks at,
-- none of the cells behind it is less urgent, and it knows the place of the last of them.
use Rattle.cq_list.proofs.Terms.{common_steps, rules, ◌≡◌, ℕ, zero, suc, ◌+◌, ◌-◌, ◌<◌, ◌≤◌, length, Bool, true, false, List, ◌∷◌, drop, Some, sym, ap, ◌∙◌, arith, length-drop, slice_get, slice_get-get_or, position_or_len, drop-drop, drop_more, length-map, slice_get-map, Queued, first_inside, Node, Queue, Nodes, chain, linked, cells, EndsAt, IsChained, first_le, places, same_Some, and_assoc}
use Rattle.cq_list.proofs.Chain.{chain-at, begins}
use Rattle.cq_list.proofs.Finger.{ends_inside}
use Rattle.cq_list.proofs.Put.{past_this}

shown_at : {X : Type 0} (xs : List X) (i : ℕ) (x : X) (ys : List X) → drop i xs ≡ x ∷ ys → slice_get xs i ≡ Some x
shown_at xs i x ys e = grind (arith, common_steps, drop_more xs i x, slice_get-get_or xs i x)

-- it has come past so many nodes and looks at this place
abbrev pub HasReached : Nodes → Queue → ℕ → ℕ → Type 0
HasReached nodes queue count place = drop count (linked nodes queue) ≡ chain nodes (queue.len - count) place

pub reached_first : (nodes : Nodes) (queue : Queue) → HasReached nodes queue 0 queue.first
reached_first nodes queue = let all : queue.len ≡ queue.len - 0 = omega arith in ap (λ n. chain nodes n queue.first) all

module _ {nodes : Nodes} {queue : Queue} {count place : ℕ} (had : IsChained nodes queue)
    (reached : HasReached nodes queue count place) (inside : count < queue.len) where
  pub node_there : (node : Node) × (nodes place ≡ Some node)
  node_there =
      let left : queue.len - count ≡ suc (queue.len - (count + 1)) = omega arith in
      let long = length-drop count (linked nodes queue) in search (arith, rules, begins, left)

  module _ {node : Node} (here : nodes place ≡ Some node) where
    rest_is : drop count (linked nodes queue) ≡ (place, node.queued) ∷ chain nodes (queue.len - (count + 1)) node.next
    rest_is =
        search (arith, rules, chain-at, λ (l : queue.len - count ≡ suc (queue.len - (count + 1))). l)

    pub reached_next : HasReached nodes queue (count + 1) node.next
    reached_next = sym (drop-drop 1 count (linked nodes queue)) ∙ ap (drop 1) rest_is

    pub node_shown : slice_get (linked nodes queue) count ≡ Some (place, node.queued)
    node_shown = shown_at (linked nodes queue) count _ _ rest_is

    pub cell_shown : slice_get (cells (linked nodes queue)) count ≡ Some node.queued
    cell_shown = grind (arith, common_steps, slice_get-map, node_shown)

-- ## A search for the first cell that passes a test

-- and none of the cells behind it passes
pub record HasPassed (nodes : Nodes) (queue : Queue) (p : Queued → Bool) (count place : ℕ) : Type 0 where
  pub reached : HasReached nodes queue count place
  pub behind : count ≤ position_or_len p (cells (linked nodes queue))

-- it looks at a node of the queue
module _ {nodes : Nodes} {queue : Queue} {p : Queued → Bool} {count place : ℕ} {node : Node}
    (chained : IsChained nodes queue) (passed : HasPassed nodes queue p count place) (inside : count < queue.len)
    (here : nodes place ≡ Some node) where
  shown : slice_get (cells (linked nodes queue)) count ≡ Some node.queued
  shown = cell_shown chained passed.reached inside here

  pub search_ends : p node.queued ≡ true → count ≡ position_or_len p (cells (linked nodes queue))
  search_ends passes = search (arith, rules, first_le, shown)

  pub search_on : p node.queued ≡ false → HasPassed nodes queue p (count + 1) node.next
  search_on fails = search (arith, rules, reached_next, past_this, shown)

pub searched_all : {nodes : Nodes} {queue : Queue} {count : ℕ} (p : Queued → Bool) → IsChained nodes queue →
    count ≤ position_or_len p (cells (linked nodes queue)) → queue.len ≤ count →
    queue.len ≡ position_or_len p (cells (linked nodes queue))
searched_all {nodes} {queue} p had behind past = grind (arith, common_steps, first_inside, length-map)

-- ## Where a walk begins

module _ {nodes : Nodes} {queue : Queue} (had : IsChained nodes queue) where
  pub all_placed : length (places (linked nodes queue)) ≡ queue.len
  all_placed = length-map (linked nodes queue) (λ (e : ℕ × Queued). e.0) ∙ had.whole

  pub within : {count place : ℕ} → EndsAt (places (linked nodes queue)) count place → count ≤ queue.len
  within ends = let long = ends_inside (places (linked nodes queue)) ends in let all = all_placed in omega arith

  reached_at : (count : ℕ) → count ≤ queue.len → (place : ℕ) × HasReached nodes queue count place
  reached_at zero le = (queue.first, reached_first nodes queue)
  reached_at (suc n) le =
      let before = reached_at n (omega arith) in
      let there = node_there had before.1 (omega arith) in
      let next = reached_next had before.1 (omega arith) there.1 in search (arith, rules, next)

  module _ {count place : ℕ} (ends : EndsAt (places (linked nodes queue)) count place) (some : 0 < count) where
    inside : count - 1 < queue.len
    inside = let all = within ends in omega arith

    last_reached : HasReached nodes queue (count - 1) place
    last_reached =
        let found = reached_at (count - 1) (let lt = inside in omega arith) in
        let shown = node_shown had found.1 inside (node_there had found.1 inside).1 in
        search (arith, rules, slice_get-map, shown, ends (count - 1), same_Some)

    pub finger_there : (node : Node) × (nodes place ≡ Some node)
    finger_there = node_there had last_reached inside

    module _ {node : Node} (here : nodes place ≡ Some node) where
      pub node_ahead : slice_get (linked nodes queue) (count - 1) ≡ Some (place, node.queued)
      node_ahead = node_shown had last_reached inside here

      pub cell_ahead : slice_get (cells (linked nodes queue)) (count - 1) ≡ Some node.queued
      cell_ahead = cell_shown had last_reached inside here

      pub next_reached : HasReached nodes queue count node.next
      next_reached = grind (arith, common_steps, reached_next, last_reached, inside)

-- from node to node
pub ruleset walk_steps = (node_there, reached_next, cell_shown)

-- a search from the first node on
pub ruleset search_steps = (node_there, reached_first, search_ends, search_on, searched_all, and_assoc)
