-- Nodes that are linked into queues.
--
-- A chain is read by its links alone, so a change of the pool that leaves its nodes as they are leaves the chain. Which
-- nodes these are is told by their cells: the cells of a queue rise in their keys, so no cell is in it twice, and the
-- cells of other queues are for other outputs.
--
-- A node that is linked in behind another one goes into the chain behind it, for it leads on to where that one led.
use Rattle.cq_list.proofs.Terms.{common_steps, rules, ◌≡◌, ◌≢◌, ℕ, zero, suc, ◌∷◌, length, Some, refl, ap, arith, insert, slice_get, AllByRecursion, same_Some, slice_get-map, Queued, IsBefore, IsRising, key_laws, all_at, Node, Nodes, followed, chain, cells, all_weaker}

-- a chain that is whole begins with a node
pub begins : (nodes : Nodes) (n place : ℕ) → length (chain nodes (suc n) place) ≡ suc n →
    (node : Node) × (nodes place ≡ Some node)
begins nodes n place whole = search (arith, rules)

pub chain-at : (nodes : Nodes) (n place : ℕ) (node : Node) → nodes place ≡ Some node →
    chain nodes (suc n) place ≡ (place, node.queued) ∷ chain nodes n node.next
chain-at nodes n place node e = ap (λ o. followed place o (chain nodes n)) e

-- ## A chain whose nodes stay

pub chain_stays : (old new : Nodes) (P : Queued → Type 0) →
    ((i : ℕ) (node : Node) → old i ≡ Some node → P node.queued → new i ≡ Some node) → (n place : ℕ) → length
    (chain old n place) ≡ n → AllByRecursion P (cells (chain old n place)) → chain new n place ≡ chain old n place
chain_stays old new P stay zero place whole all = refl
chain_stays old new P stay (suc n) place whole all =
    grind (arith, common_steps, begins, chain-at, chain_stays old new P stay n)

-- ## A node more

-- a cell that another one comes before is not that one
pub differs : (a b : Queued) → IsBefore a b → a ≢ b
differs a b before same = search (rules, key_laws.never_itself)

-- a node put in behind another one: that one leads to it, and it leads on to where that one led
pub record IsBehind (old new : Nodes) (a k : ℕ) (ahead : Node) (c : Queued) : Type 0 where
  pub here : old a ≡ Some ahead
  pub changed : new a ≡ Some (record { queued = ahead.queued; next = k })
  pub added : new k ≡ Some (record { queued = c; next = ahead.next })
  pub others : (i : ℕ) (node : Node) → old i ≡ Some node → i ≢ a → new i ≡ Some node

module _ {old new : Nodes} {a k : ℕ} {ahead : Node} {c : Queued} (b : IsBehind old new a k ahead c) where
  -- a node with another cell is another node
  other_cell : (i : ℕ) (node : Node) → old i ≡ Some node → node.queued ≢ ahead.queued → new i ≡ Some node
  other_cell i node there ne = grind (arith, common_steps, b.here, b.others, same_Some)

  pub chain_behind : (n first p : ℕ) → length (chain old n first) ≡ n → IsRising (cells (chain old n first)) →
      slice_get (chain old n first) p ≡ Some (a, ahead.queued) → chain new (suc n) first ≡ insert (chain old n first)
      (suc p) (k, c)
  chain_behind zero first p whole rising at = cc
  chain_behind (suc n) first zero whole rising at =
      let stays = chain_stays old new (λ x. x ≢ ahead.queued) other_cell n ahead.next in
      search (arith, rules, chain-at, same_Some, stays, all_weaker, differs)
  chain_behind (suc n) first (suc p) whole rising at =
      let node : Node = (begins old n first whole).0 in
      let later = all_at (IsBefore node.queued) (cells (chain old n node.next)) p ahead.queued in
      search (arith, rules, other_cell, differs, slice_get-map, later, chain-at, chain_behind n node.next p)
