-- A queue of nodes that are linked, with one node more or less: it is linked again, and its cells are those of the
-- queue with the cell put in, or without its head. The other queues keep their nodes, for these have cells for other
-- outputs.
use Rattle.cq_list.proofs.Terms.{slice_get-get_or, get_or-insert_at, common_steps, rules, ◌≡◌, ◌≢◌, ℕ, suc, ◌+◌, ◌<◌, ◌≤◌, eqb, cond, List, ◌∷◌, length, None, Some, sym, ap, ◌∙◌, subst, arith, insert, slice_get, position_or_len, length-insert, length-map, same_Some, none-some, ◌-◌, Queued, Slab, get, Updates, IsRising, HasOtherKey, put, first_inside, all_at, Node, Queue, Nodes, chain, linked, places, cells, EndsAt, IsLinked, OthersStay, behind_first, all_weaker, all_put, rising_put, map-insert}
use Rattle.cq_list.proofs.Chain.{chain_stays, chain-at, differs, IsBehind, chain_behind}
use Rattle.cq_list.proofs.Finger.{insert_end_kept}
use Rattle.cq_list.proofs.Walk.{node_ahead, cell_ahead}
use Rattle.cq_list.proofs.Put.{put_is, is_later}

pub is_linked_along : (old new : Nodes) (i : ℕ) (queue : Queue) → linked new queue ≡ linked old queue →
    IsLinked old i queue → IsLinked new i queue
is_linked_along old new i queue same had = grind (arith, common_steps)

-- ## A node more

-- ahead of all
pub chain_first : (old new : Nodes) (j : ℕ) (queue : Queue) (k : ℕ) (c : Queued) → IsLinked old j queue →
    new k ≡ Some (record { queued = c; next = queue.first }) →
    ((i : ℕ) (node : Node) → old i ≡ Some node → new i ≡ Some node) → chain new
    (queue.len + 1) k ≡ (k, c) ∷ linked old queue
chain_first old new j queue k c had added others =
    let same : linked new queue ≡ linked old queue = search (arith, rules, chain_stays, others) in
    search (arith, rules, chain-at, same)

-- behind one: a place that was vacant was no node's, so the nodes that were there stand at other places
pub still_there : (old new : Slab Node) (k : ℕ) (node : Node) → get old k ≡ None → Updates old new k (Some node) →
    (i : ℕ) (m : Node) → get old i ≡ Some m → get new i ≡ Some m
still_there old new k node vacant more i m there = grind (arith, common_steps, more.others, none-some)

pub is_behind : {old mid new : Slab Node} {a k : ℕ} {ahead read : Node} {c : Queued} → get old k ≡ None →
    get old a ≡ Some ahead → Updates old mid k (Some (record { queued = c; next = ahead.next })) →
    get mid a ≡ Some read → Updates mid new a (Some (record { queued = read.queued; next = k })) →
    IsBehind (get old) (get new) a k ahead c
is_behind vacant here more again led = search (rules, same_Some, still_there, led.others, none-some)

module _ {old : Nodes} {j : ℕ} {queue : Queue} (had : IsLinked old j queue) (count : ℕ) {a : ℕ}
    (ends : EndsAt (places (linked old queue)) count a) (some : 0 < count) where
  module _ {new : Nodes} {k : ℕ} {ahead : Node} {c : Queued} (b : IsBehind old new a k ahead c) where
    pub chain_more : chain new (queue.len + 1) queue.first ≡ insert (linked old queue) count (k, c)
    chain_more = search (arith, rules, node_ahead had.chained ends, chain_behind b)

    pub others_stay : OthersStay j old new
    others_stay i node there ne =
        search (rules, b.others, same_Some, all_at, cell_ahead had.chained ends some b.here)

insert_end_shown : {X : Type 0} (xs : List X) (n : ℕ) (y : X) → length xs ≡ n → slice_get (insert xs n y) n ≡ Some y
insert_end_shown xs n y len =
    grind (arith, common_steps, slice_get-get_or (insert xs n y) n y, get_or-insert_at, length-insert)

pub placed : (chained more : List (ℕ × Queued)) (n k : ℕ) (c : Queued) → more ≡ insert chained n (k, c) →
    places more ≡ insert (places chained) n k
placed chained more n k c e = ap places e ∙ map-insert (λ (x : ℕ × Queued). x.0) chained n (k, c)

module _ (old new : Nodes) (j : ℕ) (queue more : Queue) (count k : ℕ) (c : Queued) (had : IsLinked old j queue)
    (own : c.cell.output ≡ j) (other : HasOtherKey c (cells (linked old queue)))
    (place : count ≡ position_or_len (is_later c.key) (cells (linked old queue)))
    (chained : linked new more ≡ insert (linked old queue) count (k, c)) (len : more.len ≡ queue.len + 1)
    (last : more.last ≡ cond (eqb count queue.len) k queue.last) where
  count_inside : count ≤ queue.len
  count_inside = grind (arith, common_steps, first_inside, is_later, length-map)

  pub cells_more : cells (linked new more) ≡ put c (cells (linked old queue))
  cells_more = grind (arith, common_steps, map-insert, put_is)

  ends_more : EndsAt (places (linked new more)) more.len more.last
  ends_more m is = search (rules, length-map, count_inside, map-insert, insert_end_shown, insert_end_kept)

  pub linked_more : IsLinked new j more
  linked_more = grind (arith, common_steps, length-insert, count_inside, cells_more, rising_put, ends_more, all_put)

  pub are_more : IsLinked new j more × (cells (linked new more) ≡ put c (cells (linked old queue)))
  are_more = (linked_more, cells_more)

-- ## The head

module _ {nodes : Nodes} {j : ℕ} {queue : Queue} {node : Node} (had : IsLinked nodes j queue) (some : 0 < queue.len)
    (here : nodes queue.first ≡ Some node) where
  begins_with : linked nodes queue ≡ (queue.first, node.queued) ∷ linked nodes (behind_first queue node.next)
  begins_with = grind (arith, common_steps, chain-at)

  pub cells_behind : cells (linked nodes queue) ≡ node.queued ∷ cells (linked nodes (behind_first queue node.next))
  cells_behind = ap cells begins_with

  pub linked_behind : IsLinked nodes j (behind_first queue node.next)
  linked_behind =
      let last = rw begins_with at had.chained.last in
      grind (arith, common_steps, begins_with, cells_behind, λ (m : ℕ). last (suc m))

-- taken out
module _ {old new : Slab Node} {j : ℕ} {queue : Queue} {node : Node} (had : IsLinked (get old) j queue)
    (some : 0 < queue.len) (here : get old queue.first ≡ Some node) (less : Updates old new queue.first None) where
  pub rest_stay : OthersStay j (get old) (get new)
  rest_stay i m there ne = search (rules, cells_behind, less.others, same_Some)

  rest_stays : linked (get new) (behind_first queue node.next) ≡ linked (get old) (behind_first queue node.next)
  rest_stays =
      let rising = subst IsRising (cells_behind had some here) had.chained.rising in
      chain_stays (get old) (get new) (λ x. x ≢ node.queued) (search (arith, rules, less.others, same_Some))
      (queue.len - 1) node.next (linked_behind had some here).chained.whole (search (arith, rules, all_weaker, differs))

  pub links_less : linked (get old) queue
      ≡ (queue.first, node.queued) ∷ linked (get new) (behind_first queue node.next)
  links_less = begins_with had some here ∙ ap (λ l. (queue.first, node.queued) ∷ l) (sym rest_stays)

  pub linked_less : IsLinked (get new) j (behind_first queue node.next)
  linked_less = search (rules, is_linked_along, rest_stays, linked_behind)
