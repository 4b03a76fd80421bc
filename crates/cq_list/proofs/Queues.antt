-- A pool in which one queue changes: each queue is linked as before, and the cells of the others are the same.
use Rattle.cq_list.proofs.Terms.{common_steps, rules, ◌≡◌, ◌≢◌, ℕ, zero, suc, ◌+◌, ◌<◌, ◌≤◌, List, [], ◌∷◌, replicate, length, get_or, set, drop, None, refl, set-get_or, slice_get_cases, ap, arith, length-set, get_or-set_same, get_or-set_other, Bool, position_or_len, cases_lt, cases_eq, length-map, get_or-map, get_or_past, get_or_read, ext_get_or, length-replicate, sum_by-replicate, sum_by-set, slice_get, Slab, get, slab_len, Node, Queued, Queue, PoolView, Nodes, linked, places, cells, IsLinked, OthersStay, AreLinked, IsPool, Ahead, AreFingers, HaveFingers, behind_first, IsHead, no_queue, queue_at, cells_in_queues, queue_of}
use Rattle.cq_list.proofs.Linked.{is_linked_along, cells_behind, linked_behind}
use Rattle.cq_list.proofs.Chain.{chain_stays}

-- what is seen of a queue, also beyond the last
pub queue_seen : (nodes : Nodes) (queues : List Queue) (j : ℕ) →
    queue_of (cells_in_queues nodes queues) j ≡ cells (linked nodes (queue_at queues j))
queue_seen nodes queues j = grind (arith, common_steps, get_or-map, get_or_past, length-map, cases_lt)

-- where no cell waits
pub no_cells : (nodes : Nodes) (queues : List Queue) (n : ℕ) → queues ≡ replicate n no_queue →
    cells_in_queues nodes queues ≡ replicate n []
no_cells nodes queues zero e = rw e refl
no_cells nodes queues (suc n) e = rw e (ap (λ l. [] ∷ l) (no_cells nodes (replicate n no_queue) n refl))

-- nor a finger
pub same_at : {X : Type 0} (n j : ℕ) (x : X) → get_or (replicate n x) j x ≡ x
same_at n j x = grind (arith, common_steps)

pub empty_pool : {nodes : Slab Node} {queues : List Queue} {fingers : List (List Ahead)} (n room : ℕ) →
    nodes.slots ≡ [] → room ≤ nodes.capacity → queues ≡ replicate n no_queue → fingers ≡ replicate n [] →
    IsPool nodes queues fingers room
empty_pool n room none few is are = rw (is, are) (search (arith, rules, same_at, sum_by-replicate, length-replicate))

module _ (old new : Nodes) (j : ℕ) (queues : List Queue) (queue : Queue) (had : AreLinked old queues)
    (inside : j < length queues) (stay : OthersStay j old new) where
  other_stays : (i : ℕ) → i ≢ j → linked new (queue_at queues i) ≡ linked old (queue_at queues i)
  other_stays i ne = search (arith, rules, chain_stays old new (λ c. c.cell.output ≡ i), had i)

  pub are_linked_changed : IsLinked new j queue → AreLinked new (set queues j queue)
  are_linked_changed changed i =
      grind (arith, common_steps, get_or-set_same, get_or-set_other, is_linked_along, other_stays, cases_eq)

  pub have_fingers_changed : (fingers : List (List Ahead)) (own : List Ahead) → HaveFingers old queues fingers →
      length fingers ≡ length queues → AreFingers (places (linked new queue)) own →
      HaveFingers new (set queues j queue) (set fingers j own)
  have_fingers_changed fingers own have_fingers even changed i = search
      (arith, rules, get_or-set_same, get_or-set_other, other_stays, cases_eq i j)

  pub cells_changed : cells_in_queues new (set queues j queue)
      ≡ set (cells_in_queues old queues) j (cells (linked new queue))
  cells_changed =
      ext_get_or [] _ _ (search (rules, length-map, length-set)) (λ i within. search
      (arith, rules, queue_seen, get_or-set_same, get_or-set_other, other_stays, cases_eq i j, length-map, length-set))

-- ## A queue that was read

pub inside_seen : (nodes : Nodes) (queues : List Queue) (seen : List (List Queued)) (j : ℕ) →
    cells_in_queues nodes queues ≡ seen → j < length seen → j < length queues
inside_seen nodes queues seen j is inside = grind (arith, common_steps, length-map)

-- an output with a cell is one of the outputs
pub inside_some : (seen : List (List Queued)) (j : ℕ) (n : ℕ) → n < length (queue_of seen j) → j < length seen
inside_some seen j n some = grind (arith, common_steps, get_or_past, cases_lt)

-- what is known of it
pub record IsRead (nodes : Nodes) (queues : List Queue) (seen : List (List Queued)) (j : ℕ)
    (queue : Queue) : Type 0 where
  pub inside : j < length queues
  pub read : queue ≡ get_or queues j queue
  pub is_linked : IsLinked nodes j queue
  pub view : cells_in_queues nodes queues ≡ seen
  pub are_cells : queue_of seen j ≡ cells (linked nodes queue)

pub is_read : (nodes : Nodes) (queues : List Queue) (seen : List (List Queued)) (j : ℕ) (queue : Queue) →
    AreLinked nodes queues → cells_in_queues nodes queues ≡ seen → j < length queues → queue ≡ get_or queues j queue →
    IsRead nodes queues seen j queue
is_read nodes queues seen j queue had view inside read = search (arith, rules, queue_seen, get_or_read)

-- so of a queue of the pool
pub read_of : {nodes : Slab Node} {queues : List Queue} {fingers : List (List Ahead)} {room spare : ℕ} {seen : PoolView}
    {j : ℕ} {queue : Queue} → IsPool nodes queues fingers room →
    record { queues = cells_in_queues (get nodes) queues; spare = spare } ≡ seen →
    j < length seen.queues → queue ≡ get_or queues j queue → IsRead (get nodes) queues seen.queues j queue
read_of {nodes} {queues} {seen = seen} {j} {queue} had is inside read =
    let view = ap (λ (v : PoolView). v.queues) is in search (arith, rules, is_read, inside_seen)

-- and of its fingers
pub fingers_read : {nodes : Slab Node} {queues : List Queue} {fingers : List (List Ahead)} {room j : ℕ} {queue : Queue}
    {own : List Ahead} → IsPool nodes queues fingers room → j < length queues → queue ≡ get_or queues j queue →
    own ≡ get_or fingers j own → AreFingers (places (linked (get nodes) queue)) own
fingers_read {queues = queues} {fingers} {j = j} {queue} {own} had inside read is =
    search (arith, rules, get_or_read, had.have_fingers j)

-- what stands first in it stands first in what is seen
pub first_seen : {nodes : Slab Node} {queues : List Queue} {fingers : List (List Ahead)} {room spare : ℕ}
    {seen : PoolView} {j : ℕ} {queue : Queue} (p : Queued → Bool) {n : ℕ} → IsPool nodes queues fingers room →
    record { queues = cells_in_queues (get nodes) queues; spare = spare } ≡ seen → j < length seen.queues →
    queue ≡ get_or queues j queue → n ≡ position_or_len p (cells (linked (get nodes) queue)) →
    n ≡ position_or_len p (queue_of seen.queues j)
first_seen p had is inside read first = grind (arith, common_steps, read_of)

pub as_many : {nodes : Nodes} {queues : List Queue} {seen : List (List Queued)} {j : ℕ} {queue : Queue} →
    IsRead nodes queues seen j queue → length (queue_of seen j) ≡ queue.len
as_many {nodes} {queue = queue} r = grind (arith, common_steps, length-map)

-- ## Another queue in its place

module _ {old : Slab Node} (new : Slab Node) {j room : ℕ} {queues : List Queue} {fingers : List (List Ahead)}
    {seen : List (List Queued)} {read queue : Queue} (had : IsPool old queues fingers room)
    (r : IsRead (get old) queues seen j read)
    (stay : OthersStay j (get old) (get new)) (changed : IsLinked (get new) j queue) where
  pub is_pool_changed : (own : List Ahead) → AreFingers (places (linked (get new) queue)) own →
      slab_len new + read.len ≡ slab_len old + queue.len → slab_len new ≤ room → new.capacity ≡ old.capacity →
      IsPool new (set queues j queue) (set fingers j own) room
  is_pool_changed own are len fits capacity =
      grind (arith, common_steps, are_linked_changed (get old), have_fingers_changed (get old), sum_by-set, length-set)

  pub view_changed : (f : List Queued → List Queued) → cells (linked (get new) queue) ≡ f
      (cells (linked (get old) read)) → cells_in_queues (get new) (set queues j queue) ≡ set seen j
      (f (queue_of seen j))
  view_changed f same = grind (arith, common_steps, cells_changed)

-- ## Its head told

-- where it has none
pub none_told : (seen : List (List Queued)) (j : ℕ) → None ≡ slice_get (queue_of seen j) 0 →
    seen ≡ set seen j (drop 1 (queue_of seen j))
none_told seen j none = grind (arith, common_steps, set-get_or, slice_get_cases)

module _ {nodes : Nodes} {queues : List Queue} {j : ℕ} {queue rest : Queue} {node : Node}
    (had : AreLinked nodes queues) (head : IsHead nodes queues j queue node)
    (less : rest ≡ behind_first queue node.next) where
  own : IsLinked nodes j queue
  own = rw (← head.read) (had j)

  pub are_linked_behind : AreLinked nodes (set queues j rest)
  are_linked_behind = rw less (are_linked_changed nodes nodes j queues (behind_first queue node.next) had head.inside
      (λ i m there ne. there) (linked_behind own head.some head.here))

  pub cells_told : {seen : List (List Queued)} → cells_in_queues nodes queues ≡ seen →
      cells_in_queues nodes (set queues j rest) ≡ set seen j (drop 1 (queue_of seen j))
  cells_told is =
      grind (arith, common_steps, cells_changed nodes nodes j queues, queue_seen, cells_behind own head.some head.here)

-- a queue that was read
pub ruleset read_steps = (read_of, fingers_read, first_seen, as_many, inside_some)

-- a head that is told
pub ruleset head_steps = (none_told, are_linked_behind, cells_told)
