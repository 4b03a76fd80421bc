-- What is told of a list, place after place: each place takes the head of the queue of its output. What is told, and
-- what the queues tell at the places that are left, stay the same cells, so no cell is looked for.
use Rattle.cq_list.proofs.Terms.{common_steps, rules, ◌≡◌, ℕ, List, ◌∷◌, ◌++◌, drop, take, Option, sym, ap, ◌∙◌, arith, concat, slice_get, cond_both, cases_lt, get_or_past, set, set_past, Queued, merged, without_head, queue_of}
use Rattle.cq_list.proofs.Kept.{queue_of-set}
use Rattle.std.proofs.Math.Path.{fun_ext}
use Rattle.std.specs.Option.{option_to_list}

-- the head of a queue is told, if it has one
first_told : (o : Option Queued) (q : List Queued) → o ≡ slice_get q 0 → option_to_list o ≡ take 1 q
first_told o q is = grind (arith, common_steps)

module _ (j : ℕ) (queues : List (List Queued)) where
  head_left : (i : ℕ) → queue_of (set queues j (drop 1 (queue_of queues j))) i ≡ without_head j (queue_of queues) i
  head_left i =
      search (arith, rules, cases_lt j, queue_of-set queues j (drop 1), set_past, get_or_past, cond_both)

  pub told_next : {new : List (List Queued)} {head : Option Queued} → head ≡ slice_get (queue_of queues j) 0 →
      new ≡ set queues j (drop 1 (queue_of queues j)) → (places : List ℕ) →
      option_to_list head ++ merged places (queue_of new) ≡ merged (j ∷ places) (queue_of queues)
  told_next {head = head} is less places = rw (less, fun_ext head_left, first_told head (queue_of queues j) is)

-- ## Block by block

pub block_first : {left rest : List (List ℕ)} {block outputs : List ℕ} → left ≡ block ∷ rest → outputs ≡ block →
    concat left ≡ outputs ++ concat rest
block_first {rest = rest} met same = ap concat met ∙ ap (λ l. l ++ concat rest) (sym same)
