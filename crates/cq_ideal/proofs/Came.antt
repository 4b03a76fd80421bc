-- What ranking gives, and how it is taken in. Each cell that came has the slot, the input at which it came, and is the
-- one that arrived there. So what is left when the outputs have sent arrived before the slot that follows. Where cells
-- are ranked one after another, what came so far stands in front of the ranking of the others. The definition puts
-- them all into the lists; the code puts one after another: putting the first cell, and then the others, is putting
-- them all, and where a list has room for all of them it has for each in turn.
use Rattle.cq_ideal.proofs.Terms.{rules, ◌≡◌, ℕ, zero, suc, ◌+◌, List, [], ◌∷◌, length, get_or, Option, Some, None, Result, Ok, arith, length-set, common_steps, same_Some, Cell, Queued, TagFault, arrival_at, Machine, CameToPorts, Ranking, ranking, after_input, AreForPorts, ◌≤◌, replicate, refl, ◌<◌, AllByRecursion, append_assoc, cond_both, cases_lt, filled, put_all, rests, AllArrivedBefore, ArrivedBefore, list_at, HaveOwnKeys, all_put, get_or-map, get_or_past, ◌++◌, map, set, take, drop, Err, get_or-set_other, ext_get_or, get_or-drop, length-drop, length-replicate, take-append-drop, take_more_set, unwrap_or-slice_get, RanksView, after_inputs, length-map, drop_more, CanPut, QueuesView, FitTogether, HaveRoomFor, with_came, length_put, all_weaker, most_ports}
use Rattle.cq_ideal.proofs.FlowStands.{after_input_ok, fits_ok}
use Rattle.cq_ideal.proofs.Waiting.{filled_at, filled_next, length-filled, filled_none, one_put}
use Rattle.cq_ideal.proofs.Changed.{same_at}

-- a cell that came has this slot, its input, and is the one that arrived there
pub record Came (slot i : ℕ) (cells : List (Option Cell)) (k : ℕ) (q : Queued) : Type 0 where
  pub slot_is : q.key.slot ≡ slot
  pub input_is : q.key.input ≡ i + k
  pub cell_is : arrival_at cells k ≡ Some q.cell

pub came_from : (ms : List Machine) (slot i : ℕ) (cells : List (Option Cell)) (ranks : List (List ℕ)) (r : Ranking) →
    ranking ms slot i cells ranks ≡ Ok r → (k : ℕ) (q : Queued) → get_or r.came k None ≡ Some q →
    Came slot i cells k q
came_from ms slot i [] ranks r h k q e = grind (arith, common_steps)
came_from ms slot i (cell ∷ cells) ranks r h k q e =
    search (arith, rules, after_input_ok, fits_ok, same_Some, came_from ms slot (i + 1) cells)

-- there are as many rank states as before
pub ranks_kept : (ms : List Machine) (slot i : ℕ) (cells : List (Option Cell)) (ranks : List (List ℕ)) (r : Ranking) →
    ranking ms slot i cells ranks ≡ Ok r → length r.ranks ≡ length ranks
ranks_kept ms slot i [] ranks r h = grind (arith, common_steps)
ranks_kept ms slot i (cell ∷ cells) ranks r h =
    search (arith, rules, after_input_ok, fits_ok, ranks_kept ms slot (i + 1) cells, length-set)

-- ## Before the next slot

module _ (ms : List Machine) (slot : ℕ) (cells : List (Option Cell)) (ranks : List (List ℕ)) (r : Ranking)
    (ok : ranking ms slot 0 cells ranks ≡ Ok r) (lists : List (List Queued))
    (arrived : AllArrivedBefore slot lists) where
  all_put_all : (P : Queued → Type 0) (j : ℕ) (came : List (Option Queued)) (xs : List Queued) →
      ((k : ℕ) (q : Queued) → get_or came k None ≡ Some q → P q) → AllByRecursion P xs →
      AllByRecursion P (put_all j came xs)
  all_put_all P j [] xs each all = all
  all_put_all P j (o ∷ came) xs each all =
      grind (arith, common_steps, cond_both, all_put P, each zero, all_put_all P j came, λ (k : ℕ). each (suc k))

  pub arrived_next : AllArrivedBefore (slot + 1) (rests (filled r.came lists))
  arrived_next j =
      let each = came_from ms slot 0 cells ranks r ok in
      let arrived : ArrivedBefore (slot + 1) (list_at (filled r.came lists) j) =
      search (arith, rules, cases_lt j, filled_at, all_put_all, each, length-filled, get_or_past, all_weaker) in
      search (arith, rules, arrived, get_or-map, get_or_past, length-map, cases_lt j)

-- ## Cells that are ranked one after another

-- they stand in front of what came to the others, and nothing changes a fault
pub in_front : (came : List (Option Queued)) (x : Result Ranking TagFault) → after_inputs came x
    ≡ elim x [ Ok r ↦ Ok (record { came = came ++ r.came; ranks = r.ranks }) | Err fault ↦ Err fault ]
in_front [] x = grind (arith, common_steps)
in_front (c ∷ came) x = grind (arith, common_steps, in_front came)

-- where no cell arrives any more nobody comes
none_ranked : (ms : List Machine) (slot input : ℕ) (cells : List (Option Cell)) (states : List (List ℕ)) →
    ((k : ℕ) (cell : Cell) → get_or cells k None ≡ Some cell → ⊥) →
    ranking ms slot input cells states ≡ Ok (record { came = replicate (length cells) None; ranks = states })
none_ranked ms slot input [] states h = refl
none_ranked ms slot input (cell ∷ cells) states h =
    grind (arith, common_steps, h zero, none_ranked ms slot (input + 1) cells states (λ k. h (suc k)))

-- no cell comes to an input that is no port
pub none_beyond : (ports input : ℕ) (cells : List (Option Cell)) →
    ((place : ℕ) (cell : Cell) → arrival_at cells place ≡ Some cell → place < ports) → ports ≤ input → (k : ℕ)
    (cell : Cell) → get_or (drop input cells) k None ≡ Some cell → ⊥
none_beyond ports input cells inputs beyond k cell at =
    grind (arith, common_steps, inputs (input + k) cell, unwrap_or-slice_get cells (input + k) None)

-- ## All inputs

-- the cells from an input on
pub from_input : (cells : List (Option Cell)) (input : ℕ) (o : Option Cell) → length cells ≡ most_ports →
    input < most_ports → o ≡ arrival_at cells input → drop input cells ≡ o ∷ drop (input + 1) cells
from_input cells input o places inside is = grind (arith, common_steps, drop_more, unwrap_or-slice_get)

pub record InTurn (M : List ℕ → Machine) (slot : ℕ) (cells : List (Option Cell)) (first : RanksView) (input : ℕ)
    (ranks : RanksView) (came : List (Option Queued)) : Type 0 where
  pub fixed : ranks.fixed ≡ first.fixed
  pub many : length ranks.states ≡ length first.states
  pub places : 0 < input → length cells ≡ most_ports
  pub long : length came ≡ most_ports
  pub later : (k : ℕ) → length first.fixed ≤ k → get_or came k None ≡ None
  pub ranked :
      after_inputs (take input came) (ranking (map M first.fixed) slot input (drop input cells) ranks.states)
      ≡ ranking (map M first.fixed) slot 0 cells first.states

module _ {M : List ℕ → Machine} {slot : ℕ} {cells : List (Option Cell)} {first : RanksView} {input : ℕ}
    {ranks : RanksView} {came : List (Option Queued)} (so_far : InTurn M slot cells first input ranks came) where
  -- one input more
  pub in_turn_next : (ranks_new : RanksView) (cell : Option Cell) (q : Option Queued) → length cells ≡ most_ports →
      input < most_ports → input < length first.fixed → cell ≡ arrival_at cells input →
      ranks_new.fixed ≡ ranks.fixed → length ranks_new.states ≡ length ranks.states →
      ((rest : List (Option Cell)) → ranking (map M ranks.fixed) slot input (cell ∷ rest) ranks.states
      ≡ after_input q (ranking (map M ranks.fixed) slot (input + 1) rest ranks_new.states)) →
      InTurn M slot cells first (input + 1) ranks_new (set came input q)
  in_turn_next ranks_new cell q places inside port is fixed many one =
      grind (arith, common_steps, length-set, get_or-set_other, take_more_set, in_front, append_assoc, from_input cells)

  -- no port is left
  pub in_turn_last : (class_count : ℕ) → AreForPorts (length first.fixed) class_count cells →
      0 < length first.fixed → length first.fixed ≤ input →
      ranking (map M first.fixed) slot 0 cells first.states ≡ Ok (record { came = came; ranks = ranks.states })
  in_turn_last class_count for some past =
      let none = None in
      let left = length (drop input cells) in
      let behind = ext_get_or none (drop input came) (replicate left none)
      (grind (arith, common_steps, length-drop, length-replicate)) (search (arith, rules, get_or-drop, same_at)) in
      search (arith, rules, none_ranked, none_beyond _ input cells for.inputs past, in_front, take-append-drop)

-- ## Putting cells into the lists

-- where no cell came nothing changes
pub nobody_left : (came : List (Option Queued)) (lists : List (List Queued)) →
    ((k : ℕ) (q : Queued) → get_or came k None ≡ Some q → ⊥) → filled came lists ≡ lists
unfolding filled
nobody_left [] lists h = filled_none lists
nobody_left (q ∷ came) lists h = grind (arith, common_steps, h zero, nobody_left came lists (λ k. h (suc k)))

-- ## Keys

-- once a cell is put in, if one came, the others still have their own keys
own_keys_rest : (o : Option Queued) (came : List (Option Queued)) (lists : List (List Queued)) →
    HaveOwnKeys (o ∷ came) lists → ((q : Queued) → o ≡ Some q → q.cell.output < length lists) →
    HaveOwnKeys came (with_came o lists)
own_keys_rest o came lists own inside =
    let later = λ (k n : ℕ). own.others (suc k) (suc n) in
    let apart = λ (k : ℕ). own.others zero (suc k) in
    search (arith, rules, λ (k : ℕ). own.waiting (suc k), later, apart, one_put, cond_both, all_put, inside)

-- ## The walk over the inputs

-- What was put in so far, and then the cells of the inputs from this one on, is all that is put in; and there is room
-- for the cells of these, and each has its own key.
pub record Putting (came : List (Option Queued)) (first : QueuesView) (input : ℕ) (queues : QueuesView) : Type 0 where
  pub rooms : queues.rooms ≡ first.rooms
  pub long : length queues.lists ≡ length first.lists
  pub room : HaveRoomFor (drop input came) queues
  pub keys : HaveOwnKeys (drop input came) queues.lists
  pub filled : filled (drop input came) queues.lists ≡ filled came first.lists

module _ {came : List (Option Queued)} {first : QueuesView} {input : ℕ} {queues : QueuesView}
    (ports : CameToPorts (length first.lists) came) (so_far : Putting came first input queues) where
  module _ (few : length first.lists ≤ most_ports) (inside : input < length first.lists) where
    next : drop input came ≡ get_or came input None ∷ drop (input + 1) came
    next = grind (arith, common_steps, drop_more)

    -- the list of the cell that came to an input has room for it, and no cell of its key
    pub putting_room : length first.rooms ≡ length first.lists → (q : Queued) → get_or came input None ≡ Some q →
        CanPut q queues
    putting_room as_many q at = grind (arith, common_steps, next, ports.outputs, so_far.keys.waiting 0 q)

    pub putting_next : (new : QueuesView) → new.lists ≡ with_came (get_or came input None) queues.lists →
        new.rooms ≡ queues.rooms → Putting came first (input + 1) new
    putting_next new lists rooms =
        search (arith, rules, next, length-set, own_keys_rest, filled_next, one_put, length_put)

-- the room for a cell that is put in, and the end of the walk, behind which no cell comes
pub ruleset arrive_steps = (putting_room, nobody_left, get_or-drop)

-- parts that have as many outputs as others fit as these do
pub fit_same : (M : List ℕ → Machine) (ranks ranks_new : RanksView) (queues queues_new : QueuesView) →
    FitTogether (map M ranks.fixed) ranks queues → ranks_new.fixed ≡ ranks.fixed →
    length ranks_new.states ≡ length ranks.states → length queues_new.lists ≡ length queues.lists →
    queues_new.rooms ≡ queues.rooms → FitTogether (map M ranks_new.fixed) ranks_new queues_new
fit_same M ranks ranks_new queues queues_new fit fixed states lists rooms = grind (arith, common_steps, length-map)
