-- What the outputs of a fabric hold. Between two slots these are as many cells as the lists of an ideal switch have
-- with which the fabric agrees. So the numbers that a limiter keeps are followed through a slot by the lists of that
-- switch: it takes in the same cells and sends the same, and agrees again.
use Rattle.cq_fabric.proofs.Terms.{common_steps, rules, ◌≡◌, ℕ, ◌+◌, ◌<◌, ◌≤◌, ◌^◌, Bool, List, [], length, map, get_or, drop, replicate, Option, Ok, refl, arith, slice_get, ext_get_or, get_or-replicate, length-map, length-replicate, get_or-map-range_with_len, length-map-range_with_len, Cell, Queued, Machine, admission, admitted, marked, marks_after, count_for, IdealState, filled, fronts, ideal_slot, rests, HoldsLists, LimiterView, Ranking, ranking, each_once, Agrees, SendsAlike, Fabric, fabric_held, held_for, fabric_admission, came_to, list_of, HoldsFabric, Queues, fabric_of, holds_filled, by_marks, sent_from, came_for, hold_as_many, empty_list, nothing_for, slice_get_cases, length-drop}
use Rattle.std.proofs.Math.ListN.{get_or-map as get_or_map}
use Rattle.cq_fabric.specs.Released.{HasReleased}
use Rattle.cq_fabric.proofs.Known.{AreRanked, BuffersHaveRoom, HaveJudged, bit}

pub held_long : (f : Fabric) → length (fabric_held f) ≡ length f.inputs
unfolding fabric_held
held_long f = length-map-range_with_len (λ (k : ℕ). held_for k f) 0 (length f.inputs)

pub held_at : (f : Fabric) (j : ℕ) → j < length f.inputs → get_or (fabric_held f) j 0 ≡ held_for j f
unfolding fabric_held
held_at f j inside = get_or-map-range_with_len (λ (k : ℕ). held_for k f) 0 (length f.inputs) j j 0 inside (omega arith)

-- ## Before the first slot

pub holds_first : (n : ℕ) (ranks : List (List ℕ)) (q : Queues) (l : LimiterView) → q.inputs ≡ replicate n [] →
    q.buffers ≡ replicate n [] → length l.limits ≡ n → l.held ≡ replicate n 0 → HoldsFabric (fabric_of q ranks) l
holds_first n ranks q l inputs buffers limits held =
    let ext = ext_get_or 0 l.held (fabric_held (fabric_of q ranks)) in
    search (arith, rules, ext, length-replicate, get_or-replicate, held_long, held_at, nothing_for, empty_list)

-- ## Before a slot

-- the numbers of cells that outputs hold stay below 2^64 where their buffers have room for all that wait or come
pub numbers_fit : (q : Queues) (ranks : List (List ℕ)) (l : LimiterView) (cells : List (Option Cell)) →
    HoldsFabric (fabric_of q ranks) l → BuffersHaveRoom (length q.inputs) q cells →
    ((j : ℕ) → length (list_of q.buffers j) ≤ get_or q.to_outputs j 0) → ((j : ℕ) → get_or q.to_outputs j 0 < 2 ^ 64) →
    (j : ℕ) → j < length l.limits → get_or l.held j 0 + count_for j cells < 2 ^ 64
numbers_fit q ranks l cells holds room within top j inside = grind (arith, common_steps, held_at)

-- what is admitted finds room where all that comes does
pub admitted_room : (ports : ℕ) (q : Queues) (marks : List Bool) (cells : List (Option Cell)) →
    BuffersHaveRoom ports q cells → BuffersHaveRoom ports q (admitted marks cells)
admitted_room ports q marks cells room j inside = grind (arith, common_steps, each_once)

-- what is admitted by these marks is what the fabric admits
pub admits_are : (l : LimiterView) (f : Fabric) (cells : List (Option Cell)) (marks : List Bool) → HoldsFabric f l →
    marks ≡ marks_after l.limits l.held l.marks cells →
    by_marks marks cells ≡ fabric_admission l.limits cells (marked l.marks f)
unfolding admission
admits_are l f cells marks holds is = grind (arith, common_steps, by_marks)

-- ## The lists of an ideal switch that agrees

holds_ideal : (slot : ℕ) (f : Fabric) (ideal : IdealState) (l : LimiterView) → Agrees slot f ideal → HoldsFabric f l →
    HoldsLists ideal.lists l
holds_ideal slot f ideal l agrees holds = grind (arith, common_steps, hold_as_many slot f ideal agrees)

one_less : (xs : List Queued) (n : ℕ) → n + bit (slice_get xs 0) ≡ length xs → n ≡ length (drop 1 xs)
one_less xs n e = grind (arith, common_steps, length-drop, slice_get_cases)

-- each output that sent a cell holds one less
holds_rests : (lists : List (List Queued)) (judged after : LimiterView) → HoldsLists lists judged →
    after.limits ≡ judged.limits → length after.held ≡ length judged.held →
    ((j : ℕ) → get_or after.held j 0 + bit (came_to (fronts lists) j) ≡ get_or judged.held j 0) →
    HoldsLists (rests lists) after
holds_rests lists judged after holds limits long less =
    let here : (j : ℕ) → get_or after.held j 0 ≡ get_or (map length (rests lists)) j 0 = λ j.
    let nil : List Queued = [] in
    let front = get_or_map (λ (xs : List Queued). slice_get xs 0) lists j nil in
    let rest = get_or_map (λ (xs : List Queued). drop 1 xs) lists j nil in
    let was = get_or_map length lists j nil in
    search (arith, rules, one_less, holds.held, front, rest, was, get_or_map length (rests lists) j nil) in
    search (arith, rules, length-map, ext_get_or 0 after.held (map length (rests lists)), holds.held)

-- what the ideal switch sends and keeps, once its arrivals are ranked
sends_are : (ms : List Machine) (slot : ℕ) (cells : List (Option Cell)) (ideal : IdealState) (r : Ranking)
    (gone : List (Option Queued)) (next : IdealState) → ranking ms slot 0 cells ideal.ranks ≡ Ok r →
    ideal_slot ms slot cells ideal ≡ Ok (record { gone = gone; after = next }) →
    (fronts (filled r.came ideal.lists) ≡ gone) × (rests (filled r.came ideal.lists) ≡ next.lists)
unfolding ideal_slot
sends_are ms slot cells ideal r gone next ranked sent = search (arith, rules, sent_from)

-- ## A slot

module _ {ms : List Machine} {slot : ℕ} {q : Queues} {ranks : List (List ℕ)} {cells : List (Option Cell)}
    {classes : ℕ} {came : List (Option Queued)} {ranks' : List (List ℕ)}
    (known : AreRanked ms slot q ranks cells classes came ranks') where
  -- the outputs hold what the fabric has at the end of the slot
  pub still_holds : (gone : List (Option Queued)) (g : Fabric) (before judged after : LimiterView) →
      SendsAlike ms slot cells known.ideal gone g → HoldsFabric (fabric_of q ranks) before →
      HaveJudged cells before judged → HasReleased gone judged after → HoldsFabric g after
  still_holds gone g before judged after alike holds judges releases =
      let ranked : Ranking = record { came = came; ranks = ranks' } in
      let sends = sends_are ms slot cells known.ideal ranked gone alike.next (search (rules)) alike.sent in
      let now = holds_filled came cells known.ideal.lists _ before judged
      (holds_ideal slot (fabric_of q ranks) known.ideal before known.agrees holds) refl judges.limits
      judges.as_many judges.more (came_for ms slot cells ranks ranked known.ranked) in
      search (arith, rules, holds_rests, hold_as_many (slot + 1) g alike.next alike.agrees)
