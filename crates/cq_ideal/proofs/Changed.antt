-- Lists that are made item by item, what is seen of one item, and lists that are new up to a place, and old from it on.
-- So the list and the machine of one output among those of all: what stands at its place is read through the lists of
-- all.
use Rattle.cq_ideal.proofs.Terms.{length-append, length-take, length-set, get_or-set_other, map-set, map-set_same, length-drop, on_ok_weaker, on_err_weaker, common_steps, ◌≡◌, ℕ, zero, suc, refl, ◌+◌, ◌<◌, ◌≤◌, List, [], ◌∷◌, ◌++◌, length, map, get_or, replicate, set, take, drop, sym, ap, ◌∙◌, arith, append-nil, drop_all, drop_more, get_or_at, get_or-map, length-map, length-take-le, map_push, replicate_more, set_at, take_all, take_more, Option, None, length-replicate, Queued, ◌^◌, eqb, Bool, All, IsTrue, ◌↔◌, list_all, list_all-map, list_all-from_AllPass, IsWithin, QueueView, QueuesView, list_at, Machine, machine_at, first_come, RanksView, most_ports, cases_lt, get_or_past}
use Rattle.cq_ideal.specs.Newcomers.{AreUsed}

-- ## One item more

-- the item at a place behind those before it
pub take_next : {X : Type 0} (l : List X) (n : ℕ) (xs more : List X) (x d : X) → xs ≡ take n l → more ≡ xs ++ x ∷ [] →
    n < length l → x ≡ get_or l n d → more ≡ take (n + 1) l
take_next l n xs more x d so_far is inside here = cc ((take_more l n d inside))

-- what is read of it
pub map_next : {X Y : Type 0} (f : X → Y) (l : List Y) (n : ℕ) (xs more : List X) (x : X) (d : Y) →
    map f xs ≡ take n l → more ≡ xs ++ x ∷ [] → n < length l → f x ≡ get_or l n d → map f more ≡ take (n + 1) l
map_next f l n xs more x d so_far is inside here = grind (arith, common_steps, take_next, map_push)

-- where the same is read of all
pub map_same : {X Y : Type 0} (f : X → Y) (y : Y) (n : ℕ) (xs more : List X) (x : X) → map f xs ≡ replicate n y →
    more ≡ xs ++ x ∷ [] → f x ≡ y → map f more ≡ replicate (n + 1) y
map_same f y n xs more x so_far is here = cc (map_push f xs x, replicate_more n y)

-- the same at each place, and behind them
pub same_at : {X : Type 0} (d : X) (n i : ℕ) → get_or (replicate n d) i d ≡ d
same_at d n i = grind (arith, common_steps)

pub map-replicate : {X Y : Type 0} (f : X → Y) (n : ℕ) (x : X) → map f (replicate n x) ≡ replicate n (f x)
map-replicate f zero x = refl
map-replicate f (suc n) x = ap (λ l. f x ∷ l) (map-replicate f n x)

-- ## One item of some of which something is seen

module _ {X Y : Type 0} (f : X → Y) (items : List X) {seen : List Y} (are : map f items ≡ seen) (o : ℕ) where
  pub item_inside : o < length seen → o < length items
  item_inside inside = let long = ap length are in let same = length-map items f in omega arith

  pub seen_at : {x : X} (d : Y) → o < length items → x ≡ get_or items o x → f x ≡ get_or seen o d
  seen_at {x} d inside is = ap f is ∙ sym (get_or-map f items o x d inside) ∙ ap (λ l. get_or l o d) are

-- lists that are taken, and in which one item is put in the place of another
pub ruleset list_steps = (length-map, length-drop, length-set, length-append, length-take, take_more, take_all)

pub ruleset item_steps = (list_steps, item_inside, map-set, map-set_same, get_or-set_other, on_ok_weaker, on_err_weaker)

-- ## One item changed

abbrev pub changed_to : {X : Type 0} → List X → List X → ℕ → List X
changed_to new old j = take j new ++ drop j old

pub at_place : {X : Type 0} (new old : List X) (j : ℕ) (d : X) → length new ≡ length old → j < length old →
    get_or (changed_to new old j) j d ≡ get_or old j d
at_place new old j d same inside = grind (arith, common_steps, drop_more, get_or_at, length-take-le)

pub next_place : {X : Type 0} (new old : List X) (j : ℕ) (y d : X) → length new ≡ length old → j < length old →
    y ≡ get_or new j d → set (changed_to new old j) j y ≡ changed_to new old (j + 1)
next_place new old j y d same inside is = grind (arith, common_steps, drop_more old j d inside, set_at (take j new))

-- what is put at its place alone
pub put_next : {X : Type 0} (new old now next : List X) (j : ℕ) (y d : X) → now ≡ changed_to new old j →
    next ≡ set now j y → y ≡ get_or new j d → length new ≡ length old → j < length old →
    next ≡ changed_to new old (j + 1)
put_next new old now next j y d so_far put is same inside = cc ((next_place new old j y d same inside is))

pub at_end : {X : Type 0} (new old : List X) (j : ℕ) → length new ≡ length old → length old ≤ j →
    changed_to new old j ≡ new
at_end new old j same end = cc (drop_all j old end, append-nil (take j new), take_all j new (omega arith))

-- ## Which places may have a cell: none where all were cleared

pub none_used : (used : ℕ) (places : List (Option Queued)) → places ≡ replicate most_ports None → AreUsed used places
none_used used places nobody =
    let none : Option Queued = None in
    rw nobody (record { long = length-replicate most_ports none; beyond = λ k _. same_at none most_ports k })

-- ## The lists of the outputs

-- the lists that were made so far are empty, and have the rooms of the first outputs
pub record Made (rooms : List ℕ) (n : ℕ) (items : List QueueView) : Type 0 where
  pub lists : map (λ q. q.cells) items ≡ replicate n []
  pub rooms_are : map (λ q. q.room) items ≡ take n rooms
  pub few : All (λ q. q.room < 2 ^ 64) items

-- each list is within its room, which is a number of 64 bits
pub within_rooms : (items : List QueueView) (v : QueuesView) → All IsWithin items →
    record { lists = map (λ q. q.cells) items; rooms = map (λ q. q.room) items } ≡ v → (j : ℕ) →
    (get_or v.rooms j 0 < 2 ^ 64) × (length (list_at v.lists j) ≤ get_or v.rooms j 0)
within_rooms items v held view_is j =
    let none : QueueView = record { cells = []; room = 0 } in
    let lists = get_or-map (λ (q : QueueView). q.cells) items j none [] in
    let rooms = get_or-map (λ (q : QueueView). q.room) items j none 0 in
    grind (arith, common_steps, cases_lt j (length items), lists, rooms, held j none, get_or_past, length-map)

pub none_wait : {X : Type 0} (cells_of : X → List Queued) (items : List X) (lists : List (List Queued)) (b : Bool) →
    b ≡ list_all (λ x. eqb (length (cells_of x)) 0) items → map cells_of items ≡ lists →
    IsTrue b ↔ All (λ cells. cells ≡ []) lists
none_wait cells_of items lists b e l =
    let none = λ (cells : List Queued). eqb (length cells) 0 in
    grind (arith, common_steps, list_all-map none cells_of items, list_all-from_AllPass none lists)

-- ## Their machines

-- the numbers that stand at an output's place give its machine
pub machine_seen : {R : Type 0} (F S : R → List ℕ) (items : List R) (o : ℕ) {r : R} {v : RanksView} →
    o < length v.fixed → r ≡ get_or items o r → record { fixed = map F items; states = map S items } ≡ v →
    (M : List ℕ → Machine) → M (F r) ≡ machine_at (map M v.fixed) o
machine_seen F S items o {r} {v} inside is view_is M =
    grind (arith, common_steps, get_or-map F items o r (F r), get_or-map M v.fixed o (F r) (first_come []), item_inside)

pub ruleset queue_steps = (seen_at, within_rooms, item_steps)

pub ruleset put_steps = (put_next, at_end, list_steps)

pub ruleset machine_steps = (machine_seen, seen_at, put_next, at_end, item_steps)
