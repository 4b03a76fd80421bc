-- Offers made from the lists of a switch are the orders of their cells. The orders of the inputs are those read from
-- the lists. The order of each output is that of the keys that were read, and these are the keys of the first cells.
-- Then offers are renewed input by input. The orders of the inputs before the next one, and those of their partners,
-- are as they are to be. The others are so but for one port each: an input's for its partner, and an output's for the
-- one input whose partner it is. Who has no partner has had the order from the start. Where one input changed for one
-- output, it is the renewal of a matching of this one pair: the inputs before it have no partner, and those behind it
-- have none. So its order and that of the output are all that is renewed.
use Rattle.cq_prefs.proofs.Terms.{common_steps, rules, ◌≡◌, ◌≢◌, ℕ, ◌+◌, ◌<◌, ◌≤◌, eqb, List, [], length, get_or, set, Some, None, arith, not, replicate, map, All, IsDistinct, cases_Bool, cases_eq, cases_lt, eq-eqb, ne_eqb, eqb-true, length-map-range_with_len, get_or-map-range_with_len, length-map, length-set, get_or_past, get_or_default, get_or-set_same, get_or-set_other, ext_get_or, length-replicate, Queued, Waiting, cells_of, AreWaiting, list_of, output_order, input_order, orders_of, Orders, AreOffers, ports, outputs_of, inputs_of, Partners, partner_of, ArePairs, with_pair, without, is_pair, AreSameWithout, kept_has, has_kept, most_ports, filter_all, all_from_has}
use Rattle.std.proofs.lemmas.List.{get_or-map}
use Rattle.std.proofs.lemmas.Simd.{map-map}
use Rattle.cq_prefs.proofs.InputOrder.{OutputsInRange, outputs_at, inputs_at, are_offers}
use Rattle.cq_prefs.proofs.Members.{among, listed}
use Rattle.cq_prefs.proofs.OneOrder.{same_orders}
use Rattle.cq_prefs.proofs.OutputOrder.{is_output_order, has_output}
use Rattle.cq_prefs.proofs.Places.{output_in_range, outputs_at_most, inputs_at_most}
use Rattle.cq_prefs.proofs.Pairs.{nobody, no_pairs, joined_pairs}
use Rattle.cq_prefs.proofs.ByKey.{outputs_below}

-- ## The lists

pub cells_at : (lists : List Waiting) (i : ℕ) (d : Waiting) → i < length lists →
    list_of (cells_of lists) i ≡ (get_or lists i d).cells
cells_at lists i d l = get_or-map (λ (w : Waiting). w.cells) lists i d [] l

pub in_range_of : (lists : List Waiting) (n : ℕ) → All (λ w. AreWaiting w.outputs w.cells) lists →
    All (λ w. w.outputs ≡ n) lists → length lists ≡ n → OutputsInRange (cells_of lists)
in_range_of lists n waiting same size i j c found =
    let d : Waiting = record { cells = []; outputs = 0; spare = 0 } in
    search (arith, rules, outputs_below, has_output, cells_at, waiting i d, same i d, length-map, get_or_past, cases_lt)

-- ## The orders

-- the orders of the outputs before output n are made
pub record Made (lists : List Waiting) (n : ℕ) (rows : List (List ℕ)) : Type 0 where
  pub size : length rows ≡ length lists
  pub row : (j : ℕ) → j < n → get_or rows j [] ≡ input_order (cells_of lists) j

pub orders_made : (lists : List Waiting) (n : ℕ) (outputs inputs : List (List ℕ)) →
    outputs ≡ map (λ w. output_order w.cells) lists → Made lists n inputs → length lists ≤ n →
    let o : Orders = record { outputs = outputs; inputs = inputs } in o ≡ orders_of (cells_of lists)
orders_made lists n outputs inputs e m end =
    let long = length-map-range_with_len (input_order (cells_of lists)) 0 (length (cells_of lists)) in
    search (arith, rules, ext_get_or [] inputs, length-map, map-map, same_orders, get_or-map-range_with_len)

-- ## Partners

-- of the inputs, only the one whose partner it is makes a pair with an output
one_partner : (m : Partners) → ArePairs m → (i j k : ℕ) → partner_of m i ≡ Some j → is_pair m k j ≡ eqb k i
one_partner m pairs i j k e = search (rules, eq-eqb, ne_eqb, pairs.once, cases_eq)

-- ## Some inputs renewed

-- the inputs before n are renewed: the orders are o, and are to be t
pub record Renewing (m : Partners) (n : ℕ) (o t : Orders) : Type 0 where
  pub ports : (length o.outputs ≡ length t.outputs) × (length o.inputs ≡ length t.inputs)
  pub outputs_differ : (i : ℕ) → IsDistinct eqb (outputs_of o i)
  pub inputs_differ : (j : ℕ) → IsDistinct eqb (inputs_of o j)
  pub outputs_done : (i : ℕ) → (n ≤ i → partner_of m i ≡ None) → outputs_of o i ≡ outputs_of t i
  pub outputs_wait : (i j : ℕ) → n ≤ i → partner_of m i ≡ Some j →
      without j (outputs_of o i) ≡ without j (outputs_of t i)
  pub inputs_done : (j : ℕ) → ((i : ℕ) → n ≤ i → partner_of m i ≢ Some j) → inputs_of o j ≡ inputs_of t j
  pub inputs_wait : (i j : ℕ) → n ≤ i → partner_of m i ≡ Some j →
      without i (inputs_of o j) ≡ without i (inputs_of t j)

pub none_renewed : (m : Partners) (o t : Orders) → ArePairs m → AreOffers o → AreSameWithout m o t → Renewing m 0 o t
none_renewed m o t pairs v same = search (arith, rules, filter_all, all_from_has, one_partner, ne_eqb)

-- the next input has one: its order and that of its partner are renewed
pub one_more :
    (m : Partners) (n j : ℕ) (o t : Orders) (row column : List ℕ) → ArePairs m → AreOffers t → Renewing m n o t →
    partner_of m n ≡ Some j → n < length o.outputs → j < length o.inputs → row ≡ outputs_of t n →
    column ≡ inputs_of t j →
    Renewing m (n + 1) (record { outputs = set o.outputs n row; inputs = set o.inputs j column }) t
one_more m n j o t row column pairs v r e inside offered is_row is_column =
    search (arith, rules, get_or-set_other, get_or-set_same, length-set, cases_eq)

-- all are renewed
pub all_renewed : (m : Partners) (n : ℕ) (o t : Orders) → Renewing m n o t → length m ≤ n → o ≡ t
all_renewed m n o t r end =
    let rows = ext_get_or [] o.outputs in
    search (arith, rules, ext_get_or [] o.inputs, same_orders, get_or_past)

-- where no input of a range has a partner, the range is renewed as it stands
pub none_between : (m : Partners) (a b : ℕ) (o t : Orders) → Renewing m a o t → a ≤ b →
    ((i : ℕ) → a ≤ i → i < b → partner_of m i ≡ None) → Renewing m b o t
none_between m a b o t r le none =
    grind (arith, common_steps, r.outputs_done, cases_lt, r.outputs_wait, r.inputs_done, r.inputs_wait)

-- ## Ports in range

-- each cell of the lists is for an output: one that the offers before showed, or one of a pair
pub in_range_still :
    (m : Partners) (o : Orders) (lists : List (List Queued)) → ArePairs m → AreOffers o → length m ≡ ports o →
    length lists ≡ ports o → AreSameWithout m o (orders_of lists) → OutputsInRange lists
in_range_still m o lists pairs v size long same i j c found =
    let order = is_output_order (list_of lists i) in
    let left = has_kept (λ k. not (is_pair m i k)) (outputs_of (orders_of lists) i) j in
    search (arith, rules, left, outputs_at, among, order, kept_has, output_in_range, listed, cases_Bool, eqb-true)

-- so what they are to be are offers
pub still_offers :
    (m : Partners) (o now : Orders) (lists : List Waiting) → ArePairs m → AreOffers o × (ports o ≤ most_ports) →
    o ≡ now →
    length m ≡ ports now → length lists ≡ ports now → AreSameWithout m now (orders_of (cells_of lists)) →
    AreOffers (orders_of (cells_of lists)) × (ports (orders_of (cells_of lists)) ≤ most_ports)
still_offers m o now lists pairs v is long many same = search (rules, length-map, are_offers, in_range_still)

-- ## One pair

-- the next input, its partner, and what is known of the two orders
pub record Next (m : Partners) (n j : ℕ) (outputs inputs : List (List ℕ)) (lists : List Waiting) : Type 0 where
  pub renewing : Renewing m n (record { outputs = outputs; inputs = inputs }) (orders_of (cells_of lists))
  pub pairs : ArePairs m
  pub partner : partner_of m n ≡ Some j
  pub long : length m ≡ length lists
  pub inside : n < length m
  pub offers : AreOffers (orders_of (cells_of lists)) × (ports (orders_of (cells_of lists)) ≤ most_ports)

module _ {m : Partners} {n j : ℕ} {outputs inputs : List (List ℕ)} {lists : List Waiting}
    (x : Next m n j outputs inputs lists) where
  -- what the renewal of its partner's order asks
  pub column_asks : (column : List ℕ) → column ≡ get_or inputs j column →
      IsDistinct eqb column × (without n column ≡ without n (input_order (cells_of lists) j))
      × (length (input_order (cells_of lists) j) ≤ most_ports)
  column_asks column e =
      let few = inputs_at_most (orders_of (cells_of lists)) x.offers.0 j in
      search (arith, rules, few, get_or_default, inputs_at, length-map, length-map-range_with_len, x.pairs.ports)

  -- what the renewal of the input's order asks
  module _ (row : List ℕ) (list : Waiting) (at : list ≡ get_or lists n list) where
    pub row_asks : row ≡ get_or outputs n row → IsDistinct eqb row
        × (without j row ≡ without j (output_order list.cells)) × (length (output_order list.cells) ≤ most_ports)
    row_asks e =
        let few = outputs_at_most (orders_of (cells_of lists)) x.offers.0 n in
        search (arith, rules, few, outputs_at, cells_at, get_or_default, length-map)

    pub next_renewed : (column : List ℕ) → row ≡ output_order list.cells → column ≡ input_order (cells_of lists) j →
        Renewing m (n + 1) (record { outputs = set outputs n row; inputs = set inputs j column })
        (orders_of (cells_of lists))
    next_renewed column e f =
        search (arith, rules, one_more, outputs_at, cells_at, inputs_at, length-map, length-map-range_with_len)

-- the one pair
abbrev pub pair_of : List Waiting → ℕ → ℕ → Partners
pair_of lists n j = with_pair (replicate (length lists) None) n j

ruleset pair_steps = (nobody, length-set, length-replicate, get_or-set_same, get_or-set_other)

module _ (n j : ℕ) (lists : List Waiting) (inside : n < length lists) (within : j < length lists) where
  pair_apart : ArePairs (pair_of lists n j)
  pair_apart = grind (arith, common_steps, length-replicate, joined_pairs, no_pairs, nobody)

  -- what is known of the two orders
  pub pair_next : (outputs inputs : List (List ℕ)) (o now : Orders) →
      o ≡ record { outputs = outputs; inputs = inputs } → AreOffers o × (ports o ≤ most_ports) → o ≡ now →
      length lists ≡ ports now → AreSameWithout (pair_of lists n j) now (orders_of (cells_of lists)) →
      Next (pair_of lists n j) n j outputs inputs lists
  pair_next outputs inputs o now shown v is many same =
      let first = none_renewed (pair_of lists n j) o (orders_of (cells_of lists)) pair_apart v.0 in
      search (arith, rules, first, none_between, still_offers, pair_apart, pair_steps)

  -- the two orders are all
  pub pair_renewed : (outputs inputs : List (List ℕ)) (row column : List ℕ) (list : Waiting) →
      Next (pair_of lists n j) n j outputs inputs lists → list ≡ get_or lists n list → row ≡ output_order list.cells →
      column ≡ input_order (cells_of lists) j →
      record { outputs = set outputs n row; inputs = set inputs j column } ≡ orders_of (cells_of lists)
  pair_renewed outputs inputs row column list x at e f =
      let m = pair_of lists n j in
      search (arith, rules, next_renewed x, all_renewed m (length m), none_between m (n + 1) (length m), pair_steps)

pub ruleset fill_steps = (length-set, get_or-set_same, get_or-set_other, cases_eq)
