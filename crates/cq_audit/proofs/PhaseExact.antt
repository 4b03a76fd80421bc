-- The lines of a phase have one verdict. First the pairs that they tell, from both sides: one more pair is told from
-- both, where its ends were free. The lines are told one after another. Their inputs rise, so where a line has its
-- turn, those before it are of lesser inputs and those behind it of greater ones: it is the line of its input, and an
-- output that is taken then is taken by a lesser input's line. Where no line is wrong and no pair blocks, the pairs
-- that the lines tell are a stable matching: each is of an input and the output of its first cell, so it is offered,
-- and no output is in two of them, for the greater of two inputs would have a wrong line. A pair outside it that is
-- offered does not block, so one of its ends has a partner that it prefers. The transfers of these pairs are then the
-- lines: what is noted of an input is its line, since its partner is the output that the line names, and its first cell
-- for that output is the one; and the lines of all inputs, in order, are the lines. Last, of two faults neither comes
-- before the other. And where the lines are the transfers of a stable matching, the line of an input is what is noted
-- of it: it names the input's first cell for its partner. So no line is wrong, the pairs that the lines tell are the
-- matching, and none blocks it.
use Rattle.cq_audit.proofs.Terms.{common_steps, rules, ◌≡◌, ℕ, zero, suc, ◌+◌, ◌<◌, ◌≤◌, ◌⊎◌, List, length, Option, None, Some, ◌∙◌, arith, filter_map, range_with_len, cases_lt, cases_eq, ext_get_or, length-map, get_or_past, Queued, Transfer, list_of, output_order, noted, transfers_of, Partners, partner_of, offer_of, transfers_tell, IsPhaseExact, IsPhaseFault, IsStableTold, IsWrongLine, first_id, line_of_input, output_told, told, PhaseFault, ◌≢◌, [], ◌∷◌, sym, AllByRecursion, option_map, cond_both, eqb-true, Waiting, cells_of, orders_of, Orders, ports, IsOffered, HasBetterInput, HasBetterOutput, IsMatching, AreOfPhase, AreRight, IsBlocking, RiseByInput, all_weaker, get_or-map-range_with_len, length-map-range_with_len, is_output_order, outputs_at, CellId, sender, all_give, all_of_has, ◌++◌, get_or, take, drop, refl, replicate, eq-eqb, length-replicate, length-set, get_or-set_same, get_or-set_other, take-append-drop, take_more, drop_more, find-append, all_back, with_pair, IsFreeOutput, nobody, IsOf, IsFirstWrong, get_or-map, none_unless, take_all}
use Rattle.cq_audit.specs.declared.phase.PhaseFault.TheVariants.{WrongLine, Blocking}
use Rattle.cq_base.proofs.Having.{has_there}
use Rattle.std.proofs.lemmas.List.Folds.{find_at}
use Rattle.cq_audit.specs.Pairs.{CanBeJoined, AreMirrored}

-- ## Told from both sides

module _ (m w : Partners) (mirror : AreMirrored m w) where
  pub free_there : (j : ℕ) → IsFreeOutput m j → partner_of w j ≡ None
  free_there j free = none_unless (partner_of w j) (λ i is. free i (mirror.back i j is))

  pub free_back : (i : ℕ) → partner_of m i ≡ None → IsFreeOutput w i
  free_back i free j is = grind (arith, common_steps, mirror.back)

pub joined_mirrored : (m w : Partners) (i j : ℕ) → AreMirrored m w → i < length m → j < length m →
    partner_of m i ≡ None → IsFreeOutput m j → AreMirrored (with_pair m i j) (with_pair w j i)
joined_mirrored m w i j mirror in_m in_w free_i free_j =
    search (arith, rules, length-set, free_back, get_or-set_same, get_or-set_other, cases_eq)

pub ruleset join_steps = (joined_mirrored, free_there, free_back)

-- ## The line of an input

-- the list of an input that there is
pub cells_at : (lists : List Waiting) (i : ℕ) (w : Waiting) → i < length lists → get_or lists i w ≡ w →
    list_of (cells_of lists) i ≡ w.cells
cells_at lists i w inside is = search (arith, rules, get_or-map)

module _ (i : ℕ) where
  pub line_is_of : (lines : List Transfer) (t : Transfer) → line_of_input i lines ≡ Some t → t.input ≡ i
  line_is_of [] t e = absurd (let P : ⊥ = cc in P)
  line_is_of (u ∷ lines) t e = grind (arith, common_steps, cond_both, eqb-true, line_is_of lines t)

  pub line_holds : (P : Transfer → Type 0) (lines : List Transfer) (t : Transfer) → AllByRecursion P lines →
      line_of_input i lines ≡ Some t → P t
  line_holds P lines t all e = search (arith, rules, all_of_has P lines, has_there, find_at)

  pub no_line : (lines : List Transfer) → AllByRecursion (λ u. i < u.input) lines → line_of_input i lines ≡ None
  no_line [] all = refl
  no_line (t ∷ lines) all = grind (arith, common_steps, cond_both, eqb-true, no_line lines all.1)

-- ## The pairs so far

-- the lines that were looked at are right, and these are the pairs that they tell
pub record ToldBy (lists : List (List Queued)) (lines : List Transfer) (m : Partners) : Type 0 where
  pub size : length m ≡ length lists
  pub told : (i : ℕ) → partner_of m i ≡ output_told lines i
  pub right : AreRight lists lines

-- before the first line
pub none_told : (lists : List (List Queued)) (ports : ℕ) → ports ≡ length lists →
    ToldBy lists [] (replicate ports None)
none_told lists ports e = grind (arith, common_steps, length-replicate, nobody)

pub all_told : (lists : List (List Queued)) (lines : List Transfer) (m : Partners) (ports : ℕ) →
    ports ≡ length lists → ToldBy lists lines m → m ≡ told ports lines
unfolding told
all_told lists lines m ports square had =
    let long = length-map-range_with_len (output_told lines) 0 ports in
    search (arith, rules, ext_get_or None m, get_or-map-range_with_len, had.told)

-- ## One line more

-- a line that is wrong is so where the lines of this input and of lesser ones are the same
same_wrong : (lists : List (List Queued)) (xs ys : List Transfer) (i : ℕ) →
    ((k : ℕ) → k ≤ i → line_of_input k xs ≡ line_of_input k ys) → IsWrongLine lists xs i → IsWrongLine lists ys i
same_wrong lists xs ys i same wrong = search (arith, rules, same)

module _ (t : Transfer) (rest : List Transfer) where
  both_sides : (front : List Transfer) → RiseByInput (front ++ t ∷ rest) →
      AllByRecursion (λ u. u.input < t.input) front × AllByRecursion (λ u. t.input < u.input) rest
  both_sides [] rise = (tt, rise.0)
  both_sides (u ∷ front) rise = let others = both_sides front rise.1 in
      (((all_back (λ v. u.input < v.input) front (t ∷ rest) rise.0).0, others.0), others.1)

lesser_line : (front rest : List Transfer) (t : Transfer) → AllByRecursion (λ u. t.input < u.input) rest → (k : ℕ) →
    k < t.input → line_of_input k (front ++ t ∷ rest) ≡ line_of_input k front
lesser_line front rest t greater k less = grind (arith, common_steps, no_line, all_weaker, find-append)

-- the line at place n, behind those that were looked at
module _ (ws : List Waiting) (lines : List Transfer) (n : ℕ) (d : Transfer) (m : Partners) (w : Waiting)
    (inside : n < length lines) (of : AllByRecursion (IsOf (length ws)) lines) (rise : RiseByInput lines)
    (had : ToldBy (cells_of ws) (take n lines) m) (is : w ≡ get_or ws (get_or lines n d).input w) where
  abbrev line : Transfer
  line = get_or lines n d

  abbrev front : List Transfer
  front = take n lines

  parts : lines ≡ front ++ line ∷ drop (n + 1) lines
  parts = grind (arith, common_steps, drop_more, take-append-drop)

  own : IsOf (length ws) line
  own = (all_back _ front (line ∷ drop (n + 1) lines) (rw parts at of)).0

  list : list_of (cells_of ws) line.input ≡ w.cells
  list = cells_at ws line.input w own.input (sym is)

  long : length m ≡ length ws
  long = had.size ∙ length-map ws (λ (x : Waiting). x.cells)

  sides : AllByRecursion (λ u. u.input < line.input) front
      × AllByRecursion (λ u. line.input < u.input) (drop (n + 1) lines)
  sides = both_sides line (drop (n + 1) lines) front (rw parts at rise)

  -- an input that has a line among those before is lesser
  told_before : (k : ℕ) (u : Transfer) → line_of_input k front ≡ Some u → k < line.input
  told_before k u is = grind (arith, common_steps, line_holds, line_is_of, sides)

  own_line : (rest : List Transfer) → line_of_input line.input (front ++ line ∷ rest) ≡ Some line
  own_line rest = grind (arith, common_steps, find-append, told_before, cond_both, eq-eqb)

  other_line : (k : ℕ) → k ≢ line.input → line_of_input k (front ++ line ∷ []) ≡ line_of_input k front
  other_line k other = grind (arith, common_steps, find-append, cond_both, eqb-true)

  -- it is wrong
  pub wrong_at : (first_id line.output w.cells ≢ Some line.id) ⊎ ((k : ℕ) × (partner_of m k ≡ Some line.output)) →
      IsFirstWrong (cells_of ws) lines line.input
  wrong_at why =
      let stands : line_of_input line.input lines ≡ Some line = cc (own_line (drop (n + 1) lines), parts) in
      let same = λ (k : ℕ) (less : k < line.input).
      rw (← parts) at (lesser_line front (drop (n + 1) lines) line sides.1 k less) in
      record {
        wrong = search (arith, rules, same, stands, told_before, had.told, list);
        least = λ k below. search (arith, rules, same, had.right k, same_wrong (cells_of ws) lines front k);
      }

  pub can_join : IsFreeOutput m line.output → CanBeJoined m line.input line.output
  can_join free = grind (arith, common_steps, told_before, long, own)

  -- it is right
  pub right_at : first_id line.output w.cells ≡ Some line.id → IsFreeOutput m line.output →
      ToldBy (cells_of ws) (take (n + 1) lines) (with_pair m line.input line.output)
  right_at names free = rw (take_more lines n d inside) (record {
    size = search (arith, rules, length-set, had.size);
    told = λ i. grind (arith, common_steps, get_or-set_same, had, own_line, other_line, long, own, cases_eq);
    right = λ i wrong. search (arith, rules, own_line, other_line, free, had, had.right i, same_wrong, list, cases_eq);
  })

pub ruleset told_steps = (none_told, cells_at, can_join, all_told, length-map, take_all)

-- ## Settled

module _ (o : Orders) (m : Partners) (matching : IsMatching o m) (none : (i j : ℕ) → IsBlocking o m i j → ⊥) where
  settled : (i j : ℕ) → IsOffered o i j → partner_of m i ≢ Some j → HasBetterOutput o m i j ⊎ HasBetterInput o m i j
  settled i j offered outside = search (arith, rules, none i j, cases_lt, sender m j)

-- ## What the lines tell

pub some_of : {A B : Type 0} (f : A → B) (o : Option A) (b : B) → option_map f o ≡ Some b →
    (a : A) × (o ≡ Some a) × (f a ≡ b)
some_of f o b e = grind (arith, common_steps)

same_id : (a : Option CellId) (b : CellId) → (a ≡ Some b) ⊎ (a ≢ Some b)
same_id a b = grind (arith, common_steps, cases_eq)

pub told_size : (ports : ℕ) (lines : List Transfer) → length (told ports lines) ≡ ports
unfolding told
told_size ports lines = length-map-range_with_len (output_told lines) 0 ports

module _ (lists : List (List Queued)) (lines : List Transfer) where
  pub told_at : (i : ℕ) → i < length lists → partner_of (told (length lists) lines) i ≡ output_told lines i
  unfolding told
  told_at i inside = get_or-map-range_with_len (output_told lines) 0 (length lists) i i None inside (omega arith)

  -- a partner is that of an input, and its line names it
  told_line : (i j : ℕ) → partner_of (told (length lists) lines) i ≡ Some j → output_told lines i ≡ Some j
  told_line i j is = search (arith, rules, told_at, get_or_past, told_size, cases_lt)

  module _ (right : AreRight lists lines) where
    -- the line of an input names its first cell for an output, so there is one
    pub names_first : (i : ℕ) (t : Transfer) → line_of_input i lines ≡ Some t →
        first_id t.output (list_of lists i) ≡ Some t.id
    names_first i t stands = grind (arith, common_steps, same_id (first_id t.output (list_of lists i)) t.id, right i)

    apart : (i k j : ℕ) → output_told lines i ≡ Some j → output_told lines k ≡ Some j → i < k → ⊥
    apart i k j at_i at_k before = grind (arith, common_steps, right k)

    pub told_matching : IsMatching (orders_of lists) (told (length lists) lines)
    told_matching = record {
      size = told_size (length lists) lines ∙ sym (length-map lists output_order);
      offered = λ i j is. let line = some_of (λ t. t.output) (line_of_input i lines) j (told_line i j is) in
          search (arith, rules, outputs_at lists i, is_output_order (list_of lists i), some_of, names_first i line.0);
      once = search (arith, rules, apart, told_line, cases_lt);
    }

-- ## The lines of all inputs

-- all lines are of the n inputs from a on
abbrev Between : ℕ → ℕ → List Transfer → Type 0
Between a n lines = AllByRecursion (λ u. (a ≤ u.input) × (u.input < a + n)) lines

-- what tells of each input its line, tells the lines
lines_by_input : (f : ℕ → Option Transfer) (lines : List Transfer) (a n : ℕ) →
    ((i : ℕ) → a ≤ i → i < a + n → f i ≡ line_of_input i lines) → RiseByInput lines → Between a n lines →
    filter_map f (range_with_len a n) ≡ lines
lines_by_input f [] a (suc n) same rise all = grind (arith, common_steps, lines_by_input f [] (a + 1) n)
lines_by_input f (t ∷ lines) a (suc n) same rise all =
    let own = lines_by_input f lines (a + 1) n in
    let rest = lines_by_input f (t ∷ lines) (a + 1) n in
    grind (arith, common_steps, cond_both, eqb-true, all_weaker, all_give, no_line, own, rest, cases_eq t.input a)
lines_by_input f lines a n same rise all = grind (arith, common_steps)

-- ## What is noted of an input

module _ (lists : List (List Queued)) (lines : List Transfer) (right : AreRight lists lines) (i slot phase : ℕ)
    (are : AreOfPhase (length lists) slot phase lines) where
  note_is : (o : Option Transfer) → line_of_input i lines ≡ o →
      noted slot phase i (list_of lists i) (option_map (λ (t : Transfer). t.output) o) ≡ o
  note_is o is = search (arith, rules, some_of, names_first lists lines right i, line_holds, line_is_of)

-- the same of lists, and of the offers of what they hold
pub judged_stable : (lists : List Waiting) (lines : List Transfer) (slot phase : ℕ) (m : Partners) (o : Orders) →
    o ≡ orders_of (cells_of lists) → m ≡ told (length lists) lines → AreRight (cells_of lists) lines →
    AreOfPhase (length lists) slot phase lines → ((i j : ℕ) → IsBlocking o m i j → ⊥) →
    IsStableTold (cells_of lists) slot phase lines m
unfolding transfers_of
judged_stable lists lines slot phase m o orders pairs right are none =
    let long = length-map lists (λ (w : Waiting). w.cells) in
    let is = told_matching (cells_of lists) lines right in
    search (arith, rules, settled, told_size, lines_by_input, told_at, note_is, all_weaker)

-- ## The line of an input among those of all

-- what a function notes of an input is a transfer of it
module _ (h : ℕ → Option Transfer) (own : (i : ℕ) (t : Transfer) → h i ≡ Some t → t.input ≡ i) where
  line_is_here : (i a n : ℕ) → ((i < a) ⊎ (a + n ≤ i) → h i ≡ None) →
      line_of_input i (filter_map h (range_with_len a n)) ≡ h i
  line_is_here i a zero out = search (arith, rules, cases_lt i a)
  line_is_here i a (suc n) out = search (arith, rules, cond_both, eqb-true, cases_eq, line_is_here i (a + 1) n)

-- ## The transfers of a stable matching

module _ (lists : List (List Queued)) (slot phase : ℕ) (lines : List Transfer) (m : Partners)
    (is : IsStableTold lists slot phase lines m) where
  note : ℕ → Option Transfer
  note i = noted slot phase i (list_of lists i) (partner_of m i)

  -- what is noted of an input names its partner and its first cell for it
  record IsNoteOf (i : ℕ) (t : Transfer) : Type 0 where
    input : t.input ≡ i
    partner : partner_of m i ≡ Some t.output
    first : first_id t.output (list_of lists i) ≡ Some t.id

  size : length m ≡ length lists
  size = is.stable.matching.size ∙ length-map lists output_order

  -- an input that has a partner has a cell for it, and so a line
  line_is_note : (i : ℕ) → line_of_input i lines ≡ note i
  unfolding transfers_of note
  line_is_note i = search (arith, rules, line_is_here, get_or_past)

  partner_told : (i : ℕ) → partner_of m i ≡ output_told lines i
  unfolding note
  partner_told i = grind (arith, common_steps, line_is_note, offer_of lists m is.stable i)

  pub none_wrong : (i : ℕ) → IsWrongLine lists lines i → ⊥
  unfolding note
  none_wrong i wrong = search (arith, rules, line_is_note, partner_told)

  pub told_is : told (length lists) lines ≡ m
  told_is = search (arith, rules, ext_get_or None (told (length lists) lines) m, told_size, size, told_at, partner_told)

-- ## One verdict

one_fault : (lists : List (List Queued)) (lines : List Transfer) (f g : PhaseFault) → IsPhaseFault lists lines f →
    IsPhaseFault lists lines g → f ≡ g
one_fault lists lines (WrongLine i) (WrongLine k) x y = grind (arith, common_steps, y.least i, x.least k, cases_lt i k)
one_fault lists lines (WrongLine i) (Blocking k l) x y = absurd (y.right i x.wrong)
one_fault lists lines (Blocking i j) (WrongLine k) x y = absurd (x.right k y.wrong)
one_fault lists lines (Blocking i j) (Blocking k l) x y = search (arith, rules)

pub phase_is_exact : IsPhaseExact
phase_is_exact = search (arith, rules, transfers_tell, one_fault, none_wrong, told_is)
