-- The fourth clause, of the names that were found, input by input. At each input the cells that arrive before the
-- next slot are those of packets one after another, so that each packet is named whole, or not at all, says of each of
-- them that it is named as the first one of its packet is; and the packet that began last is that of the last cell.
-- The walk over the cells of one input ends with a mark exactly where each packet that has begun is named whole, or
-- not at all and its output has a limit. Cells of one packet come one behind the other, so each is compared with the
-- one before it. The mark is up where the last cell is not named, which is of the packet that began last.
use Rattle.cq_resume.proofs.Terms.{common_steps, rules, ◌↔◌, ◌≡◌, ℕ, ◌<◌, ◌≤◌, eqb, ltb, Bool, true, false, cond, List, [], ◌∷◌, fold, Option, Some, refl, inr, arith, None, ◌==◌, filter, not, and_from, and_right, cases_Bool, cases_lt, eq-eqb, eqb-true, le-leb, le-ltb, lt-ltb, Arrival, latest, ArePackets, ComeBehind, IsLine, PacketsStand, coming, firsts_before, has_limit, has_name, is_left_out, mark_on, may_come, packet_before, Name, all_of_has, all_from_has, has_kept, kept_has, Has, any_alike}
use Rattle.std.proofs.lemmas.Bool.Decides.{nat_tests}
use Rattle.cq_resume.proofs.Coming.{is_between}

-- whether a cell is the first of its packet
abbrev is_first : Arrival → Bool
is_first a = eqb a.cell.id.index 0

abbrev later_one : Arrival → Arrival → Arrival
later_one a b = cond (ltb a.slot b.slot) b a

module _ (named : Arrival → Bool) (limited : ℕ → Bool) where
  -- a cell that is not named goes to an output that has a limit
  abbrev pub IsAllowed : Arrival → Type 0
  IsAllowed a = named a ≡ false → limited a.cell.output ≡ true

  abbrev may : Bool → Arrival → Bool
  may mark b = may_come (b.cell.id.index == 0) (named b) (limited b.cell.output) mark

  -- ## A walk that ends

  -- one step of a walk that ends
  one_step : (mark m : Bool) (b : Arrival) (line : List Arrival) → mark_on named limited mark (b ∷ line) ≡ Some m →
      (may mark b ≡ true) × (mark_on named limited (not (named b)) line ≡ Some m)
  one_step mark m b line ends = grind (arith, common_steps, cases_Bool)

  -- each cell is named as the first one of its packet is, and a first one that is not named may be left out
  abbrev pub AsFirst : List Arrival → Type 0
  AsFirst line = (f b : Arrival) → Has line f → Has line b → f.cell.id.index ≡ 0 →
      f.cell.id.packet ≡ b.cell.id.packet → (named b ≡ named f) × IsAllowed f

  -- behind a cell each is of a later packet, or named alike
  behind_alike : (a : Arrival) (line : List Arrival) (m : Bool) → ComeBehind a line →
      mark_on named limited (not (named a)) line ≡ Some m → (b : Arrival) → Has line b →
      (a.cell.id.packet ≤ b.cell.id.packet) × (a.cell.id.packet ≡ b.cell.id.packet → named b ≡ named a) × IsAllowed b
  behind_alike a [] m behind ends b has = absurd has
  behind_alike a (c ∷ line) m behind ends b has = search (rules, one_step, behind_alike c line m behind.1)

  as_first_on : (a : Arrival) (line : List Arrival) (m : Bool) → ComeBehind a line → IsAllowed a →
      mark_on named limited (not (named a)) line ≡ Some m → AsFirst (a ∷ line)
  as_first_on a [] m behind may_be ends f b first second begins packet = search (arith, rules)
  as_first_on a (c ∷ line) m behind may_be ends f b first second begins packet =
      search (arith, rules, behind_alike a (c ∷ line) m, one_step, as_first_on c line m behind.1)

  pub line_stands : (line : List Arrival) (m : Bool) → IsLine line → mark_on named limited false line ≡ Some m →
      AsFirst line
  line_stands line m is ends = search (arith, rules, as_first_on, one_step)

  -- ## The last first cell

  -- behind a cell that is named as the last first one: the mark is up where the last first one then is not named
  last_first : (all : List Arrival) (f a : Arrival) (line : List Arrival) (m : Bool) → ComeBehind a line →
      ((c : Arrival) → Has line c → Has all c) → Has all f → f.cell.id.index ≡ 0 → f.slot ≤ a.slot →
      named a ≡ named f → mark_on named limited (not (named a)) line ≡ Some m →
      let g = fold later_one f (filter is_first line) in
      Has all g × (g.cell.id.index ≡ 0) × (m ≡ not (named g))
  last_first all f a [] m behind among there begins le same ends = (there, begins, cc)
  last_first all f a (b ∷ line) m behind among there begins le same ends =
      let on = λ (g : Arrival). last_first all g b line m behind.1 (λ c has. among c (inr has)) in
      grind (arith, common_steps, on f, on b, eqb-true)

  -- ## A walk that stops

  -- where each cell is named as the first one of its packet is, a walk ends
  walk_ends : (all : List Arrival) → AsFirst all → (f a : Arrival) (line : List Arrival) → ComeBehind a line →
      ((c : Arrival) → Has line c → Has all c) → Has all f → f.cell.id.index ≡ 0 →
      f.cell.id.packet ≡ a.cell.id.packet → f.cell.output ≡ a.cell.output → named a ≡ named f →
      mark_on named limited (not (named a)) line ≡ None → ⊥
  walk_ends all first_like f a [] behind among there first packet output same stops = let P : ⊥ = cc in P
  walk_ends all first_like f a (b ∷ line) behind among there first packet output same stops =
      search (arith, rules, walk_ends all first_like f b line, walk_ends all first_like b b line, eq-eqb)

  pub line_ends : (line : List Arrival) → IsLine line → AsFirst line → mark_on named limited false line ≡ None → ⊥
  line_ends line is first_like stops = search (arith, rules, walk_ends line first_like, eq-eqb)

-- ## The cells of an input before a slot

module _ (next : ℕ) where
  -- behind a late one all are late
  none_behind : (b : Arrival) (line : List Arrival) → next ≤ b.slot → ComeBehind b line →
      filter (is_between 0 next) line ≡ []
  none_behind b [] late behind = refl
  none_behind b (c ∷ line) late behind = grind (arith, common_steps, and_right, le-ltb, none_behind c line)

  early_behind : (a : Arrival) (line : List Arrival) → ComeBehind a line →
      ComeBehind a (filter (is_between 0 next) line)
  early_behind a [] behind = tt
  early_behind a (b ∷ line) behind = grind (arith, nat_tests, none_behind b line, early_behind b line)

-- the first cells before a slot are the first ones of the line
firsts_are : (next i : ℕ) (came : List Arrival) → firsts_before i next came ≡ filter is_first (coming i 0 next came)
firsts_are next i [] = refl
firsts_are next i (a ∷ came) = grind (arith, common_steps, le-leb, firsts_are next i came)

-- ## Whole packets

module _ (limits : List (Option ℕ)) (ports next : ℕ) (came : List Arrival) (names : List Name)
    (are : ArePackets ports came) where
  pub whole : (i : ℕ) → i < ports → IsLine (coming i 0 next came)
  whole i inside = search (arith, rules, is_between, early_behind, none_behind, and_from, le-leb, lt-ltb, cases_lt)

  -- what is among them
  line_has : (i : ℕ) (b : Arrival) → Has (coming i 0 next came) b ↔
      (Has came b × (b.cell.id.input ≡ i) × (b.slot < next))
  line_has i b = search (arith, rules, kept_has, is_between, nat_tests, has_kept)

  -- and what is of a packet
  packet_has : (a b : Arrival) → Has (packet_before came next a) b ↔
      (Has came b × (b.cell.id.input ≡ a.cell.id.input) × (b.cell.id.packet ≡ a.cell.id.packet) × (b.slot < next))
  packet_has a b = search (arith, rules, kept_has, nat_tests, has_kept)

  abbrev pub LineStands : ℕ → Type 0
  LineStands i = AsFirst (has_name names) (has_limit limits) (coming i 0 next came)

  -- where all inputs stand so do all packets
  pub packets_stand : ((i : ℕ) → i < ports → LineStands i) → PacketsStand limits next came names
  packets_stand stand = all_from_has _ came (λ a has begins early. let line = stand a.cell.id.input in
      search (arith, rules, line, packet_has a, cases_Bool (has_name names a), all_of_has, line_has, all_from_has))

  -- and the other way
  pub as_first : PacketsStand limits next came names → (i : ℕ) → LineStands i
  as_first stand i f b first second begins packet =
      search (arith, rules, line_has i, all_of_has, packet_has f f, packet_has f b)

  -- ## Marks

  -- the mark that a walk leaves is up exactly where the packet that began last is not named
  pub mark_is : (i : ℕ) → i < ports → LineStands i → (m : Bool) →
      mark_on (has_name names) (has_limit limits) false (coming i 0 next came) ≡ Some m →
      m ≡ is_left_out names next came (latest (firsts_before i next came))
  mark_is i inside stand m ends = rw (firsts_are next i came) (by (coming i 0 next came) refl (whole i inside) ends)
    where
      by : (line : List Arrival) → coming i 0 next came ≡ line → IsLine line →
          mark_on (has_name names) (has_limit limits) false line ≡ Some m →
          m ≡ is_left_out names next came (latest (filter is_first line))
      by [] is line ends = cc
      by (a ∷ rest) is line ends =
          let step = one_step (has_name names) (has_limit limits) false m a rest ends in
          let its = last_first (has_name names) (has_limit limits) (a ∷ rest) a a rest m line.1 in
          let g = fold later_one a (filter is_first rest) in
          let any = any_alike (has_name names) (has_name names g) (packet_before came next g) g in
          grind (arith, common_steps, its, step, eq-eqb, any, packet_has g, line_has, stand g)
