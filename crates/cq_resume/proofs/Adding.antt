-- What is left out at all inputs, input after input, comes to what is left out of all that arrives. No more cells are
-- left out than arrive, and so the counts have room for them.
-- Where the walks over all inputs ended with a mark, all packets stand, and the marks and the counts are those of what
-- is left out; where one stopped, a packet does not stand.
use Rattle.cq_resume.proofs.Terms.{rules, ◌≡◌, ℕ, zero, suc, ◌+◌, ◌-◌, ◌<◌, ◌≤◌, ◌^◌, ltb, leb, Bool, false, List, [], ◌∷◌, ◌++◌, length, map, Option, Some, refl, sym, length-append, arith, common_steps, ◌&&◌, filter, flat_map, nat_lt, not, range_with_len, le-leb, append-nil, length-map, map-append, flat_map-append, filter-append, map-range_with_len_more, Arrival, is_from, range_more, Refused, CanCount, refused_counts, with_refused, all_counted_both, counts_fit, none_counted, zero_fits, ArePackets, coming, has_limit, has_name, left_out, mark_on, unnamed, Name, few_kept, counts_more, get_or, None, get_or-map, get_or-map-range_with_len, length-map-range_with_len, latest, PacketsStand, TalliesUp, firsts_before, is_left_out, Tally, fill_by_all}
use Rattle.cq_resume.proofs.Coming.{is_between, cells_in}
use Rattle.cq_resume.proofs.Tallied.{line_ends, line_stands, LineStands, as_first, mark_is, packets_stand, whole}

-- a test of lists one after the other
filter_flat : (p : Arrival → Bool) (f : ℕ → List Arrival) (is : List ℕ) →
    filter p (flat_map f is) ≡ flat_map (λ i. filter p (f i)) is
filter_flat p f [] = refl
filter_flat p f (i ∷ is) = grind (arith, common_steps, filter-append, filter_flat p f is)

-- what is left out of a line
left_early : (next : ℕ) (names : List Name) (line : List Arrival) →
    filter (λ a. nat_lt a.slot next && not (has_name names a)) line ≡ unnamed names (filter (is_between 0 next) line)
left_early next names [] = refl
left_early next names (a ∷ line) = grind (arith, common_steps, le-leb, left_early next names line)

module _ (limits : List (Option ℕ)) (next : ℕ) (came : List Arrival) (names : List Name) where
  -- what is left out at the inputs before this one
  unfoldable pub left_before : ℕ → List Arrival
  left_before n = flat_map (λ i. unnamed names (coming i 0 next came)) (range_with_len 0 n)

  left_more : (n : ℕ) → left_before (n + 1) ≡ left_before n ++ unnamed names (coming n 0 next came)
  unfolding left_before
  left_more n = grind (arith, common_steps, range_more, flat_map-append, append-nil)

  -- ## The counts

  -- the mark that the walk over an input leaves
  abbrev pub mark_at : ℕ → Option Bool
  mark_at i = mark_on (has_name names) (has_limit limits) false (coming i 0 next came)

  -- what is known before an input
  pub record Tallied (input : ℕ) (marks : List Bool) (refused : List Refused) : Type 0 where
    pub marked : map (λ (m : Bool). Some m) marks
        ≡ map mark_at (range_with_len 0 input)
    pub counted : refused ≡ with_refused (cells_in (left_before input)) (refused_counts limits [])

  pub tallied_first : Tallied 0 [] (refused_counts limits [])
  unfolding left_before
  tallied_first = record { marked = refl; counted = sym (none_counted (refused_counts limits [])) }

  module _ (ports : ℕ) (are : ArePackets ports came) where
    pub all_left_out : left_out next came names ≡ left_before ports
    unfolding left_before
    all_left_out = search (arith, rules, filter_flat, left_early)

    -- none is left out twice
    few_before : (n m : ℕ) → n + m ≡ ports → length (left_before n) ≤ length came
    few_before n zero all = grind (arith, common_steps, all_left_out, few_kept)
    few_before n (suc m) all = grind (arith, common_steps, left_more, length-append, few_before (n + 1) m)

    module _ (input : ℕ) (marks : List Bool) (refused : List Refused) (known : Tallied input marks refused)
        (inside : input < ports) (few : length came ≤ 2 ^ 34) where
      pub tally_fits : CanCount (length (coming input 0 next came)) refused
      tally_fits =
          let one = few_kept (λ (a : Arrival). leb 0 a.slot && ltb a.slot next) (filter (is_from input) came) in
          let two = few_kept (is_from input) came in
          let size = length-map (left_before input) (λ (a : Arrival). a.cell) in
          let least = few_before input (ports - input) (omega arith) in
          let fits = zero_fits (length (coming input 0 next came) + 2 ^ 34) limits (omega arith) in
          rw known.counted
          (counts_fit (cells_in (left_before input)) _ (2 ^ 34) (refused_counts limits []) fits (omega arith))

      pub tallied_more : (m : Bool) (marks' : List Bool) (refused' : List Refused) →
          Some m ≡ mark_on (has_name names) (has_limit limits) false (coming input 0 next came) →
          refused' ≡ with_refused (cells_in (unnamed names (coming input 0 next came))) refused →
          marks' ≡ marks ++ m ∷ [] → Tallied (input + 1) marks' refused'
      tallied_more m marks' refused' mark counts more =
          search (arith, rules, all_counted_both, map-range_with_len_more mark_at, map-append, left_more input)

-- ## All inputs

module _ (limits : List (Option ℕ)) (next : ℕ) (came : List Arrival) (names : List Name) (ports : ℕ)
    (are : ArePackets ports came) where
  -- one that stopped
  pub packet_fails : (input : ℕ) → input < ports → None ≡ mark_at limits next came names input →
      PacketsStand limits next came names → ⊥
  packet_fails input inside stops stand =
      search (rules, line_ends, whole limits ports next came names are, as_first limits ports next came names are stand)

  module _ (marks : List Bool) (refused : List Refused) (known : Tallied limits next came names ports marks
      refused) where
    many : length marks ≡ ports
    many = grind (arith, common_steps, length-map, length-map-range_with_len, mark_at)

    mark_there : (i : ℕ) → i < ports → mark_at limits next came names i ≡ Some (get_or marks i false)
    mark_there i inside =
        let there = get_or-map-range_with_len (mark_at limits next came names) 0 ports i i None in
        search (arith, rules, there, get_or-map, many)

    stands : (i : ℕ) → i < ports → LineStands limits ports next came names are i
    stands i inside = search (rules, line_stands, whole, mark_there)

    pub all_stand : PacketsStand limits next came names
    all_stand = packets_stand limits ports next came names are stands

    abbrev told : ℕ → Bool
    told i = is_left_out names next came (latest (firsts_before i next came))

    pub tallies_up : (x : Tally) → length limits ≡ ports → x.marks ≡ marks → x.refused ≡ refused →
        TalliesUp limits next came names x
    tallies_up x as_many own_marks own_counts =
        let low = fill_by_all told marks ports false many (λ k low. search (rules, mark_is, stands, mark_there)) in
        grind (arith, common_steps, low, counts_more limits [], all_left_out)
