-- States and texts stand one for one. What the lines of a text that is allowed tell is a state in range, and its
-- lines are those of the text. And who gathers what the lines of a state tell has the state again, so states with
-- the same lines are the same. From the front on: where a kind is due, the lines that lead to the end of the text begin
-- with those of this kind, each of which tells what its fields say, and what is behind them leads to the end from where
-- the next kind is due.
use Rattle.cq_state.proofs.Terms.{common_steps, ◌≡◌, ℕ, ◌+◌, false, List, [], ◌∷◌, ◌++◌, map, drop, Option, Some, refl, ap, sym, arith, rules, append_assoc, inl, inr, IsTrue, unwrap_or, AllByRecursion, append-nil, Transfer, Kind, Version, Next, Shape, Sum, Input, Rank, Listed, Buffered, Sent, Moved, End, Head, Seen, Named, State, Line, kinds, start, IsInRange, IsSeen, AreRankNumbers, IsNamed, IsSent, IsMoved, state_lines, state_text, numbered, input_line, rank_line, cell_line, sent_line, moved_line, added, gathered, nothing, number_at, seen_of, rank_of, named_of, sent_of, moved_of, ◌<◌, ◌≤◌, add-zero, length, ⊎_elim, ◌⊎◌, Within, is_free, needed, ranges, further, ports_behind, cell_numbers, with_shape, with_sum}
use Rattle.cq_state.proofs.Fields.{shape_told, seen_told, rank_told, named_told, sent_told, moved_told}
use Rattle.cq_state.proofs.OneReading.{state_is_exact}
use Rattle.cq_state.proofs.Written.{Completes, at, line_of, lines_are, plain, state_has_text}
use Rattle.cq_state.specs.declared.state.Sent as kept
use Rattle.cq_state.specs.OneText.{HaveOneText}

-- ## One line at a time

-- at the end of the text nothing is lacking, and nothing of the kinds behind the first that is due
ends : (k : Kind) (due : List Kind) (seen ports : ℕ) → Completes (at (k ∷ due) seen ports) [] →
    (needed ports k ≤ seen) × Completes (at due 0 ports) []
unfolding Completes
ends k due seen ports c = grind (arith, common_steps)

-- a line of the kind that is due first, or all of its lines stand there
record One (k : Kind) (due : List Kind) (seen ports : ℕ) (x : Line) (xs : List Line) : Type 0 where
  is : x ≡ line_of k x.fields
  room : IsTrue (is_free k) ⊎ (seen < needed ports k)
  within : Within (ranges ports seen k) (further k) x.fields
  rest : Completes (at (k ∷ due) (seen + 1) (ports_behind ports k x.fields)) xs

goes_on : (k : Kind) (due : List Kind) (seen ports : ℕ) (x : Line) (xs : List Line) →
    Completes (at (k ∷ due) seen ports) (x ∷ xs) →
    One k due seen ports x xs ⊎ ((needed ports k ≤ seen) × Completes (at due 0 ports) (x ∷ xs))
unfolding Completes
goes_on k due seen ports x xs c = search (arith, rules)

-- ## One line

module _ (k : Kind) (once : (ports : ℕ) → (is_free k ≡ false) × (needed ports k ≡ 1)) (due : List Kind) where
  no_more : (ports : ℕ) (xs : List Line) → Completes (at (k ∷ due) 1 ports) xs → Completes (at due 0 ports) xs
  no_more ports [] c = (ends k due 1 ports c).1
  no_more ports (x ∷ xs) c = grind (arith, common_steps, once ports, goes_on k due 1 ports x xs c)

  record OneTold (ports : ℕ) (xs : List Line) : Type 0 where
    fields : List (Option ℕ)
    behind : List Line
    is : xs ≡ line_of k fields ∷ behind
    within : Within (ranges ports 0 k) (further k) fields
    rest : Completes (at due 0 (ports_behind ports k fields)) behind

  one_told : (ports : ℕ) (xs : List Line) → Completes (at (k ∷ due) 0 ports) xs → OneTold ports xs
  one_told ports [] c = absurd (omega (arith, ends k due 0 ports c, once ports))
  one_told ports (x ∷ xs) c = grind (arith, common_steps, once ports, no_more, goes_on k due 0 ports x xs c)

-- ## Many lines

module _ {X : Type 0} (k : Kind) (due : List Kind) (ports : ℕ) (told : (fs : List (Option ℕ)) →
    ports_behind ports k fs ≡ ports) (fields : ℕ → X → List (Option ℕ)) (value : List (Option ℕ) → X) (Is : X → Type 0)
    (reads : (seen : ℕ) (fs : List (Option ℕ)) → Within (ranges ports seen k) (further k) fs →
    (fs ≡ fields seen (value fs)) × Is (value fs)) where
  abbrev line : ℕ → X → Line
  line i x = line_of k (fields i x)

  -- the lines of this kind, and those behind them
  record ManyTold (seen : ℕ) (xs : List Line) : Type 0 where
    values : List X
    behind : List Line
    is : xs ≡ numbered line seen values ++ behind
    in_range : AllByRecursion Is values
    enough : needed ports k ≤ seen + length values
    few : IsTrue (is_free k) ⊎ (seen + length values ≤ needed ports k)
    rest : Completes (at due 0 ports) behind

  none_told : (xs : List Line) (seen : ℕ) → IsTrue (is_free k) ⊎ (seen ≤ needed ports k) →
      (needed ports k ≤ seen) × Completes (at due 0 ports) xs → ManyTold seen xs
  none_told xs seen few later = search (arith, rules, add-zero)

  many_told : (xs : List Line) (seen : ℕ) → IsTrue (is_free k) ⊎ (seen ≤ needed ports k) →
      Completes (at (k ∷ due) seen ports) xs → ManyTold seen xs
  many_told [] seen few c = none_told [] seen few (ends k due seen ports c)
  many_told (x ∷ xs) seen few c = ⊎_elim (λ one.
      let reads_one = reads seen x.fields one.within in
      let rest = many_told xs (seen + 1) (grind (arith, common_steps)) (rw (told x.fields) at one.rest) in
      record {
        values = value x.fields ∷ rest.values;
        behind = rest.behind;
        is = cc (one.is, ap (line_of k) reads_one.0, rest.is);
        in_range = search rules;
        enough = omega arith;
        few = grind (arith, common_steps);
        rest = rest.rest;
      }) (none_told (x ∷ xs) seen few) (goes_on k due seen ports x xs c)

-- ## A state again

-- lines of one kind add their values at the end of one list
module _ {X : Type 0} (line : ℕ → X → Line) (put : State → List X → State) (Is : X → Type 0) (none : (s : State) →
    put s [] ≡ s) (more : (s : State) (x : X) (xs : List X) → put (put s (x ∷ [])) xs ≡ put s (x ∷ xs)) (one : (s :
    State) (n : ℕ) (x : X) → Is x → added (line n x).kind (line n x).fields s ≡ put s (x ∷ [])) where
  part_adds : (xs : List X) (n : ℕ) (s : State) (rest : List Line) → AllByRecursion Is xs →
      gathered s (numbered line n xs ++ rest) ≡ gathered (put s xs) rest
  part_adds [] n s rest all = ap (λ t. gathered t rest) (sym (none s))
  part_adds (x ∷ xs) n s rest all = grind (arith, common_steps, part_adds xs (n + 1) (put s (x ∷ [])) rest all.1)

-- the state of these parts
abbrev pub of_parts : Head → List Seen → List (List ℕ) → List Named → List Named → List kept.Sent → List Transfer →
    State
of_parts head seen ranks listed held sent moved =
    record { head = head; inputs = seen; ranks = ranks; listed = listed; buffered = held; sent = sent; moved = moved }

same_numbers : (ns : List ℕ) → map (λ f. unwrap_or f 0) (map Some ns) ≡ ns
same_numbers [] = refl
same_numbers (n ∷ ns) = ap (λ ms. n ∷ ms) (same_numbers ns)

pub state_again : (s : State) → IsInRange s → gathered nothing (state_lines s) ≡ s
state_again s is =
    let named = IsNamed s.head.ports in
    let inputs = part_adds input_line (λ t xs. record t { inputs = t.inputs ++ xs }) IsSeen in
    let ranks = part_adds rank_line (λ t xs. record t { ranks = t.ranks ++ xs }) AreRankNumbers in
    let listed = part_adds (plain (cell_line Listed)) (λ t xs. record t { listed = t.listed ++ xs }) named in
    let buffered = part_adds (plain (cell_line Buffered)) (λ t xs. record t { buffered = t.buffered ++ xs }) named in
    let sent = part_adds (plain sent_line) (λ t xs. record t { sent = t.sent ++ xs }) (IsSent s.head.ports) in
    let moved = part_adds (plain moved_line) (λ t xs. record t { moved = t.moved ++ xs }) (IsMoved s.head.ports) in
    search (arith, rules, lines_are, append-nil, append_assoc, same_numbers)

-- ## What a text tells

nothing_behind : (ports : ℕ) (xs : List Line) → Completes (at [] 0 ports) xs → xs ≡ []
unfolding Completes
nothing_behind ports [] c = refl
nothing_behind ports (x ∷ xs) c = absurd c.1.1

pub each_told : (xs : List Line) → Completes start xs → (s : State) × IsInRange s × (xs ≡ state_lines s)
each_told xs c =
    let version = one_told Version (λ _. (refl, refl)) (drop 1 kinds) 0 xs c in
    let next = one_told Next (λ _. (refl, refl)) (drop 2 kinds) 0 version.behind version.rest in
    let shape = one_told Shape (λ _. (refl, refl)) (drop 3 kinds) 0 next.behind next.rest in
    let ports : ℕ = number_at shape.fields 0 in
    let sum = one_told Sum (λ _. (refl, refl)) (drop 4 kinds) ports shape.behind shape.rest in
    let is_shape = shape_told shape.fields shape.within in
    let some = is_shape.ports.0 in
    let inputs = many_told Input (drop 5 kinds) ports (λ _. refl) (λ i x. (input_line i x).fields) seen_of IsSeen
    seen_told sum.behind 0 (inr (omega arith)) sum.rest in
    let ranks = many_told Rank (drop 6 kinds) ports (λ _. refl) (λ j ns. (rank_line j ns).fields) rank_of AreRankNumbers
    rank_told inputs.behind 0 (inr (omega arith)) inputs.rest in
    let cell = λ (_ : ℕ) (c : Named). map Some (cell_numbers c) in
    let listed = many_told Listed (drop 7 kinds) ports (λ _. refl) cell (λ fs. named_of fs 0) (IsNamed ports)
    (λ _ fs. named_told ports fs some) ranks.behind 0 (inl refl) ranks.rest in
    let buffered = many_told Buffered (drop 8 kinds) ports (λ _. refl) cell (λ fs. named_of fs 0) (IsNamed ports)
    (λ _ fs. named_told ports fs some) listed.behind 0 (inl refl) listed.rest in
    let sent = many_told Sent (drop 9 kinds) ports (λ _. refl) (λ _ d. (sent_line d).fields) sent_of (IsSent ports)
    (λ _ fs. sent_told ports fs some) buffered.behind 0 (inl refl) buffered.rest in
    let moved = many_told Moved (drop 10 kinds) ports (λ _. refl) (λ _ t. (moved_line t).fields) moved_of
    (IsMoved ports) (λ _ fs. moved_told ports fs some) sent.behind 0 (inl refl) sent.rest in
    let end = one_told End (λ _. (refl, refl)) [] ports moved.behind moved.rest in
    let none : moved.behind ≡ line_of End end.fields ∷ [] = rw (nothing_behind ports end.behind end.rest) at end.is in
    let head : Head = with_sum (with_shape ((added Next next.fields nothing).head) shape.fields) sum.fields in
    let s : State = of_parts head inputs.values ranks.values listed.values buffered.values sent.values moved.values in
    (s, search rules, rw lines_are (grind (arith, common_steps)))

-- ## One for one

pub have_one_text : HaveOneText
unfolding Completes
have_one_text = record {
  allowed = state_has_text;
  one_state = λ s t is_s is_t e.
      let same = state_is_exact.one_reading (state_lines s) (state_lines t) (state_text s) (state_has_text s is_s)
      (rw e (state_has_text t is_t)) in cc (state_again s is_s, state_again t is_t);
  each_told = λ xs text f. each_told xs (f.last, f.allowed, f.ended);
}
