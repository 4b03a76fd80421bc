-- The lines of a state make a text of a state. From the end back: the last line completes the text where it is due. A
-- part of the text comes where its kind is due, behind so many lines of it, if what stands behind the part completes
-- the text from there on. And where a kind has all its lines, what completes the text where the next kind is due does
-- so here.
use Rattle.cq_state.proofs.Terms.{common_steps, rules, ◌≡◌, ℕ, ◌+◌, ◌<◌, ◌≤◌, List, [], ◌∷◌, ◌++◌, length, map, refl, sym, subst, arith, lit≤, inr, AllByRecursion, Within, Kind, Input, Rank, Listed, Buffered, Sent, Moved, End, State, Line, Place, Comes, HasRoom, MayEnd, needed, ranges, further, ports_behind, start, IsStateText, IsInRange, state_lines, state_text, numbers, numbered, input_line, rank_line, cell_line, sent_line, moved_line, all_weaker, Option, ap, head_lines}
use Rattle.cq_lines.specs.Texts.{Leads}
use Rattle.cq_state.proofs.Fields.{fits_within, named_fits, rank_within, seen_within}

abbrev pub line_of : Kind → List (Option ℕ) → Line
line_of k fs = record { kind = k; fields = fs }

abbrev pub at : List Kind → ℕ → ℕ → Place
at due seen ports = record { due = due; seen = seen; ports = ports }

-- these lines lead from a place to the end of the text
unfoldable pub Completes : Place → List Line → Type 0
Completes p xs = (q : Place) × Leads Comes p xs q × MayEnd q

skip : (k : Kind) (due : List Kind) (seen ports : ℕ) (xs : List Line) → needed ports k ≤ seen →
    Completes (at due 0 ports) xs → Completes (at (k ∷ due) seen ports) xs
unfolding Completes
skip k due seen ports [] enough c = (at (k ∷ due) seen ports, refl, (enough, subst MayEnd (sym c.1) c.2))
skip k due seen ports (x ∷ xs) enough c = (c.0, (c.1.0, inr (enough, c.1.1), c.1.2), c.2)

one_more : (k : Kind) (due : List Kind) (seen ports ports_next : ℕ) (x : Line) (xs : List Line) → x.kind ≡ k →
    HasRoom ports k seen → Within (ranges ports seen k) (further k) x.fields →
    ports_next ≡ ports_behind ports k x.fields → Completes (at (k ∷ due) (seen + 1) ports_next) xs →
    Completes (at (k ∷ due) seen ports) (x ∷ xs)
unfolding Completes
one_more k due seen ports ports_next x xs own room within told c = grind (arith, common_steps)

-- a part of lines of one kind
part : {X : Type 0} (k : Kind) (due : List Kind) (ports : ℕ) (line : ℕ → X → Line) (own : (i : ℕ) (x : X) →
    (line i x).kind ≡ k) (told : (i : ℕ) (x : X) → ports ≡ ports_behind ports k (line i x).fields) (xs : List X)
    (rest : List Line) (n ends : ℕ) → ends ≡ n + length xs → ((i : ℕ) → i < ends → HasRoom ports k i) →
    ((i : ℕ) → i < ends → AllByRecursion (λ x. Within (ranges ports i k) (further k) (line i x).fields) xs) →
    Completes (at (k ∷ due) ends ports) rest → Completes (at (k ∷ due) n ports) (numbered line n xs ++ rest)
part k due ports line own told [] rest n ends size room all after = grind (arith, common_steps)
part k due ports line own told (x ∷ xs) rest n ends size room all after =
    one_more k due n ports ports (line n x) _ (own n x) (room n (omega arith)) (all n (omega arith)).0 (told n x)
    (part k due ports line own told xs rest (n + 1) ends (omega arith) room (λ i low. (all i low).1) after)

-- lines without numbers are counted all the same
abbrev pub plain : {X : Type 0} → (X → Line) → ℕ → X → Line
plain line n x = line x

pub map_numbered : {X : Type 0} (line : X → Line) (n : ℕ) (xs : List X) → map line xs ≡ numbered (plain line) n xs
map_numbered line n [] = refl
map_numbered line n (x ∷ xs) = ap (λ ls. line x ∷ ls) (map_numbered line (n + 1) xs)

-- the lines from a part on
abbrev from_listed : State → List Line
from_listed s = numbered (plain (cell_line Listed)) 0 s.listed ++ (numbered (plain (cell_line Buffered)) 0 s.buffered
    ++ (numbered (plain sent_line) 0 s.sent ++ (numbered (plain moved_line) 0 s.moved ++ numbers End [] ∷ [])))

abbrev from_ranks : State → List Line
from_ranks s = numbered rank_line 0 s.ranks ++ from_listed s

pub lines_are : (s : State) → state_lines s ≡ head_lines s.head ++ (numbered input_line 0 s.inputs ++ from_ranks s)
unfolding state_lines
lines_are s = search (rules, map_numbered)

module _ (s : State) (is : IsInRange s) where
  few : s.head.ports ≤ 64
  few = is.head.ports.1

  end_due : Completes (at (End ∷ []) 0 s.head.ports) (numbers End [] ∷ [])
  unfolding Completes
  end_due = one_more End [] 0 s.head.ports s.head.ports (numbers End []) [] refl (inr (lit≤ tt))
      (fits_within [] [] tt) refl (at (End ∷ []) 1 s.head.ports, refl, (lit≤ tt, tt))

  listed_due : Completes (at (Listed ∷ Buffered ∷ Sent ∷ Moved ∷ End ∷ []) 0 s.head.ports) (from_listed s)
  listed_due = search (arith, rules, skip, part, all_weaker, fits_within, named_fits, few, end_due)

  ranks_due : Completes (at (Rank ∷ Listed ∷ Buffered ∷ Sent ∷ Moved ∷ End ∷ []) 0 s.head.ports) (from_ranks s)
  ranks_due = part Rank _ s.head.ports rank_line (λ _ _. refl) (λ _ _. refl) s.ranks _ 0 s.head.ports
      (let told = is.outputs_told in omega arith) (λ i low. inr low)
      (λ j low. all_weaker _ _ (λ ns. rank_within j ns (let most = few in omega arith)) s.ranks is.ranks)
      (skip Rank _ s.head.ports s.head.ports _ (omega arith) listed_due)

  inputs_due : Completes (at (Input ∷ Rank ∷ Listed ∷ Buffered ∷ Sent ∷ Moved ∷ End ∷ []) 0 s.head.ports)
      (numbered input_line 0 s.inputs ++ from_ranks s)
  inputs_due = search (arith, rules, part, all_weaker, seen_within, few, skip, ranks_due, is.inputs_told)

  whole : Completes start (state_lines s)
  whole = rw lines_are (search (arith, rules, one_more, skip, inputs_due, fits_within))

-- the text of a state in range is that of its lines
pub state_has_text : (s : State) → IsInRange s → IsStateText (state_lines s) (state_text s)
unfolding Completes
state_has_text s is = let w = whole s is in record { last = w.0; allowed = w.1; ended = w.2; spelled = refl }
