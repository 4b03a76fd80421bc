-- What is admitted at an input are whole packets. Only the first cell of a packet moves the mark of its input, so
-- what became of it becomes of all its cells. Where the cells are those of packets of rising numbers, the admitted
-- ones are by induction all cells of some of the packets, and the refused ones all cells of the others: the packet
-- that goes on is admitted where the mark is down, and for the rest the first cell of the next one decides.
use Rattle.cq_ideal.proofs.Terms.{suc, rules, ◌≡◌, ℕ, ◌+◌, ◌≤◌, Bool, false, cond, not, List, [], ◌∷◌, filter, Option, Some, None, refl, ap, ⊎_elim, arith, common_steps, nat_lt, cons_option, cond-false, lt-ltb, le-ltb, Cell, arrival_at, Admission, admitted_in, is_first, mark_after, held_after, marks_after, mark_at, unless, where_up, AreJudged, AreOfPackets, AreWholePackets, cells_at}
use Rattle.cq_ideal.proofs.Admitted.{admitted_at, its_marks}

-- ## The mark of one input

-- no first cell arrives
abbrev GoesOn : Option Cell → Type 0
GoesOn None = Unit {0}
GoesOn (Some cell) = is_first cell ≡ false

mark_stays : (limits : List (Option ℕ)) (held : List ℕ) (marks : List Bool) (cells : List (Option Cell)) (i : ℕ) →
    GoesOn (arrival_at cells i) → mark_at (marks_after limits held marks cells) i ≡ mark_at marks i
mark_stays limits held (mark ∷ marks) (cell ∷ cells) (suc i) on =
    mark_stays limits (held_after (mark_after limits held mark cell) held cell) marks cells i on
mark_stays limits held marks cells i on = grind (arith, common_steps, cond-false)

-- ## The cells of one input

-- Of the cells these are taken, all of some packets, and all of the others are refused. The packet that goes on is
-- taken exactly where its mark is down.
pub record TakenOrRefused (next : ℕ) (mark : Bool) (came taken refused : List Cell) : Type 0 where
  pub is_taken : ℕ → Bool
  pub before : (packet : ℕ) → packet + 1 ≡ next → is_taken packet ≡ not mark
  pub are : taken ≡ filter (λ cell. is_taken cell.id.packet) came
  pub others : refused ≡ filter (λ cell. not (is_taken cell.id.packet)) came

-- what is said of the packets below some number is said of none from this cell on
beyond : (t : Bool → Bool) (b : Bool) (f : ℕ → Bool) (n : ℕ) (cell : Cell) (came : List Cell) → n ≤ cell.id.packet →
    AreOfPackets (cell.id.packet + 1) came → filter (λ c. t (f c.id.packet)) (cell ∷ came)
    ≡ filter (λ c. t (cond (nat_lt c.id.packet n) b (f c.id.packet))) (cell ∷ came)
beyond t b f n cell [] le are = grind (arith, common_steps, cond-false, le-ltb)
beyond t b f n cell (c ∷ came) le are = grind (arith, common_steps, cond-false, le-ltb, beyond t b f n c came)

step : (next : ℕ) (mark up : Bool) (x : Option Cell) (came taken refused : List Cell) → (GoesOn x → up ≡ mark) →
    AreOfPackets next (cons_option x came) → ((n : ℕ) → AreOfPackets n came → TakenOrRefused n up came taken refused) →
    TakenOrRefused next mark (cons_option x came) (cons_option (unless up x) taken)
    (cons_option (where_up up x) refused)
step next mark up None came taken refused same are rest = grind (arith, common_steps)
step next mark up (Some cell) came taken refused same are rest =
    let r = rest (cell.id.packet + 1) are.1 in
    let f = r.is_taken in
    ⊎_elim (λ on. search (arith, rules)) (λ new. record {
      is_taken = λ n. cond (nat_lt n next) (not mark) (f n);
      before = λ packet e. ap (λ (b : Bool). cond b (not mark) (f packet)) (lt-ltb packet next (omega arith));
      are = grind (arith, common_steps, beyond (λ b. b) (not mark) f next cell came new.0 are.1);
      others = grind (arith, common_steps, beyond not (not mark) f next cell came new.0 are.1);
    }) are.0

-- ## Slot by slot

module _ (limits : List (Option ℕ)) (i : ℕ) where
  -- the cells that are refused at the input
  abbrev pub refused_here : List (List (Option Cell)) → List Admission → List Cell
  refused_here [] admissions = []
  refused_here (cells ∷ traffic) [] = []
  refused_here (cells ∷ traffic) (a ∷ admissions) =
      cons_option (where_up (mark_at a.marks i) (arrival_at cells i)) (refused_here traffic admissions)

  pub taken_or_refused : (next : ℕ) (marks : List Bool) (traffic : List (List (Option Cell)))
      (admissions : List Admission) → AreJudged limits marks traffic admissions →
      AreOfPackets next (cells_at i traffic) →
      TakenOrRefused next (mark_at marks i) (cells_at i traffic) (cells_at i (admitted_in admissions))
      (refused_here traffic admissions)
  taken_or_refused next marks [] [] judged are =
      record { is_taken = λ _. not (mark_at marks i); before = λ packet e. refl; are = refl; others = refl }
  taken_or_refused next marks (cells ∷ traffic) (a ∷ admissions) judged are =
      let by = its_marks limits marks cells a judged.0 in
      let rest = λ (n : ℕ). taken_or_refused n a.marks traffic admissions judged.1 in
      let one = step next (mark_at marks i) (mark_at a.marks i) (arrival_at cells i) (cells_at i traffic) in
      search (arith, rules, admitted_at, one, mark_stays, rest)
  taken_or_refused next marks traffic admissions judged are = absurd judged

  pub whole_packets : (marks : List Bool) (traffic : List (List (Option Cell))) (admissions : List Admission) →
      AreJudged limits marks traffic admissions → AreOfPackets 0 (cells_at i traffic) →
      AreWholePackets (cells_at i traffic) (cells_at i (admitted_in admissions))
  whole_packets marks traffic admissions judged are = grind (arith, common_steps, taken_or_refused)
