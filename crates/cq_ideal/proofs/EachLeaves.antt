-- Every packet leaves or is refused, once, and none is refused at an output without a limit. Over as many slots as
-- are enough the cells that come to an input are its arrivals, and of these the packets that are taken leave flow by
-- flow, while all cells of the others are refused. The whole run sends and refuses the same. So with a cell the first
-- one of its packet is refused. That found its output full, which an output without a limit never is.
use Rattle.cq_ideal.proofs.Terms.{rules, ◌≡◌, ℕ, ◌+◌, Bool, not, true, List, [], ◌∷◌, Option, None, Ok, ap, ⊎_elim, arith, common_steps, ◌==◌, slice_index_or, AllByRecursion, cases_lt, eq-eqb, eqb-true, ne_eqb, Cell, Arrival, Admission, admission, held_after, is_first, mark_after, marks_after, refused, departures_of, IsRunnable, LimitedRan, whole_limited_run, empty_limited, cells_refused, refused_in, AreJudged, AreOfPackets, came_at, all_weaker, filter_none, all_both, Has, all_from_has, all_of_has, has_kept, kept_has, image_has, pair_of_has, each_pair, Machine, ◌⊎◌, length}
use Rattle.cq_ideal.specs.EachOnce.{EachLeavesOrIsRefused, KeepTheirOutput, LeaveOrAreRefused, RefusesNoneElsewhere}
use Rattle.cq_ideal.proofs.AtInput.{all_in_order, of_input}
use Rattle.cq_ideal.proofs.FlowLaw.{in_packets}
use Rattle.cq_ideal.proofs.LimitedEnds.{limited_not_more, settled}
use Rattle.cq_ideal.proofs.Parted.{all_slots}
use Rattle.cq_ideal.proofs.LimitedRuns.{judged}

-- ## Each packet

module _ (limits : List (Option ℕ)) (ms : List Machine) (ports : ℕ) (openings : List (List ℕ)) (came : List Arrival)
    (ran : LimitedRan) (runs : IsRunnable ms ports openings came)
    (is : whole_limited_run limits ms came (empty_limited ports openings) ≡ Ok ran) where
  leave_at : (i : ℕ) → AreOfPackets 0 (came_at i came) →
      LeaveOrAreRefused came (departures_of 0 ran.gone) (refused_in ran.admissions) i
  unfolding whole_limited_run
  leave_at i packets =
      let same = settled limits ms ports openings came _ (Ok ran) (limited_not_more limits ms ports openings came) is in
      search (arith, rules, in_packets, all_slots came, of_input, all_in_order runs i)

pub each_leaves_or_is_refused : EachLeavesOrIsRefused
each_leaves_or_is_refused limits ms ports openings came ran runs is i inside packets = search (arith, rules, leave_at)

-- ## The cells of one packet

-- the first one is among them, but for the packet that goes on
first_of : (next : ℕ) (cells : List Cell) (cell : Cell) → AreOfPackets next cells → Has cells cell →
    (cell.id.packet + 1 ≡ next)
    ⊎ ((first : Cell) × Has cells first × (first.id.packet ≡ cell.id.packet) × (is_first first ≡ true))
first_of next [] cell are has = absurd has
first_of next (c ∷ cells) cell are has = grind (arith, common_steps, first_of (c.id.packet + 1) cells cell are.1)

-- they are for one output
one_output : (came : List Arrival) → KeepTheirOutput came → (i : ℕ) (a b : Cell) → Has (came_at i came) a →
    Has (came_at i came) b → a.id.packet ≡ b.id.packet → a.output ≡ b.output
one_output came keep i a b has_a has_b same =
    let Same = λ (x y : Arrival). x.cell.id.input ≡ y.cell.id.input → x.cell.id.packet ≡ y.cell.id.packet →
    x.cell.output ≡ y.cell.output in
    search (arith, rules, eqb-true, image_has, pair_of_has Same came, kept_has, each_pair Same came keep)

-- ## At an output without a limit

module _ (limits : List (Option ℕ)) (j : ℕ) (none : slice_index_or limits j None ≡ None) where
  -- it is no first cell, or it is for another output
  abbrev Elsewhere : Cell → Type 0
  Elsewhere cell = is_first cell ≡ true → cell.output ≡ j → ⊥

  -- in a slot: where a first cell puts a mark up its output is full
  first_elsewhere : (held : List ℕ) (marks : List Bool) (cells : List (Option Cell)) →
      AllByRecursion Elsewhere (refused (marks_after limits held marks cells) cells)
  first_elsewhere held (mark ∷ marks) (x ∷ cells) =
      grind (arith, common_steps, first_elsewhere (held_after (mark_after limits held mark x) held x) marks cells)
  first_elsewhere held marks cells = tt

  firsts_elsewhere : (marks : List Bool) (traffic : List (List (Option Cell))) (admissions : List Admission) →
      AreJudged limits marks traffic admissions → AllByRecursion Elsewhere (refused_in admissions)
  unfolding admission
  firsts_elsewhere marks (cells ∷ traffic) (a ∷ admissions) judged =
      grind (arith, common_steps, all_both, first_elsewhere judged.0.0 marks cells, firsts_elsewhere a.marks traffic)
  firsts_elsewhere marks traffic admissions judged = grind (arith, common_steps)

pub refuses_none_elsewhere : RefusesNoneElsewhere
unfolding whole_limited_run cells_refused
refuses_none_elsewhere limits ms ports openings came ran j runs keep packets is none =
    let gone = refused_in ran.admissions in
    let firsts = firsts_elsewhere limits j none _ _ _ (judged limits ms 0 _ (empty_limited ports openings) ran is) in
    ap length (filter_none (λ (cell : Cell). cell.output == j) gone (all_from_has _ gone (λ cell has.
    ne_eqb cell.output j (λ to.
    let i = cell.id.input in
    let of_packets = ⊎_elim (packets i) (search (arith, rules, filter_none, all_weaker, ne_eqb)) (cases_lt i _) in
    let whole = leave_at limits ms ports openings came ran runs is i of_packets in
    let others : Cell → Bool = λ c. not (whole.is_taken c.id.packet) in
    let its = kept_has others (came_at i came) cell (search (arith, rules, has_kept, eq-eqb)) in
    let first = first_of 0 (came_at i came) cell of_packets its.0 in
    search (arith, rules, has_kept others (came_at i came), kept_has, all_of_has, one_output)))))

pub ruleset leave_or_refuse_steps = (each_leaves_or_is_refused, refuses_none_elsewhere)
