-- Counts of what is refused. A count over two lists is the sum of the counts over each, so counts add up slot by
-- slot, output by output. And an arriving cell is admitted or refused by the mark of its input, so it is counted
-- once. A limiter walks over the inputs. Refused cells are counted one after another: what is counted so far, with
-- those that are still to be counted, is what is counted in all; and a count grows by one at most with each. Arrivals
-- are judged one after another: the marks so far, and then those of judging what is left, are those of judging all; and
-- what the outputs hold so far, with what is still to be admitted, is what they hold at the end.
use Rattle.cq_ideal.proofs.Terms.{drop_more, drop_all, common_steps, ◌≡◌, ℕ, ◌+◌, Bool, List, [], ◌∷◌, ◌++◌, Option, refl, append_assoc, arith, enumerate_from, filter_map, option_map, append-nil, length-append, filter-append, Cell, Refused, admitted, refused, count_for, AreAllZero, cells_refused, packets_refused, refused_at, refused_counts, with_refused, rules, zero, suc, ◌-◌, ◌<◌, ◌≤◌, ◌^◌, eqb, true, false, cond, length, drop, get_or, set, Some, None, All-from_recursion, get_or-map, length-map, is_first, CanCount, HasPorts, LimiterView, with_cells, take, get_or-set_same, get_or-set_other, cases_Bool, eqb-true, eq-eqb, set-get_or, take_all, marks_after, ComeToPorts, all_weaker, few_kept}
use Rattle.cq_ideal.specs.Taking.{HasJudged}
use Rattle.cq_ideal.proofs.Changed.{at_place, changed_to, next_place}
use Rattle.std.proofs.lemmas.Bool.Decides.{nat_tests}
use Rattle.cq_ideal.proofs.Came.{from_input, none_beyond}

-- ## Two lists of refused cells

-- the counts from output j on
abbrev pub counts_from : ℕ → List (Option ℕ) → List Cell → List Refused
counts_from j limits cells = filter_map (λ at. option_map (refused_at cells at.0) at.1) (enumerate_from j limits)

more_from : (j : ℕ) (limits : List (Option ℕ)) (before now : List Cell) →
    counts_from j limits (before ++ now) ≡ with_refused now (counts_from j limits before)
unfolding cells_refused packets_refused
more_from j [] before now = refl
more_from j (o ∷ limits) before now =
    grind (arith, common_steps, filter-append, length-append, more_from (j + 1) limits before now)

pub counts_more : (limits : List (Option ℕ)) (before now : List Cell) →
    refused_counts limits (before ++ now) ≡ with_refused now (refused_counts limits before)
unfolding refused_counts
counts_more limits before now = more_from 0 limits before now

pub zero_from : (j : ℕ) (limits : List (Option ℕ)) → AreAllZero (counts_from j limits [])
unfolding cells_refused packets_refused
zero_from j [] = tt
zero_from j (o ∷ limits) = grind (arith, common_steps, zero_from (j + 1) limits)

-- ## Each cell once

pub each_once : (j : ℕ) (marks : List Bool) (cells : List (Option Cell)) →
    count_for j cells ≡ count_for j (admitted marks cells) + cells_refused j (refused marks cells)
unfolding cells_refused
each_once j (mark ∷ marks) (cell ∷ cells) = grind (arith, common_steps, each_once j marks cells)
each_once j marks cells = omega arith

-- ## One cell

abbrev pub one_if : Bool → ℕ
one_if b = cond b 1 0

-- the counts of a cell that is for this output
pub this_output : (r : Refused) (cell : Cell) (first : ℕ) → eqb cell.output r.output ≡ true →
    first ≡ one_if (is_first cell) →
    record { output = r.output; limit = r.limit; packets = r.packets + first; cells = r.cells + 1 }
    ≡ with_cells (cell ∷ []) r
unfolding cells_refused packets_refused
this_output r cell first same is = grind (arith, common_steps)

-- the counts of another output
pub other_output : (r : Refused) (cell : Cell) → eqb cell.output r.output ≡ false → with_cells (cell ∷ []) r ≡ r
unfolding cells_refused packets_refused
other_output r cell other = grind (arith, common_steps)

pub ruleset add_cell_steps = (this_output, other_output, nat_tests)

-- the counts that have room for so many cells more have it for these: no more are counted at an output than there are
pub counts_fit : (cells : List Cell) (n m : ℕ) (counts : List Refused) → CanCount (n + m) counts → length cells ≤ m →
    CanCount n (with_refused cells counts)
unfolding cells_refused packets_refused
counts_fit cells n m counts can few k d inside =
    search (arith, rules, length-map, get_or-map (with_cells cells) counts k d d, few_kept)

pub fewer_left : (n m : ℕ) (counts : List Refused) → CanCount m counts → n ≤ m → CanCount n counts
fewer_left n m counts can le k d inside = grind (arith, common_steps)

-- ## The counts one after another

module _ (cell : Cell) (first : List Refused) (place : ℕ) (now : List Refused)
    (so_far : now ≡ changed_to (with_refused (cell ∷ []) first) first place) (inside : place < length first) where
  pub can_count_here : (d : Refused) → CanCount 1 first →
      ((get_or now place d).packets + 1 < 2 ^ 64) × ((get_or now place d).cells + 1 < 2 ^ 64)
  can_count_here d can = grind (arith, common_steps, at_place, length-map)

  pub tallied_next : (d after : Refused) → after ≡ with_cells (cell ∷ []) (get_or now place d) →
      set now place after ≡ changed_to (with_refused (cell ∷ []) first) first (place + 1)
  tallied_next d after is =
      let all = with_refused (cell ∷ []) first in
      let here : after ≡ get_or all place d = search (arith, rules, common_steps, at_place, length-map, get_or-map) in
      search (arith, rules, next_place all first place after d, length-map)

-- ## Cells one after another

pub all_counted_both : (before now : List Cell) (counts : List Refused) →
    with_refused (before ++ now) counts ≡ with_refused now (with_refused before counts)
unfolding cells_refused packets_refused
all_counted_both before now [] = refl
all_counted_both before now (r ∷ counts) =
    search (arith, rules, filter-append, length-append, all_counted_both before now counts)

pub none_counted : (counts : List Refused) → with_refused [] counts ≡ counts
unfolding cells_refused packets_refused
none_counted [] = refl
none_counted (r ∷ counts) = grind (arith, common_steps, none_counted counts)

-- where nothing was refused yet there is room for many
pub zero_fits : (n : ℕ) (limits : List (Option ℕ)) → n < 2 ^ 64 → CanCount n (refused_counts limits [])
unfolding refused_counts
zero_fits n limits few = search (arith, rules, All-from_recursion, all_weaker, zero_from 0 limits)

-- ## Arrivals that are judged

-- how many cells will have been admitted for output j
abbrev to_admit : ℕ → List (Option ℕ) → List ℕ → List Bool → List (Option Cell) → ℕ
to_admit j limits held marks cells = count_for j (admitted (marks_after limits held marks cells) cells)

pub record Judging (cells : List (Option Cell)) (first : LimiterView) (input : ℕ) (now : LimiterView) : Type 0 where
  pub limits : now.limits ≡ first.limits
  pub refused : now.refused ≡ first.refused
  pub inputs : length now.marks ≡ length first.marks
  pub outputs : length now.held ≡ length first.held
  pub judged :
      take input now.marks ++ marks_after first.limits now.held (drop input now.marks) (drop input cells)
      ≡ marks_after first.limits first.held first.marks cells
  pub held : (j : ℕ) → get_or now.held j 0 + to_admit j first.limits now.held (drop input now.marks) (drop input cells)
      ≡ get_or first.held j 0 + to_admit j first.limits first.held first.marks cells
  pub few : (j : ℕ) →
      get_or now.held j 0 + count_for j (drop input cells) ≤ get_or first.held j 0 + count_for j cells

-- what an output holds grows by one where the cell is for it
pub raised : (held : List ℕ) (o j : ℕ) → o < length held →
    get_or (set held o (get_or held o 0 + 1)) j 0 ≡ get_or held j 0 + one_if (eqb o j)
raised held o j inside = grind (arith, common_steps, cases_Bool, eqb-true, get_or-set_same, get_or-set_other, eq-eqb)

none_to_count : (j : ℕ) (cells : List (Option Cell)) → ((k : ℕ) (c : Cell) → get_or cells k None ≡ Some c → ⊥) →
    count_for j cells ≡ 0
none_to_count j [] none = refl
none_to_count j (c ∷ cells) none = grind (arith, common_steps, none zero, none_to_count j cells (λ k. none (suc k)))

module _ {cells : List (Option Cell)} {first : LimiterView} {input : ℕ} {now : LimiterView}
    (so_far : Judging cells first input now) where
  -- there is a number to spare for a cell that arrives
  pub one_more_fits : (c : Cell) (most : ℕ) → drop input cells ≡ Some c ∷ drop (input + 1) cells →
      get_or first.held c.output 0 + count_for c.output cells < most → get_or now.held c.output 0 + 1 < most
  one_more_fits c most here few = grind (arith, common_steps, so_far.few, eq-eqb)

  -- after all arrivals
  pub judged_last : HasPorts first → ComeToPorts (length first.limits) cells → length first.limits ≤ input →
      HasJudged cells first now
  judged_last has come past =
      search (arith, rules, drop_all, take_all, append-nil, none_to_count, none_beyond _ input cells come.inputs past)

-- what an input with no arrival changes: nothing
pub ruleset turn_steps = (set-get_or, cases_Bool)

pub ruleset judge_steps = (judged_last, one_more_fits, from_input)

pub ruleset count_steps = (fewer_left, none_counted, drop_more, drop_all, append_assoc, append-nil)
