-- How many cells each output holds, counted in one walk over the lists: at first those of the buffers, and of each
-- list those for the output more.
use Rattle.cq_engine.proofs.Terms.{common_steps, rules, ◌≡◌, ℕ, ◌+◌, ◌<◌, ◌≤◌, List, [], ◌∷◌, ◌++◌, length, map, get_or, set, take, sym, ◌∙◌, arith, All, filter, cond_both, eq-eqb, ne_eqb, ext_get_or, get_or-map, get_or-set_other, get_or-set_same, length-map, take_all, take_more, slice_get-get_or, Queued, is_for, list_of, Fabric, IsAmong, buffer, input, fabric_held, waiting_for, held_at, held_long, has_there, filter-append, length-append, length-set}
use Rattle.cq_laws.proofs.Cushions.{bit, bit_false, bit_true}

-- how many of the cells are for output j
abbrev pub number_for : ℕ → List Queued → ℕ
number_for j cells = length (filter (is_for j) cells)

-- ## One list

-- the cells before a place are counted
abbrev pub AreCounted : List ℕ → List ℕ → List Queued → Type 0
AreCounted old held cells = (j : ℕ) → j < length old → get_or held j 0 ≡ get_or old j 0 + number_for j cells

module _ (old held : List ℕ) (cells : List Queued) (at : ℕ) (inside : at < length cells) (d : Queued)
    (so_far : AreCounted old held (take at cells)) (there : (get_or cells at d).cell.output < length old) where
  one_more : (j : ℕ) →
      number_for j (take (at + 1) cells) ≡ number_for j (take at cells) + bit (is_for j (get_or cells at d))
  one_more j = grind (arith, common_steps, take_more, filter-append, length-append, cond_both, bit, bit_true, bit_false)

  pub count_next : (new : List ℕ) → length held ≡ length old →
      new ≡ set held (get_or cells at d).cell.output (get_or held (get_or cells at d).cell.output 0 + 1) →
      AreCounted old new (take (at + 1) cells)
  count_next new same is j below =
      grind (arith, common_steps, one_more, get_or-set_same, get_or-set_other, eq-eqb, ne_eqb)

-- ## All lists

waiting_push : (j : ℕ) (lists : List (List Queued)) (cells : List Queued) →
    waiting_for j (lists ++ cells ∷ []) ≡ waiting_for j lists + number_for j cells
waiting_push j [] cells = omega arith
waiting_push j (x ∷ lists) cells = omega (arith, waiting_push j lists cells)

-- the buffers and the lists before an input are counted
pub record HeldSoFar (f : Fabric) (i : ℕ) (held : List ℕ) : Type 0 where
  pub ports : length held ≡ length f.inputs
  pub counts : (j : ℕ) → j < length f.inputs →
      get_or held j 0 ≡ length (buffer f j) + waiting_for j (take i f.inputs)

pub held_first : (f : Fabric) (held : List ℕ) → length f.buffers ≡ length f.inputs → held ≡ map length f.buffers →
    HeldSoFar f 0 held
held_first f held square is = grind (arith, common_steps, length-map, get_or-map)

module _ (f : Fabric) (i : ℕ) (held : List ℕ) (so_far : HeldSoFar f i held) (inside : i < length f.inputs)
    (cells : List Queued) (here : cells ≡ list_of f.inputs i) where
  pub cells_inside : ((k : ℕ) (c : Queued) → IsAmong c (input f k) → c.cell.output < length f.inputs) →
      All (λ c. c.cell.output < length held) cells
  cells_inside outputs k d within =
      search (arith, rules, outputs, has_there cells k (get_or cells k d), slice_get-get_or)

  pub held_next : (new : List ℕ) → length new ≡ length held →
      ((j : ℕ) → j < length held → get_or new j 0 ≡ get_or held j 0 + number_for j cells) → HeldSoFar f (i + 1) new
  held_next new same counted = grind (arith, common_steps, take_more, waiting_push)

pub held_last : (f : Fabric) (i : ℕ) (held : List ℕ) → HeldSoFar f i held → length f.inputs ≤ i → held ≡ fabric_held f
held_last f i held so_far past = ext_get_or 0 held (fabric_held f) (so_far.ports ∙ sym (held_long f))
    (λ j below. search (arith, rules, so_far.counts, take_all, held_at))

pub ruleset one_list = (count_next, length-set, take_all)
