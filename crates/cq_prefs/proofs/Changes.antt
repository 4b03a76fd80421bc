-- What an arrival and a transfer change in the offers. First, a number that leaves an order and goes in before the
-- first that it comes before stands where it stood. Those ahead of it come before it, so it goes past them, and it
-- comes before the one that followed it. So of an order it is enough to know what is left without the number, and
-- whether the number is in it. Now a cell that goes into a list, or the first cell for an output that leaves it,
-- changes neither the first cells for the other outputs nor the order in which these stand. So with the pair of the
-- input and of this output taken out, the orders are as before.
use Rattle.cq_prefs.proofs.Terms.{common_steps, rules, ◌≡◌, ◌≢◌, ℕ, suc, eqb, not, cond, Bool, true, false, List, [], ◌∷◌, length, map, Option, Some, refl, sym, ap, arith, filter, insert, cond_both, cond-false, cases_eq, cases_lt, eq-eqb, ne_eqb, eqb-true, not-true, length-map, Queued, is_for, first_for, without_first, list_of, FirstKeysDiffer, without_repeats, output_order, input_order, orders_of, first_key, key_at, Partners, partner_of, without, is_partner, is_pair, AreSameWithout, kept_has, has_kept, pairs_kept, pairs_kept_with, same_pairs, eqb-false, ◌∙◌, ◌<◌, ◌≤◌, ⊎_elim, remove, IsDistinct, position_or_len, cond-true, cases_Bool, put_by, place_in, IsListed, AllByRecursion, all_of_has, Has, most_ports}
use Rattle.cq_prefs.proofs.InputOrder.{before, key_at-first, is_input_order, outputs_at, inputs_at, no_inputs_past}
use Rattle.cq_prefs.proofs.Members.{among, listed, Apart, place_head, place_next, Rises}
use Rattle.cq_prefs.proofs.OutputOrder.{outputs}
use Rattle.cq_prefs.proofs.OneOrder.{IsInOrder, in_keys, apart}
use Rattle.cq_prefs.proofs.ByKey.{put_is, length-put}

pub without_here : (x y : ℕ) (xs : List ℕ) → y ≡ x → without x (y ∷ xs) ≡ without x xs
without_here x y xs e = ap (λ b. cond (not b) (y ∷ without x xs) (without x xs)) (eq-eqb y x e)

pub without_there : (x y : ℕ) (xs : List ℕ) → y ≢ x → without x (y ∷ xs) ≡ y ∷ without x xs
without_there x y xs ne = ap (λ b. cond (not b) (y ∷ without x xs) (without x xs)) (ne_eqb y x ne)

-- what is not there leaves nothing
pub without_none : (x : ℕ) (xs : List ℕ) → (Has xs x → ⊥) → without x xs ≡ xs
without_none x [] gone = refl
without_none x (y ∷ xs) gone = grind (arith, common_steps, without_there, without_none x xs)

-- its one place is removed
without_place : (x : ℕ) (xs : List ℕ) → Apart xs → Has xs x → remove xs (place_in xs x) ≡ without x xs
without_place x [] a m = absurd m
without_place x (y ∷ xs) a m =
    ⊎_elim (λ is. search (arith, rules, place_head, without_here, without_none, Has)) (λ other.
    let later : Has xs x = ⊎_elim (λ e. absurd (other e)) (λ r. r) m in
    let place : place_in (y ∷ xs) x ≡ suc (place_in xs x) =
    let next = place_next xs y x other in omega arith in
    cc (without_there x y xs other, without_place x xs a.1 later)) (cases_eq y x)

-- the same of a place that a search found, or did not find
pub left_by : (x place : ℕ) (xs : List ℕ) → IsDistinct eqb xs → place ≡ place_in xs x → place < length xs →
    remove xs place ≡ without x xs
left_by x place xs differ e inside = grind (arith, common_steps, without_place, apart, among)

goes_first : (b : ℕ → ℕ → Bool) (x : ℕ) (ys : List ℕ) → AllByRecursion (λ k. b x k ≡ true) ys →
    put_by b x ys ≡ x ∷ ys
goes_first b x [] before = refl
goes_first b x (y ∷ ys) before = cond-true (b x y) (x ∷ y ∷ ys) (y ∷ put_by b x ys) before.0

module _ (b : ℕ → ℕ → Bool) (one_way : (x y : ℕ) → b x y ≡ true → b y x ≡ true → ⊥) where
  goes_back : (x : ℕ) (ys : List ℕ) → Rises b ys → Has ys x → put_by b x (without x ys) ≡ ys
  goes_back x [] r m = absurd m
  goes_back x (y ∷ ys) r m =
      let there = without_there x y ys in let rest = goes_back x ys r.1 in
      search (arith, rules, all_of_has, without_none, goes_first, cases_eq, cases_Bool, cond-false, without_here x y ys)

-- an order that is known but for x, which is in it or not
module _ {P : ℕ → Type 0} {b : ℕ → ℕ → Bool} {ys : List ℕ} (order : IsInOrder P b ys) (x : ℕ) {left : List ℕ}
    (known : left ≡ without x ys) where
  pub put_back : (at : ℕ) → P x → at ≡ position_or_len (b x) left → insert left at x ≡ ys
  put_back at own place = grind (arith, common_steps, put_is, order.has x, goes_back b order.one_way)

  pub room_back : P x → length ys ≤ most_ports → length left < most_ports
  room_back own few = grind (arith, common_steps, order.has x, goes_back b order.one_way, length-put)

  pub none_back : (P x → ⊥) → left ≡ ys
  none_back none = known ∙ without_none x ys (λ there. none ((order.has x).0 there))

-- a port that does not stand in an order
pub not_there : (x : ℕ) (xs : List ℕ) → (IsListed xs x → ⊥) → xs ≡ without x xs
not_there x xs gone = sym (without_none x xs (λ m. gone (listed xs x m)))

-- ## The order of the outputs

without_swap : (j k : ℕ) (xs : List ℕ) → without j (without k xs) ≡ without k (without j xs)
without_swap j k [] = refl
without_swap j k (x ∷ xs) = grind (arith, common_steps, without_here, without_there, cases_eq, without_swap j k xs)

-- a number may be left out before or after the repeats are
left_out : (j : ℕ) (xs : List ℕ) → without j (without_repeats xs) ≡ without_repeats (without j xs)
left_out j [] = refl
left_out j (x ∷ xs) =
    let swap = without_swap j x in let rest = left_out j xs in
    search (arith, rules, without_here, without_there, swap, cases_eq, without_none, kept_has, eq-eqb, rest)

same_tail : (j x : ℕ) (xs ys : List ℕ) → without j xs ≡ without j ys → without j (x ∷ xs) ≡ without j (x ∷ ys)
same_tail j x xs ys e = ap (λ l. cond (not (eqb x j)) (x ∷ l) l) e

come_outputs : (cells : List Queued) (place : ℕ) (c : Queued) →
    without c.cell.output (outputs cells) ≡ without c.cell.output (outputs (insert cells place c))
come_outputs (x ∷ cells) (suc place) c = grind (arith, common_steps, same_tail, come_outputs cells place c)
come_outputs cells place c = grind (arith, common_steps, without_here)

gone_outputs : (j : ℕ) (cells : List Queued) → without j (outputs cells) ≡ without j (outputs (without_first j cells))
gone_outputs j [] = refl
gone_outputs j (x ∷ cells) = search (rules, cond_both, without_here, eqb-true, same_tail, gone_outputs j cells)

-- ## First cells

come_first : (cells : List Queued) (place : ℕ) (c : Queued) (k : ℕ) → c.cell.output ≢ k →
    first_for k (insert cells place c) ≡ first_for k cells
come_first (x ∷ cells) (suc place) c k other = ap (cond (is_for k x) (Some x)) (come_first cells place c k other)
come_first cells place c k other = grind (arith, common_steps, ne_eqb)

gone_first : (j : ℕ) (cells : List Queued) (k : ℕ) → k ≢ j → first_for k (without_first j cells) ≡ first_for k cells
gone_first j [] k other = refl
gone_first j (x ∷ cells) k other = search (rules, cond_both, cond-false, ne_eqb, eqb-true, gone_first j cells k other)

-- ## One list

-- two lists give the same offers but for this output, if there is one
pub record IsSameBut (p : Option ℕ) (old new : List Queued) : Type 0 where
  pub firsts : (k : ℕ) → is_partner p k ≡ false → first_for k new ≡ first_for k old
  pub order :
      filter (λ k. not (is_partner p k)) (output_order old) ≡ filter (λ k. not (is_partner p k)) (output_order new)

pub same_list : (p : Option ℕ) (old new : List Queued) → new ≡ old → IsSameBut p old new
same_list p old new e = grind (arith, common_steps)

same_but : (p : Option ℕ) (old new : List Queued) (j : ℕ) → p ≡ Some j →
    ((k : ℕ) → k ≢ j → first_for k new ≡ first_for k old) → without j (outputs old) ≡ without j (outputs new) →
    IsSameBut p old new
same_but p old new j partner firsts e = rw partner
    (search (arith, rules, eqb-false, left_out j (outputs old), left_out j (outputs new)))

pub same_but_arrival : (p : Option ℕ) (old new : List Queued) (place : ℕ) (c : Queued) → p ≡ Some c.cell.output →
    new ≡ insert old place c → IsSameBut p old new
same_but_arrival p old new place c partner e = rw e (same_but p old (insert old place c) c.cell.output partner
    (λ k other. come_first old place c k (λ is. other (sym is))) (come_outputs old place c))

pub same_but_taken : (p : Option ℕ) (old new : List Queued) (j : ℕ) → p ≡ Some j → new ≡ without_first j old →
    IsSameBut p old new
same_but_taken p old new j partner e = rw e (search (rules, same_but, gone_first, gone_outputs))

-- ## The order of the inputs

-- two switches in which the first cells for output k are the same but for those of its pairs
module _ (m : Partners) (old new : List (List Queued)) (k : ℕ)
    (firsts : (i : ℕ) → is_pair m i k ≡ false → first_for k (list_of new i) ≡ first_for k (list_of old i))
    (old_differ : FirstKeysDiffer old) (new_differ : FirstKeysDiffer new) where
  abbrev kept : ℕ → Bool
  kept i = not (is_pair m i k)

  same_key : (i : ℕ) → kept i ≡ true → key_at (map (first_key k) old) i ≡ key_at (map (first_key k) new) i
  same_key i e = grind (arith, common_steps, key_at-first, not-true)

  pub same_inputs :
      filter (λ i. not (is_pair m i k)) (input_order old k) ≡ filter (λ i. not (is_pair m i k)) (input_order new k)
  same_inputs =
      let a = in_keys old k (input_order old k) (is_input_order old k old_differ) in
      let b = in_keys new k (input_order new k) (is_input_order new k new_differ) in
      same_pairs _ a.one_way (filter kept (input_order old k)) (filter kept (input_order new k))
      (pairs_kept _ kept (input_order old k) a.rises)
      (pairs_kept_with _ (λ x y. before (map (first_key k) old) x y ≡ true) kept
      (λ x y s t later. search (arith, rules, same_key)) (input_order new k) b.rises)
      (λ i s. search (arith, rules, kept_has, a.has, b.has, has_kept, same_key))
      (λ i s. search (arith, rules, kept_has, a.has, b.has, has_kept, same_key))

-- ## All lists

pub same_without : (m : Partners) (old new : List (List Queued)) → length new ≡ length old →
    ((i : ℕ) → IsSameBut (partner_of m i) (list_of old i) (list_of new i)) → FirstKeysDiffer old → FirstKeysDiffer new →
    AreSameWithout m (orders_of old) (orders_of new)
same_without m old new size each old_differ new_differ =
    grind (arith, common_steps, length-map, outputs_at, inputs_at, same_inputs, no_inputs_past, cases_lt)
