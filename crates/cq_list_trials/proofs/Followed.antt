-- Lists that change one after another, each in the cells for the partner of its input: a cell came, or the first one
-- went. The cells of a list are those of its input and came in different slots, so all keys differ. And each list is as
-- before but for the partner, so the orders are so but for the pairs.
use Rattle.cq_list_trials.proofs.Terms.{rules, ◌≡◌, ◌≢◌, ℕ, ◌+◌, ◌<◌, List, length, get_or, set, Some, refl, sym, ap, ◌∙◌, ⊎_elim, arith, All, cases_eq, length-map, length-set, get_or_past, get_or_default, get_or-set_same, get_or-set_other, find_at, Queued, first_for, all_at, Waiting, cells_of, list_of, FirstKeysDiffer, orders_of, Partners, partner_of, AreSameWithout, cells-at, no_list}
use Rattle.cq_base.specs.declared.key.Key.{Key}
use Rattle.cq_list_trials.proofs.Arrived.{older_still}
use Rattle.cq_list_trials.specs.Followed.{AreOwn, HasChanged, IsOwn}
use Rattle.cq_prefs.proofs.Changes.{IsSameBut, same_but_arrival, same_but_taken, same_without}

-- ## One list

own_still : (slot i : ℕ) (list : Waiting) → IsOwn slot i list → IsOwn (slot + 1) i list
own_still slot i list own = search (arith, rules, older_still)

changed_same : (j : ℕ) (old new : List Queued) → HasChanged j old new → IsSameBut (Some j) old new
changed_same j old new changed =
    ⊎_elim (λ come. same_but_arrival (Some j) old new come.place come.cell (ap Some (sym come.output)) come.cells)
    (λ gone. same_but_taken (Some j) old new j refl gone) changed

-- ## All lists

-- first cells for one output in different lists have different keys, which name their inputs
pub own_keys : (slot : ℕ) (lists : List Waiting) → AreOwn slot lists → FirstKeysDiffer (cells_of lists)
own_keys slot lists own j i k c d a b e = sym (names i c a) ∙ ap (λ (key : Key). key.input) e ∙ names k d b
  where
    names : (i : ℕ) (c : Queued) → first_for j (list_of (cells_of lists) i) ≡ Some c → c.key.input ≡ i
    names i c a =
        search (arith, rules, cells-at, all_at, find_at, get_or_past, own)

-- some of the lists have changed, each for the partner of its input
pub record Changing (m : Partners) (slot : ℕ) (old now : List Waiting) : Type 0 where
  pub long : length now ≡ length old
  pub outputs : All (λ list. list.outputs ≡ length old) now
  pub own : AreOwn slot now
  pub same : (i : ℕ) → IsSameBut (partner_of m i) (list_of (cells_of old) i) (list_of (cells_of now) i)

module _ {m : Partners} {slot : ℕ} {old now : List Waiting} (had : Changing m slot old now) where
  -- that of input n changes
  pub one_changed : (n j : ℕ) (none w : Waiting) → partner_of m n ≡ Some j → n < length now →
      w.outputs ≡ (get_or now n none).outputs → IsOwn (slot + 1) n w →
      HasChanged j (get_or now n none).cells w.cells → Changing m (slot + 1) old (set now n w)
  one_changed n j none w partner inside outputs own changed =
      let long : length (set now n w) ≡ length now = length-set now n w in
      let was : get_or now n none ≡ get_or now n no_list = get_or_default now n none no_list inside in
      let here : (d : Waiting) → get_or (set now n w) n d ≡ w = λ d. get_or-set_same now n w d inside in
      record {
        long = long ∙ had.long;
        outputs = search (arith, rules, get_or-set_other, length-set, cases_eq);
        own = λ i d within. ⊎_elim (λ (is : i ≡ n). rw (is, get_or-set_same now n w d inside) own) (λ (other : i ≢ n).
            rw (get_or-set_other now n i w d other) (own_still slot i (get_or now i d) (had.own i d (omega arith))))
            (cases_eq i n);
        same =
            let one : IsSameBut (partner_of m n) (list_of (cells_of now) n) (list_of (cells_of (set now n w)) n) =
            rw (partner, cells-at now n, cells-at (set now n w) n, here no_list, sym was)
            (changed_same j (get_or now n none).cells w.cells changed) in
            let before = had.same n in
            let both : IsSameBut (partner_of m n) (list_of (cells_of old) n) (list_of (cells_of (set now n w)) n) =
            search (rules, one.firsts, before.firsts) in
            λ i. ⊎_elim (λ is. rw is both)
            (λ other. search (arith, rules, IsSameBut, cells-at, get_or-set_other)) (cases_eq i n);
      }

  pub all_same : (before : ℕ) → AreOwn before old →
      AreSameWithout m (orders_of (cells_of old)) (orders_of (cells_of now))
  all_same before own = search (arith, rules, same_without, length-map, had.same, own_keys)
