-- The figures of all records, with one record more. A sum, a count and a greatest number of a list with one part more
-- are those of the list and of the part, put together; and so are a least and a greatest that may be none, since it
-- does not matter which two numbers are compared first.
use Rattle.cq_laws.proofs.Terms.{common_steps, rules, ◌≡◌, ℕ, zero, suc, ◌+◌, List, [], ◌∷◌, ◌++◌, map, refl, sym, ap, ◌∙◌, append_assoc, arith, max, fold, replicate, range_with_len, enumerate_from, flat_map, reduce, append-nil, map_push, flat_map-append, fold-append, sum_by_push, filter_map-append, Figures, SlotRecord, proposals_in, input_figures, output_figures, figures_of, either_by, input_after, output_after, figures_after, no_figures}

-- ## Lists with one part more

module _ (f : ℕ → ℕ → ℕ) (assoc : (a b c : ℕ) → f (f a b) c ≡ f a (f b c)) where
  fold-front : (a b : ℕ) (xs : List ℕ) → fold f (f a b) xs ≡ f a (fold f b xs)
  fold-front a b [] = refl
  fold-front a b (x ∷ xs) = ap (λ n. fold f n xs) (assoc a b x) ∙ fold-front a (f b x) xs

  pub reduce-append : (xs ys : List ℕ) → reduce f (xs ++ ys) ≡ either_by f (reduce f xs) (reduce f ys)
  reduce-append [] ys = refl
  reduce-append (x ∷ xs) ys = grind (arith, common_steps, append-nil, fold-append, fold-front)

pub fold-max : (a : ℕ) (xs : List ℕ) → fold max a xs ≡ max a (fold max 0 xs)
fold-max a xs = grind (arith, common_steps, fold-front max (λ x y z. omega arith) a 0 xs)

-- a list by index, changed at each index
map-enumerate : {X : Type 0} (f new : ℕ → X) (g : ℕ → X → X) → ((i : ℕ) → new i ≡ g i (f i)) → (n k : ℕ) →
    map (λ (at : ℕ × X). g at.0 at.1) (enumerate_from n (map f (range_with_len n k))) ≡ map new (range_with_len n k)
map-enumerate f new g is n zero = refl
map-enumerate f new g is n (suc k) = λ t. sym (is n) t ∷ map-enumerate f new g is (n + 1) k t

pub map-constant : {X : Type 0} (f : ℕ → X) (c : X) → ((i : ℕ) → f i ≡ c) → (n k : ℕ) →
    map f (range_with_len n k) ≡ replicate k c
map-constant f c h n zero = refl
map-constant f c h n (suc k) = λ t. h n t ∷ map-constant f c h (n + 1) k t

-- ## One record more

input_more : (rs : List SlotRecord) (r : SlotRecord) (i : ℕ) →
    input_figures (rs ++ r ∷ []) i ≡ input_after r i (input_figures rs i)
unfolding input_figures input_after
input_more rs r i =
    search (arith, rules, sum_by_push, map_push, fold-append, reduce-append, flat_map-append, append-nil)

output_more : (rs : List SlotRecord) (r : SlotRecord) (j : ℕ) →
    output_figures (rs ++ r ∷ []) j ≡ output_after r j (output_figures rs j)
unfolding output_figures output_after
output_more rs r j = search (arith, rules, sum_by_push, filter_map-append, reduce-append)

pub figures_more : (ports : ℕ) (rs : List SlotRecord) (r : SlotRecord) →
    figures_of ports (rs ++ r ∷ []) ≡ figures_after (figures_of ports rs) r
unfolding figures_of figures_after
figures_more ports rs r =
    let now = rs ++ r ∷ [] in
    let inputs = map-enumerate (input_figures rs) (input_figures now) (input_after r) (input_more rs r) 0 ports in
    let outputs = map-enumerate (output_figures rs) (output_figures now) (output_after r) (output_more rs r) 0 ports in
    grind (arith, common_steps, fold-max (fold max 0 (flat_map proposals_in rs)), inputs, outputs)

-- ## From none to all

pub figures_none : (ports : ℕ) → figures_of ports [] ≡ no_figures ports
unfolding figures_of input_figures output_figures
figures_none ports = grind (arith, common_steps, map-constant)

fold_from : (ports : ℕ) (rs ss : List SlotRecord) →
    figures_of ports (rs ++ ss) ≡ fold figures_after (figures_of ports rs) ss
fold_from ports rs [] = ap (figures_of ports) (append-nil rs)
fold_from ports rs (s ∷ ss) = search (rules, append_assoc, figures_more, fold_from ports (rs ++ s ∷ []) ss)

pub figures_fold : (ports : ℕ) (rs : List SlotRecord) → figures_of ports rs ≡ fold figures_after (no_figures ports) rs
figures_fold ports rs = fold_from ports [] rs ∙ ap (λ (x : Figures). fold figures_after x rs) (figures_none ports)

pub ruleset figure_steps = (figures_none, figures_more, figures_fold)
