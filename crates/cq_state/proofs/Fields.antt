-- What the fields of a line tell. Fields are in the ranges of a kind of line exactly where they are the numbers of
-- what the line tells, and these are in their own ranges. Fields are taken one by one, for each range asks for its
-- own.
use Rattle.cq_state.proofs.Terms.{fill_by_all, range_with_len, rules, ◌≡◌, ℕ, suc, ◌-◌, ◌^◌, ◌<◌, ◌≤◌, List, [], ◌∷◌, length, map, get_or, Option, None, Some, refl, arith, common_steps, length-map, ⊤, unwrap_or, AllByRecursion, Range, Within, InRange, any_number, Seen, Named, Shape, Moved, between, count, count_or_none, cell, ranges, IsCount, IsSeen, AreRankNumbers, IsNamed, IsSent, IsMoved, cell_numbers, number_at, seen_of, rank_of, named_of, sent_of, moved_of}

-- ## From numbers to fields

abbrev Fits : List Range → List (Option ℕ) → Type 0
Fits [] [] = ⊤
Fits [] (f ∷ fs) = ⊥
Fits (r ∷ rs) [] = ⊥
Fits (r ∷ rs) (f ∷ fs) = InRange r f × Fits rs fs

pub fits_within : (rs : List Range) (fs : List (Option ℕ)) → Fits rs fs → Within rs 0 fs
fits_within [] [] h = record { enough = omega arith; few = omega arith; each = λ i inside. absurd (omega arith) }
fits_within (r ∷ rs) (f ∷ fs) h = search (arith, rules, fits_within rs fs h.1)
fits_within _ _ h = absurd h

pub seen_within : (i : ℕ) (x : Seen) → i < 2 ^ 128 → IsSeen x →
    Within (between i i ∷ count ∷ count_or_none ∷ []) 0 (Some i ∷ Some x.longest ∷ x.slack ∷ [])
seen_within i x small is = search (arith, rules, fits_within)

numbers_within : (ns : List ℕ) → AllByRecursion (λ n. n < 2 ^ 128) ns → (i : ℕ) → i < length ns →
    InRange any_number (get_or (map Some ns) i None)
numbers_within [] all i inside = absurd (omega arith)
numbers_within (n ∷ ns) all i inside = grind (arith, common_steps, numbers_within ns all.1)

pub rank_within : (j : ℕ) (ns : List ℕ) → j < 2 ^ 128 → AreRankNumbers ns →
    Within (between j j ∷ []) 32 (Some j ∷ map Some ns)
rank_within j ns small is = search (arith, rules, length-map, numbers_within, is.0)

pub named_fits : (ports : ℕ) (c : Named) → ports ≤ 64 → IsNamed ports c → Fits (cell ports) (map Some (cell_numbers c))
named_fits ports c few is = grind (arith, common_steps)

-- ## From fields to numbers

-- the fields of a line without further numbers
spread : (rs : List Range) (fs : List (Option ℕ)) → Within rs 0 fs →
    fs ≡ map (λ i. get_or fs i None) (range_with_len 0 (length rs))
spread rs fs w = let none : Option ℕ = None in fill_by_all _ fs _ none (omega (arith, w.enough, w.few)) (λ k _. refl)

-- where no `-` may stand, a number within its range stands
record IsNumber (f : Option ℕ) (least most : ℕ) : Type 0 where
  is : f ≡ Some (unwrap_or f 0)
  low : least ≤ unwrap_or f 0
  high : unwrap_or f 0 ≤ most
  fits : unwrap_or f 0 < 2 ^ 128

is_number : (f : Option ℕ) (least most : ℕ) → InRange (between least most) f → IsNumber f least most
is_number f least most is = grind (arith, common_steps)

pub record IsShape (fs : List (Option ℕ)) : Type 0 where
  pub fields : fs ≡ map Some (number_at fs 0 ∷ number_at fs 1 ∷ number_at fs 2 ∷ number_at fs 3 ∷ [])
  pub ports : (1 ≤ number_at fs 0) × (number_at fs 0 ≤ 64)
  pub classes : (1 ≤ number_at fs 1) × (number_at fs 1 ≤ 16)
  pub t0 : IsCount (number_at fs 2)
  pub total : IsCount (number_at fs 3)

pub shape_told : (fs : List (Option ℕ)) → Within (ranges 0 0 Shape) 0 fs → IsShape fs
shape_told fs w = grind (arith, common_steps, is_number, w.each, spread)

pub named_told : (ports : ℕ) (fs : List (Option ℕ)) → 1 ≤ ports → Within (cell ports) 0 fs →
    (fs ≡ map Some (cell_numbers (named_of fs 0))) × IsNamed ports (named_of fs 0)
named_told ports fs some w = grind (arith, common_steps, is_number, spread)

pub sent_told : (ports : ℕ) (fs : List (Option ℕ)) → 1 ≤ ports → Within (count ∷ cell ports) 0 fs →
    (fs ≡ map Some ((sent_of fs).slot ∷ cell_numbers (sent_of fs).cell)) × IsSent ports (sent_of fs)
sent_told ports fs some w = grind (arith, common_steps, is_number, spread)

pub moved_told : (ports : ℕ) (fs : List (Option ℕ)) → 1 ≤ ports → Within (ranges ports 0 Moved) 0 fs →
    (fs ≡ map Some (number_at fs 0 ∷ number_at fs 1 ∷ number_at fs 2 ∷ number_at fs 3 ∷ number_at fs 4 ∷ number_at fs
    5 ∷ [])) × IsMoved ports (moved_of fs)
moved_told ports fs some w =
    let fields = spread (ranges ports 0 Moved) fs w in
    grind (arith, common_steps, is_number, w.each 0, w.each 1, w.each 2, w.each 3, w.each 4, w.each 5, fields)

pub seen_told : (i : ℕ) (fs : List (Option ℕ)) → Within (between i i ∷ count ∷ count_or_none ∷ []) 0 fs →
    (fs ≡ Some i ∷ Some (number_at fs 1) ∷ get_or fs 2 None ∷ []) × IsSeen (seen_of fs)
seen_told i fs w = grind (arith, common_steps, spread, is_number)

rest_told : (gs : List (Option ℕ)) → ((i : ℕ) → i < length gs → InRange any_number (get_or gs i None)) →
    (gs ≡ map Some (map (λ f. unwrap_or f 0) gs)) × AllByRecursion (λ n. n < 2 ^ 128) (map (λ f. unwrap_or f 0) gs)
rest_told [] each = (refl, tt)
rest_told (g ∷ gs) each =
    search (arith, rules, is_number g 0 (2 ^ 128 - 1), each 0, rest_told gs, λ (i : ℕ). each (suc i))

pub rank_told : (j : ℕ) (fs : List (Option ℕ)) → Within (between j j ∷ []) 32 fs →
    (fs ≡ Some j ∷ map Some (rank_of fs)) × AreRankNumbers (rank_of fs)
rank_told j [] w = let enough : 1 ≤ 0 = w.enough in absurd (omega arith)
rank_told j (f ∷ gs) w =
    let own = is_number f j j (w.each 0 (omega arith)) in
    let rest = rest_told gs (λ i inside. w.each (suc i) (omega arith)) in search (arith, rules, length-map)
