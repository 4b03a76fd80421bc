-- A cell that comes behind a more urgent one for its output changes no offer. The first cell for the output stands
-- below the cushion, since it is more urgent, ahead of the first one that is less urgent, and ahead of the end. So it
-- stays the first, and the newcomer's output stands behind it in the list of all the cells' outputs, where a repeat
-- is not seen.
use Rattle.cq_prefs.proofs.Terms.{common_steps, rules, ◌≡◌, ℕ, suc, ◌<◌, true, List, [], ◌∷◌, length, map, Some, refl, arith, insert, cases_eq, eq-eqb, ne_eqb, length-map, ext_get_or, find_at, slice_get_within, Queued, IsBefore, MoreUrgentAhead, first_for, place_for, place_of_later, place_of_arrival, with_arrival, key_laws, first_later, list_of, output_order, orders_of, first_key, key_before, slice_get-get_or, and_parts, passes_at_first}
use Rattle.cq_base.proofs.Lists.{first_le}
use Rattle.cq_prefs.proofs.ByKey.{first_is_for}
use Rattle.cq_prefs.proofs.Changes.{same_but_arrival}
use Rattle.std.proofs.Math.ListN.{get_or-map}
use Rattle.cq_prefs.proofs.OneOrder.{same_orders}

-- ## Where it goes in

-- the first one stands ahead of the first less urgent one for its output, so the newcomer goes in behind it
goes_behind : (cushion : ℕ) (c f : Queued) (xs : List Queued) → first_for c.cell.output xs ≡ Some f → IsBefore f c →
    MoreUrgentAhead cushion c xs →
    (place_for c.cell.output xs < place_of_arrival cushion c xs) × (place_for c.cell.output xs < length xs)
goes_behind cushion c f xs h before ahead =
    let at = slice_get-get_or xs (place_of_later c xs) f in
    search (rules, find_at, slice_get_within, first_is_for, at, first_le, and_parts, key_laws.one_way, passes_at_first)

-- ## What stays

-- two lists make the same offers
pub record OfferAlike (old new : List Queued) : Type 0 where
  pub firsts : (k : ℕ) → first_for k new ≡ first_for k old
  pub order : output_order new ≡ output_order old

module _ (c : Queued) where
  -- a cell that goes in behind the first one for its output
  behind_first : (xs : List Queued) (place : ℕ) → place_for c.cell.output xs < place →
      place_for c.cell.output xs < length xs → OfferAlike xs (insert xs place c)
  behind_first (x ∷ xs) (suc place) ahead inside =
      let apart = same_but_arrival (Some c.cell.output) xs (insert xs place c) place c refl refl in
      search (arith, rules, eq-eqb, first_later, ne_eqb, cases_eq, x.cell.output, behind_first xs place)
  behind_first xs place ahead inside = absurd (omega arith)

-- a cell that comes while a more urgent one for its output waits
pub comes_behind : (cushion : ℕ) (c : Queued) (xs : List Queued) →
    key_before (first_key c.cell.output xs) (Some c.key) ≡ true → MoreUrgentAhead cushion c xs →
    OfferAlike xs (with_arrival cushion c xs)
comes_behind cushion c xs before ahead =
    let first : (f : Queued) × (first_for c.cell.output xs ≡ Some f) × IsBefore f c = grind (arith, common_steps) in
    search (rules, behind_first c xs, goes_behind cushion c first.0 xs first.1 first.2 ahead)

-- ## All offers

-- what is the same of each list is the same of all
map_alike : {Y : Type 0} (f : List Queued → Y) (old new : List (List Queued)) → length new ≡ length old →
    ((i : ℕ) → f (list_of new i) ≡ f (list_of old i)) → map f new ≡ map f old
map_alike f old new long each = search (arith, rules, ext_get_or (f []), length-map, get_or-map f, each)

-- lists that make the same offers one by one make the same ones together
pub same_offers : (old new : List (List Queued)) → length new ≡ length old →
    ((i : ℕ) → OfferAlike (list_of old i) (list_of new i)) → orders_of new ≡ orders_of old
same_offers old new long each = search (rules, same_orders, map_alike, each)
