-- The state of the proposal core that words and views show is the one that the proposals of the rule reach. The place
-- that is found for an input in the hands is that of a hand that has it, and where none is found no hand does.
use Rattle.cq_ledger.proofs.Terms.{rules, ℕ, ◌↔◌, ◌≡◌, List, [], length, drop, Option, Some, None, refl, sym, ◌∙◌, ap, arith, map, range_with_len, ext_get_or, length-drop, length-map-range_with_len, get_or-map-range_with_len, Orders, ports, outputs_of, State, next_place, IsSound, keeper, state_after, keeper-holds, keeper-from, sound-after, View, IsLedger, place_in_hands, output_of, next_shown, core_state, IsClaimed, common_steps, zero, suc, ◌∷◌, some-injective, some-ne-none, cond_both, eqb-true, eq-eqb, true≢false, place_in_hand, first_place, Sits, IsInAHand, sum-places, held_once, output_in_range, sum}
use Rattle.cq_prefs.proofs.LeastFirst.{input_best-best}
use Rattle.cq_prefs.proofs.Quiet.{none_passed-after}
use Rattle.cq_ledger.specs.Moments.{ShowsProposals}
use Rattle.cq_ledger.proofs.Views.{bits}

-- ## One hand

in_hand : (h : Option (ℕ × ℕ)) (i p : ℕ) → (place_in_hand h i ≡ Some p) ↔ (h ≡ Some (i, p))
in_hand h i p = grind (arith, common_steps, cond_both, eqb-true, eq-eqb, true≢false)

-- ## All hands

pub in_hands-some : (views : List View) (i p : ℕ) → place_in_hands views i ≡ Some p →
    (a : ℕ) × (v : View) × Sits views a v × (v.hand ≡ Some (i, p))
in_hands-some [] i p e = absurd (let P : ⊥ = cc in P)
in_hands-some (v ∷ views) i p e = go (in_hands-some views i p) (place_in_hand v.hand i) refl e
  where
    go : (place_in_hands views i ≡ Some p → (a : ℕ) × (u : View) × Sits views a u × (u.hand ≡ Some (i, p))) →
        (h : Option ℕ) → place_in_hand v.hand i ≡ h → first_place h (place_in_hands views i) ≡ Some p →
        (a : ℕ) × (u : View) × Sits (v ∷ views) a u × (u.hand ≡ Some (i, p))
    go later None f r = let x = later r in (suc x.0, x.1, x.2, x.3)
    go later (Some q) f r = (zero, v, refl, (in_hand v.hand i p).0 (f ∙ r))

pub in_hands-none : (views : List View) (i : ℕ) → place_in_hands views i ≡ None → IsInAHand views i → ⊥
in_hands-none (v ∷ views) i e (suc a, u, p, at, h) = grind (arith, common_steps, in_hands-none views i)
in_hands-none views i e (a, u, p, at, h) = grind (arith, common_steps, in_hand, some-injective, some-ne-none)

-- ## The state

module _ (o : Orders) (words : List ℕ) (views : List View) (k : IsLedger o words views) where
  abbrev s : State
  s = state_after o k.events

  w : IsSound o s
  w = sound-after o k.offers k.events k.are_events

  positions-are : drop 1 words ≡ s.positions
  positions-are = search (arith, rules, length-drop, k.size, w.outputs, k.positions, ext_get_or 0 (drop 1 words))

  output-is : (i : ℕ) → output_of o words i ≡ keeper o s i
  unfolding keeper
  output-is i = ap (λ ps. keeper o (record { positions = ps; places = [] }) i) positions-are

  -- an input that is claimed, in no hand and held by none has asked its whole order
  done : (i : ℕ) → place_in_hands views i ≡ None → keeper o s i ≡ None → IsClaimed words i →
      next_place s i ≡ length (outputs_of o i)
  done i no_hand no_output claimed =
      grind (arith, w.within i, in_hands-none views i, k.hands.undropped i, keeper-from o k.offers s w i)

  next-is : (i : ℕ) → next_shown o words views i ≡ next_place s i
  unfolding next_shown
  next-is i =
      search
      (arith, rules, output-is, in_hands-some, k.hands.place, keeper-holds, w.last, done, k.unclaimed, bits.small)

  places-are : map (next_shown o words views) (range_with_len 0 (ports o)) ≡ s.places
  places-are =
      let places = ext_get_or 0 (map (next_shown o words views) (range_with_len 0 (ports o))) in
      search (arith, rules, places, w.inputs, get_or-map-range_with_len, length-map-range_with_len, next-is)

  pub core_state-is : core_state o words views ≡ s
  unfolding core_state
  core_state-is = λ n. record { positions = positions-are n; places = places-are n }

  -- so all that is known of a state that proposals reach holds of it
  pub shows_proposals : ShowsProposals o words views
  shows_proposals =
      record {
        reached = record { events = k.events; are_events = k.are_events; state = core_state-is; count = k.made };
        made = k.made ∙ sym (sum-places o k.offers k.events k.are_events) ∙ ap (λ t. sum t.places) (sym core_state-is);
        word = λ j r. rw (k.positions j r) (w.held_in j r);
        one_place = rw core_state-is (λ i. search (rules, held_once, w));
        hand = rw core_state-is (λ a i p v at h. search (rules));
        asked = rw core_state-is (λ i j r l. omega (arith, w.asked_before i j l, k.positions j r));
        not_passed = λ i j e. search (arith, rules, input_best-best o k.offers, output_in_range, none_passed-after);
      }
