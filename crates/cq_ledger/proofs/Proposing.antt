-- Claims and proposals keep the rule. A claim that finds the input unclaimed is no event: the input has not proposed
-- and nobody holds it, so it is free where its order is not empty, and the hand takes it at its first place. A claim
-- that finds it claimed changes only what its seat has seen. A proposal is one event. The word of the output that is
-- asked becomes the position that it holds after the event. The new hand has the input that was displaced or rejected,
-- if that is free: no other seat has it, since it was held, or in this hand.
use Rattle.cq_ledger.proofs.Terms.{⊎_elim, rules, ℕ, suc, ◌≡◌, ◌≢◌, inl, ◌<◌, min, List, ◌∷◌, get_or, set, Some, sym, ◌∙◌, ap, arith, common_steps, cases_eq, get_or-set_same, get_or-set_other, length-set, at_set, Orders, ports, position_of, IsStep, step, sound-after, State, position_held, next_place, IsFree, next_output, propose, state_after, IsSound, IsLedger, proposed, Waits, Sits, bit, claim_word, output_in_range, View, ◌⊎◌, ◌^◌, None, bit_or, claim_taken, IsClaimedByOne, refl, claim_refused}
use Rattle.cq_ledger.proofs.Hands.{hand_found, still_free, hand-shows, free-before, hand_at-left, hand_at-shows}
use Rattle.cq_ledger.proofs.Views.{bits, sits_now, in_hand_still, claims_stay as same_claims, made_with, hands_with, offers_with, MayHold, by_one_still, hands_from, dealt}

module _ (o : Orders) (words : List ℕ) (views : List View) (k : IsLedger o words views) (id i : ℕ) (v : View)
    (at_id : Sits views id v) (same_offers : v.offers ≡ o) where
  abbrev s : State
  s = state_after o k.events

  pub w : IsSound o s
  w = sound-after o k.offers k.events k.are_events

  -- ## A claim that finds the input unclaimed

  module _ (r : i < ports o) (clear : bit (claim_word words) i ≡ 0) (empty : v.hand ≡ None) where
    abbrev taken : View
    taken = claim_taken v i

    abbrev claimed_words : List ℕ
    claimed_words = set words 0 (bit_or (claim_word words) (2 ^ i))

    abbrev claimed_views : List View
    claimed_views = set views id taken

    pub here : Sits claimed_views id taken
    here = sits_now views id v taken at_id

    pub word_now : claim_word claimed_words ≡ bit_or (claim_word words) (2 ^ i)
    word_now = get_or-set_same words 0 _ 0 (omega arith)

    pub now_set : bit (claim_word claimed_words) i ≡ 1
    now_set = ap (λ n. bit n i) word_now ∙ bits.same (claim_word words) i

    pub kept : (q : ℕ) → q ≢ i → bit (claim_word claimed_words) q ≡ bit (claim_word words) q
    kept q n = ap (λ m. bit m q) word_now ∙ bits.other (claim_word words) i q n

    pub not_i : (q : ℕ) → bit (claim_word words) q ≡ 1 → q ≢ i
    not_i q h e = grind (arith, common_steps)

    -- who has claimed an input now is this view, or had claimed it
    pub claims_of : (b q : ℕ) (u : View) → Sits claimed_views b u → bit u.claims q ≡ 1 →
        ((b ≡ id) × (q ≡ i)) ⊎ ((x : View) × Sits views b x × (bit x.claims q ≡ 1))
    claims_of b q u a h = search (rules, at_set views id b taken u a, cases_eq q i, bits.other v.claims i q)

    pub by_one_now : (q : ℕ) → bit (claim_word claimed_words) q ≡ 1 → IsClaimedByOne claimed_views q
    by_one_now q h =
        let still = by_one_still views id v taken at_id q in
        search (rules, cases_eq q i, here, bits.same, still, bits.other, kept q, k.claims.by_one q)

    pub undropped_claimed : (q : ℕ) → IsFree o s q → Waits claimed_words claimed_views q
    undropped_claimed q g =
        let still = in_hand_still views id v taken at_id in
        search (arith, rules, k.hands.undropped q g, cases_eq q i, kept q, here, hand_at-left, k.unclaimed, still)

    unfoldable pub claim-keeps : IsLedger o claimed_words claimed_views
    claim-keeps =
        record {
          offers = k.offers;
          few = k.few;
          events = k.events;
          are_events = k.are_events;
          size = length-set words 0 _ ∙ k.size;
          same = offers_with o views id taken k.same (inl same_offers);
          positions = λ j l. get_or-set_other words 0 (suc j) _ 0 (omega arith) ∙ k.positions j l;
          claims = search (rules, claims_of, now_set, by_one_now, not_i, k.claims.in_range, kept, at_set);
          hands = hands_with views id v taken at_id o s s words claimed_words k.hands
              (search (arith, rules, hand_at-shows, w.last, k.unclaimed, k.hands.claimed, now_set, not_i))
              (search (arith, rules, kept, not_i)) undropped_claimed;
          unclaimed = search (arith, rules, cases_eq, k.unclaimed, kept);
          made = let a = made_with views id v taken at_id in let b = k.made in omega arith;
          idle = λ b u a. grind (arith, common_steps, at_set views id b taken u a, bits.same, bits.of_zero i, k.idle b);
        }

  -- ## A claim that finds the input claimed

  module _ (found : bit (claim_word words) i ≡ 1) where
    abbrev refused_now : View
    refused_now = claim_refused v i

    abbrev refused_views : List View
    refused_views = set views id refused_now

    unfoldable pub refuse-keeps : IsLedger o words refused_views
    refuse-keeps =
        let claims = same_claims views id v refused_now at_id o words words refl refl in
        let still = in_hand_still views id v refused_now at_id in let made = made_with views id v refused_now at_id in
        dealt o words views refused_views k (offers_with o views id refused_now k.same (inl same_offers))
        (claims (search (arith, rules, k.claims.seen, bits.other, cases_eq)) k.claims)
        (hands_from k.hands (search (rules, at_set)) (search (rules, still))) (omega arith)
        (search (rules, at_set, k.idle))

  -- ## A proposal

  module _ (in_hand : v.hand ≡ Some (i, next_place s i)) where
    abbrev t : State
    t = propose o s i

    abbrev j : ℕ
    j = next_output o s i

    pub f : IsFree o s i
    f = k.hands.free id i (next_place s i) v at_id in_hand

    pub st : IsStep o s i t
    st = step o k.offers s w i f

    pub j_in_range : j < ports o
    j_in_range = output_in_range o k.offers i j st.offered

    abbrev view_now : View
    view_now = proposed v i (next_place s i) (get_or words (suc j) 0)

    abbrev words_now : List ℕ
    words_now = set words (suc j) (min (get_or words (suc j) 0) (position_of o j i))

    abbrev views_now : List View
    views_now = set views id view_now

    pub hand_is : view_now.hand ≡ hand_found o i (next_place s i) (position_held s j)
    hand_is = grind (arith, common_steps, hand_found, k.positions j j_in_range)

    pub claims_stay : claim_word words_now ≡ claim_word words
    claims_stay = let n : 0 ≢ suc j = omega arith in get_or-set_other words (suc j) 0 _ 0 n

    pub shown_now : (q : ℕ) → q < ports o → get_or words_now (suc q) 0 ≡ position_held t q
    shown_now q r =
        let same = get_or-set_same words (suc j) in let other = get_or-set_other words (suc j) (suc q) in
        grind (arith, cases_eq q j, same, other, k.positions, st.held_other q, st.held_asked, j_in_range)

    -- another view's hand has another input
    pub other_hand : (b q p : ℕ) (u : View) → b ≢ id → Sits views b u → u.hand ≡ Some (q, p) → q ≢ i
    other_hand b q p u n a h e = search (rules)

    -- my hand has no input of another hand
    pub mine : (q p : ℕ) → view_now.hand ≡ Some (q, p) → MayHold o t words_now q p × ((b r : ℕ) (x : View) →
        Sits views b x → b ≢ id → x.hand ≡ Some (q, r) → ⊥)
    mine q p h =
        let m = hand-shows o k.offers s w i f q p (sym hand_is ∙ h) in
        let own = k.hands.claimed id i (next_place s i) v at_id in_hand in
        let claimed : bit (claim_word words) q ≡ 1 =
        grind (arith, m.who, own, w.last q j, k.unclaimed q, bits.small (claim_word words) q) in (
          search (rules, claims_stay),
          λ b r x a n g. ⊎_elim (other_hand b q r x n a g) ((k.hands.free b q r x a g).unheld j) m.who,
        )

    pub others : (b q p : ℕ) (u : View) → Sits views b u → b ≢ id → u.hand ≡ Some (q, p) → MayHold o t words_now q p
    others b q p u a n h =
        let free = still_free o k.offers s w i f in
        search (rules, free, st.others_stay, claims_stay, k.hands.free, k.hands.place, k.hands.claimed, other_hand)

    pub undropped_now : (q : ℕ) → IsFree o t q → Waits words_now views_now q
    undropped_now q g =
        let before = free-before o k.offers s w i f q g in
        let here = sits_now views id v view_now at_id in
        search (arith, rules, in_hand_still views id v view_now at_id q, here, hand_is, claims_stay)

    unfoldable pub propose-keeps : IsLedger o words_now views_now
    propose-keeps =
        record {
          offers = k.offers;
          few = k.few;
          events = i ∷ k.events;
          are_events = (k.are_events, f);
          size = length-set words (suc j) _ ∙ k.size;
          same = offers_with o views id view_now k.same (inl same_offers);
          positions = shown_now;
          claims = search (rules, same_claims views id v view_now at_id, claims_stay, k.claims.seen);
          hands = hands_with views id v view_now at_id o s t words words_now k.hands mine others undropped_now;
          unclaimed = λ q h. search (arith, rules, cases_eq, k.hands.claimed, claims_stay, st.others_stay, k.unclaimed);
          made = let a = made_with views id v view_now at_id in let b = k.made in omega arith;
          idle = search (rules, k.idle, at_set);
        }
