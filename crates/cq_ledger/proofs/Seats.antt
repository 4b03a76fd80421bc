-- Making the first seat, a split and a join keep the rule, and are no event: the words stay, and what the seats have
-- claimed, seen, made and in their hands is only dealt out anew.
use Rattle.cq_ledger.proofs.Terms.{some-injective, ℕ, suc, ◌≡◌, ◌≢◌, ◌⊎◌, inl, inr, ◌+◌, ◌≤◌, List, [], ◌∷◌, ◌++◌, set, replicate, None, refl, sym, ◌∙◌, ap, arith, bit_or, rules, cases_eq, length-replicate, get_or-replicate, sum_by_push, at_set, set_else, set_again, at_longer, at_snoc, Orders, AreOffers, ports, held-start, next_place-start, IsLedger, IsViewOf, blank, joined, spent, Sits, bit, View, common_steps, most_ports, AreClaims}
use Rattle.cq_ledger.proofs.Views.{bits, same_at, sits_now, made_with, hands_from, offers_with, dealt}

-- where no bit of either is set, no bit is
neither : (a b : ℕ) → bit_or a b ≡ 0 → (a ≡ 0) × (b ≡ 0)
neither a b e = (search (arith, rules, bits.none a, bits.none b, bits.left a b, bits.of_zero, bits.right a b))

pub only : (o : Orders) (x : View) (b : ℕ) (u : View) → Sits (x ∷ []) b u → x ≡ u
only o x b u e = grind (arith, common_steps, some-injective)

-- nobody has claimed an input, and none is in a hand
unfoldable pub start-keeps : (o : Orders) → AreOffers o → ports o ≤ most_ports →
    IsLedger o (0 ∷ replicate (ports o) (ports o)) (blank o ∷ [])
start-keeps o v few =
    record {
      offers = v;
      few = few;
      events = [];
      are_events = tt;
      size = ap suc (length-replicate (ports o) (ports o));
      same = λ b u a. inl (sym (ap (λ (y : View). y.offers) (only o (blank o) b u a)));
      positions = λ j l. get_or-replicate (ports o) j (ports o) 0 l ∙ sym (held-start o j l);
      claims = grind (arith, common_steps, only o (blank o), bits.of_zero);
      hands = grind (arith, common_steps, only o (blank o), bits.of_zero);
      unclaimed = λ q h. next_place-start o q;
      made = refl;
      idle = grind (arith, common_steps, only o (blank o));
    }

module _ (o : Orders) (words : List ℕ) (views : List View) (k : IsLedger o words views) (other : Orders)
    (known : IsViewOf o (blank other)) where
  abbrev longer : List View
  longer = views ++ blank other ∷ []

  unfoldable pub longer-keeps : IsLedger o words longer
  longer-keeps =
      let at = at_snoc views (blank other) in let made = sum_by_push (λ (y : View). y.made) views (blank other) in
      let claims : AreClaims o words longer =
      search (arith, rules, at_longer, k.claims.by_one, k.claims.apart, at, bits.of_zero, k.claims.seen) in
      dealt o words views longer k (search (rules, at, k.same)) claims
      (hands_from k.hands (search (arith, rules, at)) (search (rules, at_longer))) (omega arith)
      (search (arith, rules, at, k.idle))

-- a split: the old view stays, and the other half has its offers
pub split-keeps : (o : Orders) (words : List ℕ) (views : List View) (k : IsLedger o words views) (id : ℕ) (v : View) →
    Sits views id v → IsLedger o words (set views id v ++ blank v.offers ∷ [])
split-keeps o words views k id v at = search (rules, set_again, longer-keeps, k.same)

module _ (o : Orders) (words : List ℕ) (views : List View) (k : IsLedger o words views) (id : ℕ) (v : View)
    (at_id : Sits views id v) (gone : ℕ) (w : View) (apart : gone ≢ id) (at_gone : Sits views gone w)
    (empty : v.hand ≡ None) (empty_gone : w.hand ≡ None) (same_offers : v.offers ≡ o) where
  abbrev half : List View
  half = set views id (joined v w)

  abbrev whole : List View
  whole = set half gone spent

  pub here : Sits whole id (joined v w)
  here = search (arith, rules, set_else, sits_now)

  -- where a view stood before, and where it is now
  abbrev pub Home : ℕ → ℕ → Type 0
  Home b c = ((c ≡ gone) × (b ≡ id)) ⊎ ((c ≢ gone) × (b ≡ c))

  abbrev pub Kind : ℕ → View → Type 0
  Kind b u = (spent ≡ u) ⊎ (((b ≡ id) × (joined v w ≡ u)) ⊎ ((b ≢ gone) × (b ≢ id) × Sits views b u))

  pub kind : (b : ℕ) (u : View) → Sits whole b u → Kind b u
  kind b u a = search (rules, at_set half gone b spent u a, at_set views id b (joined v w) u)

  pub record Claimed (b q : ℕ) : Type 0 where
    pub at : ℕ
    pub by : View
    pub stood : Sits views at by
    pub has : bit by.claims q ≡ 1
    pub home : Home b at

  pub claimed_by : (b q : ℕ) (u : View) → Kind b u → bit u.claims q ≡ 1 → Claimed b q
  claimed_by b q u m h = search (arith, rules, bits.of_zero, bits.either)

  pub idle_now : (b : ℕ) (u : View) → Kind b u → u.claims ≡ 0 → (u.hand ≡ None) × (u.made ≡ 0)
  idle_now b u m h = search (arith, rules, neither, k.idle id v at_id)

  pub still_there : (a : ℕ) (u : View) → a ≢ id → a ≢ gone → Sits views a u → Sits whole a u
  still_there a u n m at = set_else half gone a spent m ∙ set_else views id a (joined v w) n ∙ at

  pub by_one_now : (q : ℕ) → (a : ℕ) × (u : View) × Sits views a u × (bit u.claims q ≡ 1) →
      (a : ℕ) × (u : View) × Sits whole a u × (bit u.claims q ≡ 1)
  by_one_now q x =
      search (rules, cases_eq x.0 id, cases_eq x.0 gone, same_at, here, bits.left, bits.right, still_there)

  unfoldable pub join-keeps : IsLedger o words whole
  join-keeps =
      dealt o words views whole k
      (offers_with o half gone spent (offers_with o views id (joined v w) k.same (inl same_offers)) (inr refl))
      (record {
        claimed = λ b q u a h. let x = claimed_by b q u (kind b u a) h in k.claims.claimed x.at q x.by x.stood x.has;
        by_one = search (rules, by_one_now, k.claims.by_one);
        apart = λ b c q x y ax ay hx hy.
            let m = claimed_by b q x (kind b x ax) hx in
            let n = claimed_by c q y (kind c y ay) hy in search (arith, rules, k.claims.apart);
        in_range = k.claims.in_range;
        seen = λ b q u a. grind (arith, common_steps, kind b u a, bits.of_zero, bits.either, k.claims.seen);
      })
      (hands_from k.hands (search (arith, rules, kind))
      (λ q z. grind (arith, common_steps, same_at views id v, same_at views gone w, still_there)))
      (search (arith, rules, made_with, set_else)) (λ b u a. idle_now b u (kind b u a))
