-- What is read in lists of views, and the bits of numbers; then a view in another one's place, and the rule where the
-- words stay and the views alone change.
use Rattle.cq_ledger.proofs.Terms.{ℕ, suc, ◌≡◌, ◌≢◌, ◌⊎◌, ◌<◌, ◌≤◌, ◌^◌, List, ◌∷◌, length, get_or, sym, ◌∙◌, arith, bit_or, some, some-injective, some-ne-none, get_elem?, cases_eq, bit_at_or, bit_at-pow_same, bit_at-pow_other, bit_at-zero, bit_at-lt, same_from_bits, bit, common_steps, rules, ◌+◌, set, Some, None, IsFree, next_place, sum_by, sum_by-set, at_set, set_here, set_else, Orders, State, state_after, View, AreClaims, AreHands, IsLedger, IsViewOf, Sits, HasClaimed, HasSeen, IsClaimed, IsClaimedByOne, IsInAHand, Waits, claim_word, shr_and_one, eqb-true, eq-eqb, ltb-true}
use Rattle.std.proofs.lemmas.Nat.Bits.{bit_at_above}

-- a view that stands at a place of the list
pub at_known : {A : Type 0} → (xs : List A) (i : ℕ) (a d : A) → get_elem? xs i ≡ some a →
    (i < length xs) × (get_or xs i d ≡ a)
at_known (x ∷ xs) (suc i) a d e = let r = at_known xs i a d e in (omega arith, r.1)
at_known xs i a d e = grind (arith, common_steps, some-injective, some-ne-none)

pub same_at : {A : Type 0} → (xs : List A) (i : ℕ) (a b : A) → get_elem? xs i ≡ some a → get_elem? xs i ≡ some b → a ≡ b
same_at xs i a b e f = some-injective a b (sym e ∙ f)

-- what is said of the bits of numbers
pub record BitLaws : Type 0 where
  pub small : (n i : ℕ) → bit n i < 2
  pub of_zero : (i : ℕ) → bit 0 i ≡ 0
  pub same : (n i : ℕ) → bit (bit_or n (2 ^ i)) i ≡ 1
  pub other : (n i q : ℕ) → q ≢ i → bit (bit_or n (2 ^ i)) q ≡ bit n q
  pub either : (a b i : ℕ) → bit (bit_or a b) i ≡ 1 → (bit a i ≡ 1) ⊎ (bit b i ≡ 1)
  pub left : (a b i : ℕ) → bit a i ≡ 1 → bit (bit_or a b) i ≡ 1
  pub right : (a b i : ℕ) → bit b i ≡ 1 → bit (bit_or a b) i ≡ 1
  -- a bit that is set already
  pub again : (n i : ℕ) → bit n i ≡ 1 → bit_or n (2 ^ i) ≡ n
  pub none : (n : ℕ) → ((i : ℕ) → bit n i ≡ 1 → ⊥) → n ≡ 0

pub bits : BitLaws
unfolding bit
bits =
    record {
      small = bit_at-lt;
      of_zero = bit_at-zero;
      same = λ n i. omega (arith, bit_at_or n (2 ^ i) i, bit_at-pow_same i, bit_at-lt n i);
      other = λ n i q apart. omega (arith, bit_at_or n (2 ^ i) q, bit_at-pow_other i q apart);
      either = λ a b i h. grind (arith, common_steps, bit_at_or a b i, bit_at-lt a i, bit_at-lt b i);
      left = λ a b i h. omega (arith, bit_at_or a b i, bit_at-lt a i, bit_at-lt b i);
      right = λ a b i h. omega (arith, bit_at_or a b i, bit_at-lt a i, bit_at-lt b i);
      again = λ n i h. same_from_bits _ _ (λ q.
          grind (arith, cases_eq q i, bit_at_or n (2 ^ i) q, bit_at-pow_same i, bit_at-pow_other i q, bit_at-lt n q));
      none = λ n h. same_from_bits n 0 (λ q. grind (arith, common_steps, bit_at-lt n q, bit_at-zero q, h q));
    }

-- a power of two says which
pub one_power : (i k : ℕ) → 2 ^ i ≡ 2 ^ k → i ≡ k
one_power i k e = grind (arith, common_steps, bit_at-pow_other i k, bit_at-pow_same k, cases_eq k i)

-- a word has no bit past its last
pub bit-past : (n i : ℕ) → n < 2 ^ 64 → 64 ≤ i → bit n i ≡ 0
unfolding bit
bit-past n i fits past = bit_at_above n 64 i fits past

-- ## A view in another one's place

-- what a hand with this input and place asks for
abbrev pub MayHold : Orders → State → List ℕ → ℕ → ℕ → Type 0
MayHold o s words q p = IsFree o s q × (next_place s q ≡ p) × IsClaimed words q

module _ (views : List View) (id : ℕ) (v now : View) (at_id : Sits views id v) where
  pub sits_now : Sits (set views id now) id now
  sits_now = set_here views id now (at_known views id v v at_id).0

  -- who stood there is that view, and who stood elsewhere still does
  pub stays : (b : ℕ) (u : View) → Sits views b u → ((b ≡ id) × (v ≡ u)) ⊎ ((b ≢ id) × Sits (set views id now) b u)
  stays b u at = grind (arith, cases_eq b id, same_at views id v u at_id, set_else views id b now)

  -- who has claimed an input still has
  pub by_one_still : (q : ℕ) → (HasClaimed v q → HasClaimed now q) → IsClaimedByOne views q →
      IsClaimedByOne (set views id now) q
  by_one_still q has x = search (arith, rules, sits_now, stays)

  -- an input that is in a hand still is, if it was not in this one or stays in it
  pub in_hand_still : (q : ℕ) → ((p : ℕ) → v.hand ≡ Some (q, p) → now.hand ≡ Some (q, p)) → IsInAHand views q →
      IsInAHand (set views id now) q
  in_hand_still q same x = search (arith, rules, sits_now, stays)

  -- the hands, by what is in this one, which no other has, and what in another
  pub hands_with : (o : Orders) (s t : State) (words words' : List ℕ) → AreHands o s words views →
      ((q p : ℕ) → now.hand ≡ Some (q, p) → MayHold o t words' q p × ((b r : ℕ) (x : View) → Sits views b x →
      b ≢ id → x.hand ≡ Some (q, r) → ⊥)) →
      ((b q p : ℕ) (x : View) → Sits views b x → b ≢ id → x.hand ≡ Some (q, p) → MayHold o t words' q p) →
      ((q : ℕ) → IsFree o t q → Waits words' (set views id now) q) → AreHands o t words' (set views id now)
  hands_with o s t words words' k mine others waits =
      let each : (b q p : ℕ) (u : View) → Sits (set views id now) b u → u.hand ≡ Some (q, p) →
      MayHold o t words' q p = λ b q p u a h. grind (arith, at_set views id b now u a, mine q p, others b q p u) in
      record {
        free = λ b q p u a h. (each b q p u a h).0;
        place = λ b q p u a h. (each b q p u a h).1;
        claimed = λ b q p u a h. (each b q p u a h).2;
        apart = λ b c q p r x y ax ay hx hy.
            let one = at_set views id b now x ax in
            let other = at_set views id c now y ay in
            grind (arith, one, other, mine q p, mine q r, k.apart b c q p r x y);
        undropped = waits;
      }

  -- the claims where the word of claims stays and the view's own claims stay
  pub claims_stay : (o : Orders) (words words' : List ℕ) → claim_word words' ≡ claim_word words →
      now.claims ≡ v.claims →
      ((q : ℕ) → HasSeen now q → IsClaimed words q) → AreClaims o words views → AreClaims o words' (set views id now)
  claims_stay o words words' word same seen k =
      search (arith, rules, at_set, k.claimed, by_one_still, k.by_one, k.apart, k.in_range, k.seen, word)

  pub made_with : sum_by (λ (y : View). y.made) (set views id now) + v.made
      ≡ sum_by (λ (y : View). y.made) views + now.made
  made_with = grind (arith, common_steps, sum_by-set, at_known views id v v at_id)

-- the hands, where each was in the same place before, and who waited still does
pub hands_from : {o : Orders} {s : State} {words : List ℕ} {views now : List View} → AreHands o s words views →
    ((b q p : ℕ) (u : View) → Sits now b u → u.hand ≡ Some (q, p) →
    (x : View) × Sits views b x × (x.hand ≡ Some (q, p))) →
    ((q : ℕ) → Waits words views q → Waits words now q) → AreHands o s words now
hands_from k had waits =
    record {
      free = λ b q p u a h. let x = had b q p u a h in k.free b q p x.0 x.1 x.2;
      place = λ b q p u a h. let x = had b q p u a h in k.place b q p x.0 x.1 x.2;
      claimed = λ b q p u a h. let x = had b q p u a h in k.claimed b q p x.0 x.1 x.2;
      apart = λ b c q p r x y ax ay hx hy.
          let m = had b q p x ax hx in let n = had c q r y ay hy in k.apart b c q p r m.0 n.0 m.1 n.1 m.2 n.2;
      undropped = λ q g. waits q (k.undropped q g);
    }

-- all views are of these offers still, where the one that is put in is
pub offers_with : (o : Orders) (views : List View) (id : ℕ) (now : View) →
    ((a : ℕ) (v : View) → Sits views a v → IsViewOf o v) → IsViewOf o now → (a : ℕ) (v : View) →
    Sits (set views id now) a v → IsViewOf o v
offers_with o views id now same mine a v at = search (rules, at_set, same)

-- no event: what the views have claimed, seen, made and in their hands is dealt out anew
unfoldable pub dealt : (o : Orders) (words : List ℕ) (views now : List View) (k : IsLedger o words views) →
    ((a : ℕ) (v : View) → Sits now a v → IsViewOf o v) → AreClaims o words now →
    AreHands o (state_after o k.events) words now →
    sum_by (λ (y : View). y.made) now ≡ sum_by (λ (y : View). y.made) views →
    ((a : ℕ) (v : View) → Sits now a v → v.claims ≡ 0 → (v.hand ≡ None) × (v.made ≡ 0)) → IsLedger o words now
dealt o words views now k same claims hands made idle = search (rules)

pub ruleset bit_tests = (shr_and_one, eqb-true, eq-eqb, ltb-true, bit-past)
