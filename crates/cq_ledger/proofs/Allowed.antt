-- Each kind of step is allowed by the rule and keeps it, and what each tells its seat is so. A proposal is the event of
-- the hand's input on the state that words and views show: the list of events behind the rule is longer by that input.
-- A seat keeps the numbers of its view through each kind of step, and a call on a ledger finds there what it was
-- promised of the seat.
use Rattle.cq_ledger.proofs.Terms.{rules, ℕ, suc, ◌≡◌, ◌*◌, ◌<◌, ◌≤◌, ◌^◌, min, List, get_or, set, Some, None, arith, bit_or, common_steps, none, cases_eq, get_or-le-sum_by, set_here, set_else, set_again, Orders, ports, position_of, IsOffered, state_after, events_at_most, output_in_range, sound-after, next_output-offered, View, Seated, Ruled, proposal, IsClaim, claim, look, IsLedger, output_at, words_proposed, proposed, words_claimed, claim_taken, claim_refused, Sits, bit, claim_word, ◌∙◌, ap, set-get_or, next_place, IsClaimed, ◌+◌, Option, Outcome, IsProposal, hand_at, hand_after, answer_of}
use Rattle.atomic_table.specs.Table.{step, Allows}
use Rattle.cq_ledger.proofs.Proposing.{propose-keeps, claim-keeps, refuse-keeps}
use Rattle.cq_ledger.proofs.Seats.{split-keeps, join-keeps}
use Rattle.cq_ledger.proofs.Views.{bits, one_power, at_known}
use Rattle.cq_ledger.specs.Moments.{IsEvent}
use Rattle.cq_ledger.proofs.CoreState.{core_state-is}
use Rattle.atomic_table.specs.Seated.{TableId}
use Rattle.cq_ledger.specs.SeatFields.{IsSeat}
use Rattle.cq_ledger.specs.Seats.{LedgerState, SeatState, IsSeatOf}
use Rattle.cq_ledger.proofs.Hands.{hand_at-placed, hand_after-placed}

-- a claim that finds the input claimed leaves the words as they are
pub words-same : (words : List ℕ) (i : ℕ) → IsClaimed words i → words_claimed words i ≡ words
words-same words i claimed = ap (λ m. set words 0 m) (bits.again (get_or words 0 0) i claimed) ∙ set-get_or words 0 0

module _ (o : Orders) (words : List ℕ) (views : List View) (k : IsLedger o words views) (id i : ℕ) (v : View)
    (at : Sits views id v) where
  pub proposal-event : (p : ℕ) → v.hand ≡ Some (i, p) → v.offers ≡ o → IsEvent o words views id i p v
  unfolding propose-keeps
  proposal-event p hand same_offers =
      let is = core_state-is o words views k in
      let here : next_place (state_after o k.events) i ≡ p = k.hands.place id i p v at hand in
      let k' = propose-keeps o words views k id i v at same_offers (rw here hand) in
      search (arith, rules, is, here, core_state-is o _ _ k', output_in_range, next_output-offered, k.hands.free)

  pub refused-keeps : IsClaimed words i → v.offers ≡ o →
      IsLedger o (words_claimed words i) (set views id (claim_refused v i))
  refused-keeps claimed same_offers = search (rules, words-same, refuse-keeps)

-- ## What the rule allows

-- what one seat made is at most the square of the ports
pub made-most : (o : Orders) (words : List ℕ) (views : List View) (k : IsLedger o words views) (id : ℕ) (v : View) →
    Sits views id v → v.made ≤ ports o * ports o
made-most o words views k id v at =
    search (arith, rules, at_known views id v v at, get_or-le-sum_by, events_at_most o k.offers k.events k.are_events)

pub proposal-keeps : (o : Orders) (words : List ℕ) (views : List View) (k : IsLedger o words views) (id i p : ℕ)
    (v : View) → Sits views id v → v.hand ≡ Some (i, p) → v.offers ≡ o →
    IsLedger o (words_proposed o words i p) (set views id (proposed v i p (get_or words (suc (output_at o i p)) 0)))
proposal-keeps o words views k id i p v at h e =
    let here = k.hands.place id i p v at h in search (rules, propose-keeps)

-- at an output, a position and a word that were computed
pub proposal-allowed : (key o : Orders) → key ≡ o → (slots id i p : ℕ) (me : Seated) → me.0.hand ≡ Some (i, p) →
    me.0.offers ≡ o → (n q j : ℕ) → j ≡ output_at o i p → q ≡ position_of o j i → n ≡ suc j →
    Allows (Ruled key) slots id me n (λ x. min x q) (proposal (step slots n q 0 none) me)
proposal-allowed key o same slots id i p me h e n q j is_output is_position is_word =
    rw (same, is_word, is_position, is_output) (λ s k size at bound.
    let found = get_or s.words (suc (output_at o i p)) 0 in
    let k' = proposal-keeps o s.words s.views k id i p me.0 at h e in
    let w = sound-after o k.offers k.events k.are_events in
    let here = k.hands.place id i p me.0 at h in
    let free = k.hands.free id i p me.0 at h in
    let offered : IsOffered o i (output_at o i p) =
    rw (← here) (next_output-offered o k.offers (state_after o k.events) i free.left) in
    let r = output_in_range o k.offers i (output_at o i p) offered in
    let few = made-most o _ _ k' id (proposed me.0 i p found)
    (set_here s.views id _ (at_known s.views id me.0 me.0 at).0) in
    search (arith, rules, free.unheld, k.offers.shown, k.positions, w.held_in))

module _ (o : Orders) (slots id i : ℕ) (me : Seated) (r : i < ports o) (empty : me.0.hand ≡ None)
    (same_offers : me.0.offers ≡ o)
    (s : Rattle.atomic_table.specs.Table.State (Unit {0}) View) (k : Ruled o s) (at : Sits s.views id me.0) where
  abbrev found : ℕ
  found = claim_word s.words

  -- the seat may take this view
  abbrev May : View → Type 0
  May v = IsLedger o (words_claimed s.words i) (set s.views id v) × IsClaim me i found (v, me.1)

  may_take : bit found i ≡ 0 → May (claim_taken me.0 i)
  may_take clear = search (arith, rules, claim-keeps, k.claims.claimed, k.claims.seen)

  may_not : bit found i ≡ 1 → May (claim_refused me.0 i)
  may_not is_set = search (arith, rules, refused-keeps)

  -- by the bit that is found
  pub claim-may : (v : View) × May v
  claim-may = search (arith, rules, bits.small, may_take, may_not, cases_eq)

pub claim-allowed-at : (key offers : Orders) → key ≡ offers → (slots id i : ℕ) (me : Seated) → i < ports offers →
    me.0.hand ≡ None → me.0.offers ≡ offers → (m : ℕ) → m ≡ 2 ^ i →
    Allows (Ruled key) slots id me 0 (λ n. bit_or n m) (claim (step slots 0 m 0 none) me)
claim-allowed-at key offers same slots id i me r empty e m is = rw (same, is) (λ s k size at bound.
    let may = claim-may offers slots id i me r empty e s k at in search (arith, rules, one_power))

-- a look changes nothing
pub look-allowed : (key offers : Orders) → key ≡ offers → (slots id : ℕ) (me : Seated) → me.0.offers ≡ offers →
    Allows (Ruled key) slots id me 0 (λ n. n) (look (step slots 0 0 0 none) me)
look-allowed key offers same slots id me e s k size at bound = grind
    (arith, common_steps, made-most key s.words s.views k id me.0 at, set_again s.views id me.0 at)

-- ## The fields of a seat

-- what a call knows of the fields of a ledger and of a seat of it
pub record AreMatched (l : LedgerState) (s : SeatState) (table : TableId) (offers : Orders) (mine : TableId)
    (view : View) : Type 0 where
  pub table_is : mine ≡ table
  pub offers_are : view.offers ≡ offers
  pub offers_seen : offers ≡ l.offers
  pub table_seen : table ≡ l.table
  pub view_seen : view ≡ s.view

pub matched : (l : LedgerState) (s : SeatState) (table : TableId) (offers : Orders) (mine : TableId) (view : View) →
    record { table = table; offers = offers } ≡ l → record { table = mine; view = view } ≡ s → IsSeatOf l s →
    AreMatched l s table offers mine view
matched l s table offers mine view is_l is_s of = grind (arith, common_steps)

module _ (me : Seated) (claims : ℕ) (hand : Option (ℕ × ℕ)) (made : ℕ) (s : IsSeat me claims hand made) (me' : Seated)
  where
    pub taken-seat : (i bit : ℕ) (hand' : Option (ℕ × ℕ)) → me' ≡ (claim_taken me.0 i, me.1) → bit ≡ 2 ^ i →
        hand' ≡ hand_at me.0.offers i 0 → IsSeat me' (bit_or claims bit) hand' made
    taken-seat i bit hand' is bit_is hand_is = rw (is, hand_is, bit_is) (search (arith, rules, hand_at-placed))

    pub proposed-seat : (i p found : ℕ) (answer : Outcome) (hand' : Option (ℕ × ℕ)) → IsProposal me i p found me' →
        answer ≡ answer_of me.0.offers i p found → hand' ≡ hand_after me.0.offers i p answer →
        IsSeat me' claims hand' (made + 1)
    proposed-seat i p found answer hand' is answer_is hand_is =
        let placed = λ (q r : ℕ). hand_after-placed me.0.offers i p answer (q, r) in search (arith, rules, placed)

pub ruleset seat_steps = (matched, join-keeps, set_else, split-keeps)

pub ruleset keep_steps = (proposal-keeps, claim-keeps, refused-keeps, split-keeps, join-keeps)
