-- What claims, proposals and joins do to what a seat has claimed and seen: nothing of it is ever lost.
use Rattle.cq_crew.proofs.Terms.{common_steps, rules, ℕ, ◌≡◌, ◌+◌, ◌-◌, ◌<◌, Some, None, refl, arith, IsSome, cases_lt, cases_eq, ports, LedgerState, SeatState, IsSeatOf, IsProposed, HasClaimed, HasTried, HaveTried, ProposesFor, Grows, IsIdleAfter, HasWorked}
use Rattle.cq_prefs.specs.declared.outcome.Outcome.{Outcome}
use Rattle.cq_ledger.specs.declared.view.View.{View}
use Rattle.cq_ledger.specs.Steps.{claim_refused, claim_taken, joined}
use Rattle.cq_ledger.proofs.Views.{bits}

-- ## Views that grow

pub grows-same : (v : View) → Grows v v
grows-same v = record { claims = λ i h. h; seen = λ i h. h; made = omega arith }

pub grows-after : (u v w : View) → Grows u v → Grows v w → Grows u w
grows-after u v w a b = grind (arith, common_steps, b.claims, a.claims, b.seen, a.seen)

pub grows-proposing : (v w : View) → ProposesFor v w → Grows v w
grows-proposing v w p = grind (arith, common_steps)

pub grows-joined : (v w : View) → Grows v (joined v w)
grows-joined v w = grind (arith, common_steps, bits.left)

-- ## What was tried

pub tried-grown : (v w : View) → Grows v w → (i : ℕ) → HasTried v i → HasTried w i
tried-grown v w g i h = search (rules, g.claims, g.seen)

-- the first input, and then those after it
pub tried-first : (v w : View) (k : ℕ) → Grows v w → HasTried v k → (n : ℕ) → HaveTried w (k + 1) n → HaveTried w k n
tried-first v w k g here n above i low high = grind (arith, common_steps, cases_eq, above, tried-grown v w)

-- one input more
pub tried-next : (v w : View) (k n : ℕ) → Grows v w → HaveTried v k n → HasTried w n → HaveTried w k (n + 1)
tried-next v w k n g before here i low high = grind (arith, common_steps, cases_eq, tried-grown v w g i, before i)

-- ## Seats with an empty hand

pub idle-after : (l : LedgerState) (u : View) (s t : SeatState) → IsIdleAfter l u s → IsIdleAfter l s.view t →
    IsIdleAfter l u t
idle-after l u s t a b = record { seat = b.seat; hand = b.hand; grows = grows-after u s.view t.view a.grows b.grows }

-- a claim that found the input unclaimed, and the proposals after it
pub idle-taken : (l : LedgerState) (v u : View) (s : SeatState) (i : ℕ) → u ≡ claim_taken v i → IsSeatOf l s →
    s.view.hand ≡ None → ProposesFor u s.view → IsIdleAfter l v s × HasTried s.view i
idle-taken l v u s i is of empty proposes =
    search (arith, rules, grows-proposing, bits.same, grows-after, tried-grown, bits.left)

-- a claim that found it claimed
pub idle-refused : (l : LedgerState) (v : View) (s : SeatState) (i : ℕ) → v.hand ≡ None → s.view ≡ claim_refused v i →
    IsSeatOf l s → IsIdleAfter l v s × HasTried s.view i
idle-refused l v s i empty is of = search (arith, rules, bits.same, bits.left)

-- a join of another seat
pub idle-joined : (l : LedgerState) (v w : View) (s t : SeatState) → IsIdleAfter l v s → IsSeatOf l t →
    t.view ≡ joined s.view w → IsIdleAfter l v t
idle-joined l v w s t a of is = search (arith, rules, grows-after v s.view t.view a.grows, grows-joined s.view w)

pub tried-joined : (v w x : View) (n : ℕ) → x ≡ joined v w → HaveTried v 0 n → HaveTried x 0 n
tried-joined v w x n is tried i low high = search (arith, rules, tried-grown v (joined v w), grows-joined v w)

-- ## A whole work

-- both halves of the inputs
pub worked : (l : LedgerState) (u : View) (s t : SeatState) (k n : ℕ) → n ≡ ports l.offers → IsIdleAfter l u s →
    HaveTried s.view k n → IsIdleAfter l s.view t → HaveTried t.view 0 k → HasWorked l u t
worked l u s t k n is a above b below = search (arith, rules, idle-after, cases_lt, tried-grown)

pub worked-joined : (l : LedgerState) (v w : View) (s t : SeatState) → HasWorked l v s → IsSeatOf l t →
    t.view ≡ joined s.view w → HasWorked l v t
worked-joined l v w s t a of is = search (rules, idle-joined, tried-joined)

-- one claimed input more
pub claimed-next : (v : View) (n : ℕ) → ((i : ℕ) → i < n → HasClaimed v i) → HasClaimed v n → (i : ℕ) → i < n + 1 →
    HasClaimed v i
claimed-next v n before here i high = grind (arith, common_steps, cases_eq, before i)

-- ## Proposals

pub proposes-same : (v : View) → ProposesFor v v
proposes-same v = record { claims = refl; seen = refl; began = refl; made = omega arith }

pub proposes-next : (u v w : View) (answer : Outcome) → ProposesFor u v → IsSome v.hand →
    ((i p : ℕ) → v.hand ≡ Some (i, p) → IsProposed v i p answer w) → ProposesFor u w
proposes-next u v w answer before some is =
    let has : (h : ℕ × ℕ) × (v.hand ≡ Some h) = grind (arith, common_steps) in
    let view = (is has.0.0 has.0.1 has.1).view in grind (arith, common_steps)

pub ruleset work_steps = (claimed-next, grows-same, idle-after, tried-next, tried-first, worked)
