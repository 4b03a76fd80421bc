use Rattle.cq_list.proofs.Terms.{◌≡◌, ℕ, ◌<◌, ◌≤◌, IsShifted, finger_at}
use Rattle.cq_list.proofs.fingers.shift.Given as goal

-- the fingers so far are shifted, and the others are as they were
abbrev pub invariant-fingers : goal.invariant-fingers
invariant-fingers l = (k : ℕ) → (k < l.finger-index → IsShifted l.count l.less l.more (finger_at l.initial.fingers k)
    (finger_at l.fingers k)) × (l.finger-index ≤ k → finger_at l.fingers k ≡ finger_at l.initial.fingers k)
