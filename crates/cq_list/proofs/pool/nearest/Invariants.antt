use Rattle.cq_list.proofs.Terms.{ℕ, ◌<◌, ◌≤◌, get, linked, cells, position_or_len, finger_at, LeadsTowards}
use Rattle.cq_list.proofs.Put.{is_no_sooner}
use Rattle.cq_list.proofs.pool.nearest.Given as goal

-- the cells ahead of what was found are more urgent, it knows the place of the last of them, and none of the fingers so
-- far leads further past such cells
abbrev pub invariant-fingers : goal.invariant-fingers
invariant-fingers l = LeadsTowards (is_no_sooner l.key) (linked (get l.nodes) l.queue) l.found × ((k : ℕ) →
    k < l.at → (finger_at l.fingers k).count ≤ position_or_len (is_no_sooner l.key) (cells
    (linked (get l.nodes) l.queue)) → (finger_at l.fingers k).count ≤ l.found.count)
