-- An engine that goes on from a state in which another stood still. The lists and buffers of a sound fabric can wait
-- in lists and buffers of their rooms: no two cells of a list have one key, since no two places have. By the law on
-- sound fabrics it is in step with the ideal switch of its cells. Of the slacks nothing is claimed, since the first
-- slot looks at all of them.
use Rattle.cq_engine.proofs.Terms.{length-map, rules, ◌≡◌, ℕ, List, length, Option, arith, common_steps, Figures, KeysDiffer, LimiterView, Machine, AreForOneSwitch, Fabric, input, fabric_in, fabric_held, Queues, fabric_of, CanGoOn, IsRunning, NoKeyTwice, Waiting, Frozen, agrees_of, CanHold, all_from_has, slice_get-get_or}
use Rattle.cq_engine.specs.declared.measure.Look.TheVariants as look
use Rattle.cq_base.proofs.Pooled.{each_pair}

-- ## What waits in lists and buffers

keys_differ : (f : Fabric) (i : ℕ) → NoKeyTwice f → KeysDiffer (input f i)
keys_differ f i differ = each_pair _ (input f i) (λ s t d l inside e.
    search (arith, rules, differ (Waiting i s) (Waiting i t), slice_get-get_or))

pub can_hold : (ms : List Machine) (limits : List (Option ℕ)) (from to : List ℕ) (x : Frozen) →
    CanGoOn ms limits from to x → CanHold from to x.lists x.buffers
can_hold ms limits from to x can =
    let f = can.sound.fabric in
    let differ = keys_differ (fabric_in x) in
    search (arith, rules, can.list_rooms, all_from_has, f.outputs, can.sound.order, differ, can.buffer_rooms, f.rising)

-- ## The engine

module _ (ms : List Machine) (limits : List (Option ℕ)) (from to : List ℕ) (x : Frozen) (one : AreForOneSwitch ms)
    (can : CanGoOn ms limits from to x) (l : LimiterView) (limits_are : l.limits ≡ limits)
    (long : length limits ≡ length ms) (held : l.held ≡ fabric_held (fabric_in x)) where
  pub goes_on : (q : Queues) (states : List (List ℕ)) (figures : Figures) → q.inputs ≡ x.lists →
      q.buffers ≡ x.buffers → states ≡ x.ranks → figures ≡ x.figures →
      IsRunning ms x.next look.All figures (fabric_of q states) l
  goes_on q states figures inputs buffers ranks seen =
      grind (arith, common_steps, agrees_of x.next (fabric_in x) can.sound)

-- what an engine that goes on asks for
pub ruleset thaw_steps = (length-map, can_hold)
