-- The least slack of a list, cell after cell: the least of the slacks so far and of one more is the lesser of the two.
use Rattle.cq_fabric.proofs.Terms.{◌∷◌, rules, [], arith, take_all, input, fabric_of, common_steps, ◌≡◌, ℕ, ◌+◌, ◌-◌, ◌<◌, length, get_or, take, Option, Some, min, ⊎_elim, slice_get, reduce, enumerate_from, get_or-map, length-map, take_more, get_or-enumerate_from, length-enumerate_from, get_or_from_slice_get, slice_get_cases, slice_get_within, Queued, Fabric, cushion_of, either_by, slacks}
use Rattle.cq_laws.proofs.AddingUp.{reduce-append}
use Rattle.cq_fabric.proofs.queues.Queues.least_slack.Goals as goal

length-slacks : (f : Fabric) (i : ℕ) → length (slacks f i) ≡ length (input f i)
unfolding slacks
length-slacks f i = grind (arith, common_steps, length-map, length-enumerate_from)

slack_there : (f : Fabric) (i p : ℕ) (c : Queued) → slice_get (input f i) p ≡ Some c →
    get_or (slacks f i) p 0 ≡ cushion_of f c - p
unfolding slacks
slack_there f i p c at =
    let read = get_or-map (λ (t : ℕ × Queued). cushion_of f t.1 - t.0) (enumerate_from 0 (input f i)) p (0, c) 0 in
    let item = get_or-enumerate_from 0 (input f i) p (0, c) in
    search (arith, rules, slice_get_within, length-enumerate_from, read, item, get_or_from_slice_get)

-- one cell more is looked at
looked_at : (f : Fabric) (i p slack : ℕ) (least more : Option ℕ) → least ≡ reduce min (take p (slacks f i)) →
    p < length (input f i) → ((c : Queued) → slice_get (input f i) p ≡ Some c → slack ≡ cushion_of f c - p) →
    more ≡ either_by min least (Some slack) → more ≡ reduce min (take (p + 1) (slacks f i))
looked_at f i p slack least more so_far below each told =
    ⊎_elim (λ x.
    let more = take_more (slacks f i) p 0 in
    let push = reduce-append min (λ x y z. omega arith) (take p (slacks f i)) (slack ∷ []) in
    grind (arith, common_steps, each x.0 x.2, slack_there f i p x.0 x.2, push, more, length-slacks))
    (λ past. absurd (omega arith)) (slice_get_cases (input f i) p).1

pub places-preserved : goal.places-preserved
places-preserved c =
    looked_at (fabric_of c.args.self.now []) c.args.input c.places.place c.slack_at.result c.places.least _
    c.places.invariant (omega arith) c.slack_at.ensures c.lesser.ensures

pub returns : goal.returns
returns c = search (arith, rules, length-slacks, take_all)
