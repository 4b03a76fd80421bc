-- The worked transfer: of three inputs the first is matched with output 1 and the last with output 0.
use Rattle.cq_list_trials.proofs.Terms.{rules, ◌≡◌, ◌<◌, List, [], ◌∷◌, Some, None, arith, Queued, list_of, HasCellFor, Partners, IsFreeOutput, common_steps}
use Rattle.cq_urgency.specs.OutputBuffer.{Buffered}
use Rattle.cq_xbar.specs.Crossbar.{HaveCells, KeysAreNew, HaveRoom, buffer_spare}

pub have_cells : (m : Partners) (lists : List (List Queued)) → m ≡ Some 1 ∷ None ∷ Some 0 ∷ [] →
    HasCellFor (list_of lists 0) 1 → HasCellFor (list_of lists 2) 0 → HaveCells m lists
have_cells m lists is first last = search (arith, rules)

pub keys_are_new : (m : Partners) (lists buffers : List (List Queued)) → m ≡ Some 1 ∷ None ∷ Some 0 ∷ [] →
    buffers ≡ [] ∷ [] ∷ [] ∷ [] → KeysAreNew m lists buffers
keys_are_new m lists buffers is none i j c p found = grind (arith, common_steps)

pub have_room : (m : Partners) (buffers : List Buffered) → m ≡ Some 1 ∷ None ∷ Some 0 ∷ [] →
    0 < buffer_spare buffers 0 → 0 < buffer_spare buffers 1 → HaveRoom m buffers
have_room m buffers is first second = search (arith, rules)

-- where only the first input is matched, with output 1, output 0 is free
pub output_is_free : (m : Partners) → m ≡ Some 1 ∷ None ∷ None ∷ [] → IsFreeOutput m 0
output_is_free m is i e = grind (arith, common_steps)
