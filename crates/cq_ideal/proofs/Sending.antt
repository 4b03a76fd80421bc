-- The machines of the outputs are told what these sent, one after another.
use Rattle.cq_ideal.proofs.Terms.{◌≡◌, ℕ, ◌+◌, ◌<◌, List, [], length, get_or, set, Option, None, arith, common_steps, get_or-map-range_with_len, length-map-range_with_len, Queued, Machine, machine_at, told, all_told, length-map, get_or-map}
use Rattle.cq_ideal.proofs.Changed.{at_place, changed_to, put_next}
use Rattle.cq_ideal.proofs.Came.{fit_same}

pub length-told : (ms : List Machine) (gone : List (Option Queued)) (ranks : List (List ℕ)) →
    length (all_told ms gone ranks) ≡ length ranks
unfolding all_told
length-told ms gone ranks = omega (arith, length-map-range_with_len)

pub told_at : (ms : List Machine) (gone : List (Option Queued)) (ranks : List (List ℕ)) (j : ℕ) → j < length ranks →
    get_or (all_told ms gone ranks) j [] ≡ told (machine_at ms j) (get_or ranks j []) (get_or gone j None)
unfolding all_told
told_at ms gone ranks j inside = grind (arith, common_steps, get_or-map-range_with_len)

-- the machine of the next output is told
pub told_next : (ms : List Machine) (gone : List (Option Queued)) (old states new : List (List ℕ)) (j : ℕ)
    (q : Option Queued) → j < length old → states ≡ changed_to (all_told ms gone old) old j → q ≡ get_or gone j None →
    new ≡ set states j (told (machine_at ms j) (get_or states j []) q) →
    new ≡ changed_to (all_told ms gone old) old (j + 1)
told_next ms gone old states new j q inside so_far is now =
    let here = at_place (all_told ms gone old) old j [] (length-told ms gone old) inside in
    put_next _ old states new j _ [] so_far now (cc (told_at ms gone old j inside)) (length-told ms gone old) inside

-- what the walk needs beside its step
pub ruleset send_steps = (common_steps, fit_same, length-told, length-map, get_or-map)
