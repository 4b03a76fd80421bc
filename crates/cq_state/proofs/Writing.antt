-- Writing a state's text part by part. A part is put line by line, and what is put, with the lines that are still to
-- come, is all of it. Parts that are put one after another are one text, which is seen from the end back: what is put
-- last stands behind what was put before it. And where what is put is too long, all of it is.
use Rattle.cq_state.proofs.Terms.{◌≡◌, ℕ, ◌+◌, ◌<◌, ◌≤◌, List, [], ◌++◌, length, take, get_or, Result, IfErr, arith, append_assoc, common_steps, flat_map, append-nil, drop_all, take_more, take-append-drop, length-append, flat_map-append, State, state_lines, state_text, head_lines, Line, spelled, IsTooLong, drop, parts}
use Rattle.cq_state.specs.declared.write.StateLong.{StateLong}

abbrev text : List Line → List ℕ
text xs = flat_map spelled xs

-- what is put behind a part stands with it behind what was there before
pub put_behind : (old now new : List ℕ) (xs ys : List Line) → now ≡ old ++ text xs → new ≡ now ++ text ys →
    new ≡ old ++ text (xs ++ ys)
put_behind old now new xs ys e f = grind (arith, common_steps, append_assoc, flat_map-append)

-- a text is too long that is as long as one that is
long_on : {A : Type 0} (r : Result A StateLong) (now all : List ℕ) → length now ≤ length all →
    IfErr r (IsTooLong now) → IfErr r (IsTooLong all)
long_on r now all le long = grind (arith, common_steps)

-- where it is too long with one of the parts behind the head, all of it is
part_fits : (head : List Line) (ps : List (List Line)) (k : ℕ) (t0 t1 now : List ℕ) → k < length ps →
    t1 ≡ t0 ++ text head → now ≡ t1 ++ text (flat_map (λ xs. xs) (take k ps)) →
    length (now ++ text (get_or ps k [])) ≤ length (t0 ++ text (head ++ flat_map (λ xs. xs) ps))
part_fits head ps k t0 t1 now inside first e =
    grind (arith, common_steps, take-append-drop (k + 1) ps, take_more ps k [] inside, flat_map-append, length-append)

pub long_with : {A : Type 0} (r : Result A StateLong) (s : State) (k : ℕ) (t0 t1 now : List ℕ) → k < 7 →
    IfErr r (IsTooLong (now ++ text (get_or (drop 1 (parts s)) k []))) → t1 ≡ t0 ++ text (head_lines s.head) →
    now ≡ t1 ++ text (flat_map (λ xs. xs) (take k (drop 1 (parts s)))) → IfErr r (IsTooLong (t0 ++ state_text s))
unfolding state_lines
long_with r s k t0 t1 now inside long head e =
    long_on r _ _ (part_fits (head_lines s.head) (drop 1 (parts s)) k t0 t1 now inside head e) long

pub ruleset put_steps = (drop_all, append-nil)
