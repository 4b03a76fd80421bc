-- The fingers of a queue that has a node more or less. A finger tells where the last of some nodes stands, so one of no
-- more nodes than stand ahead of the new one stays, and one of more has it among them.
use Rattle.cq_list.proofs.Terms.{common_steps, rules, ◌≡◌, ℕ, suc, ◌+◌, ◌-◌, ◌<◌, ◌≤◌, List, ◌∷◌, length, arith, ◌∙◌, insert, slice_get, cases_eq, cases_lt, length-insert, slice_get-get_or, slice_get_within, get_or-insert_below, ⊎_elim, append-nil, drop_all, take_all, Ahead, AreFingers, AreSet, AreShifted, EndsAt}
use Rattle.std.specs.List.{refill}
use Rattle.std.proofs.lemmas.List.Edits.{get_or-insert_above}

-- ## A list with one more

pub insert_end_kept : {X : Type 0} (xs : List X) (i m : ℕ) (y : X) → i ≤ m → m < length xs →
    slice_get (insert xs i y) (suc m) ≡ slice_get xs m
insert_end_kept xs i m y le inside =
    search (arith, rules, get_or-insert_above xs i y y m, slice_get-get_or, length-insert)

insert_kept : {X : Type 0} (xs : List X) (i m : ℕ) (y : X) → m < i → i ≤ length xs →
    slice_get (insert xs i y) m ≡ slice_get xs m
insert_kept xs i m y lt inside =
    search (arith, rules, slice_get-get_or, length-insert, get_or-insert_below xs i y y m)

-- ## The end of some nodes

module _ (places : List ℕ) {count place : ℕ} (ends : EndsAt places count place) where
  pub ends_inside : count ≤ length places
  ends_inside =
      grind (arith, common_steps, slice_get_within places (count - 1) place, ends (count - 1), cases_eq count 0)

  module _ (n x : ℕ) where
    ends_kept : count ≤ n → n ≤ length places → EndsAt (insert places n x) count place
    ends_kept le inside m is = insert_kept places n m x (omega arith) inside ∙ ends m is

    ends_later : n < count → (more : ℕ) → more ≡ count + 1 → EndsAt (insert places n x) more place
    ends_later lt more one m is = grind (arith, common_steps, ends_inside, insert_end_kept)

-- ## Fingers

module _ (places : List ℕ) (fingers : List Ahead) where
  pub fingers_set : (finger : Ahead) (new : List Ahead) → AreFingers places fingers →
      EndsAt places finger.count finger.last → AreSet finger fingers new → AreFingers places new
  fingers_set finger new had ends set k = ⊎_elim (λ same. rw same (had k)) (λ is. rw is ends) (set k)

  module _ (n x : ℕ) where
    -- behind all nodes
    pub fingers_kept : AreFingers places fingers → n ≡ length places → AreFingers (insert places n x) fingers
    fingers_kept had all k = search (arith, rules, ends_inside places (had k), ends_kept places (had k))

    pub fingers_more : (new : List Ahead) → AreFingers places fingers → n ≤ length places →
        AreShifted n 0 1 fingers new → AreFingers (insert places n x) new
    fingers_more new had inside moved k =
        search (arith, rules, moved k, ends_later places (had k), ends_kept places (had k), cases_lt n)

  pub fingers_less : (x : ℕ) (new : List Ahead) → AreFingers (x ∷ places) fingers → AreShifted 0 1 0 fingers new →
      AreFingers places new
  fingers_less x new had moved k = search (arith, rules, moved k, λ (m : ℕ). had k (suc m), cases_lt 0)

-- ## Written back

pub refilled : {X : Type 0} (xs ws : List X) → length ws ≡ length xs → refill (length xs) xs ws ≡ ws
refilled xs ws same = grind (arith, common_steps, drop_all, append-nil, take_all)
