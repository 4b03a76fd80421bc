-- The captures of the ports, one after another. Where those of some ports were read, that of the next and then those of
-- the rest are left, and what ends one of these ends the whole. Where files are read ahead, reading leaves
-- contents as they are, so the first capture is judged as if nothing had come between. Where it ends the whole, the
-- later inputs say nothing but what the count of faults may show.
use Rattle.cq_run.proofs.Terms.{rules, ◌≡◌, ◌<◌, ℕ, ◌+◌, List, [], ◌∷◌, ◌++◌, ◌≤◌, append-nil, append_assoc, drop_all, drop_more, length, drop, get_or, arith, Result, Ok, Err, Option, Some, IfSome, IfOk, IfErr, MatchOption, common_steps, Contents, Space, Closed, Captured, PortRow, Refusal, Halt, Judges, Halts, Ahead, AnyName, Uncounted, Reader, ◌>>=◌, packets_at, captures_from, Spells, Call, Fails, Lasts, Reads}
use Rattle.cq_run.proofs.Chain.{packets_stay, Stands, both, stands_back, stands_first, stands_on, judges_then, counts_of, name_after, fails_after, capture_halts, capture_is}
use Rattle.cq_run.specs.declared.decoding.Decoding.{Decoding}
use Rattle.cq_run.specs.Decoding.{HasBegun, IsBegunFor, source}
use Rattle.cq_run.specs.Input.{IsHaltFor, IsInFront}

abbrev Packets : Type 0
Packets = List Captured

module _ (r : Reader) (limit : ℕ) (rows : List PortRow) where
  -- these packets, and behind them those of the ports from this one on
  abbrev pub left_from : ℕ → List Packets → Contents → Result (List Packets) Refusal
  left_from k made m = captures_from r limit k (drop k rows) m >>= (λ others. Ok (made ++ others))

  -- at first those of all ports
  pub first_left : {s : Space} → Stands (captures_from r limit 0 rows) (left_from 0 []) s s
  first_left = grind (arith, common_steps)

  -- at last none
  pub none_left : (k : ℕ) (made : List Packets) → length rows ≤ k → (m : Contents) → left_from k made m ≡ Ok made
  unfolding captures_from
  none_left k made over m = grind (arith, common_steps, drop_all, append-nil)

  -- those of the next port come first
  pub next_left : {k : ℕ} {row : PortRow} (made : List Packets) → k < length rows → row ≡ get_or rows k row →
      (m : Contents) →
      left_from k made m ≡ both (packets_at r k limit row.read) (λ q. left_from (k + 1) (made ++ q ∷ [])) m
  unfolding captures_from
  next_left {k} {row} made inside is m = search (arith, rules, drop_more, append_assoc)

-- ## Reading ahead: the first input was read before the later ones, and is looked at once these have been read

module _ (r : Reader) (input limit : ℕ) where
  -- its packets are what arrives there
  arrived : (told : Option Contents) (packets : List Captured) (read : Option (List ℕ)) (begun : Option Decoding)
      → IsBegunFor read input limit told begun → MatchOption begun (packets ≡ []) (λ d. Spells (source d) packets)
      → IfSome told (λ m. packets_at r input limit read m ≡ Ok packets)
  arrived told packets (Some name) (Some d) b h = grind (arith, common_steps, capture_is r name input limit (source d))
  arrived told packets read begun b h = grind (arith, common_steps)

  -- what is wrong with its bytes ends judging
  halted : (R : List ℕ → Type 0) (old new : Space) (halt : Halt) (read : Option (List ℕ)) (begun : Option Decoding)
      → IsBegunFor read input limit old.told begun → MatchOption begun ⊥ (λ d. IsHaltFor input (source d) halt)
      → Uncounted Ahead (AnyName R) old.faults new.faults → Halts Ahead (packets_at r input limit read) R old new halt
  halted R old new halt read begun b h k = grind (arith, common_steps, capture_halts)

-- ## The first input, and those after it

module _ (r : Reader) (limit input : ℕ) (row : PortRow) (rows : List PortRow) where
  abbrev then_later : List Captured → Contents → Result (List (List Captured)) Refusal
  then_later packets m = captures_from r limit (input + 1) rows m >>= (λ others. Ok (packets ∷ others))

-- what failed since the first file was read failed since this call began, for no fault was counted before
module _ {S : Type 0} (space : S → Space) {keeps : S → S → Type 0} {row : PortRow} {input limit : ℕ} {old mid : S}
    {begun : Option Decoding} (b : HasBegun row input limit (space old) (space mid) begun)
    (closed : (space mid).mode ≡ Closed) (told : (space mid).told ≡ (space old).told) (kept : keeps old mid)
    (lasts : Lasts keeps) (r : Reader) (rows : List PortRow) (may_fail : Call → S → S → Type 0) (new : S)
  where
    -- a call that reads this name failed since the first file was read, or since this call began
    abbrev Since : List ℕ → Type 0
    Since name = Fails space may_fail keeps (Reads name) mid new

    abbrev Ever : List ℕ → Type 0
    Ever name = Fails space may_fail keeps (Reads name) old new

    ever : (name : List ℕ) → Since name → Ever name
    ever name = fails_after lasts b.uncounted kept

    first : (packets : List Captured) → MatchOption begun (packets ≡ []) (λ d. Spells (source d) packets) →
        Judges Ahead (packets_at r input limit row.read) Ever (space old) (space mid) (Ok packets)
    first packets h = search (arith, rules, arrived r input limit (space old).told packets row.read begun b.decoding h)

    -- whatever the first and the later ones came to, with the first in front
    pub together : (first : Result (List Captured) Halt) (later result : Result (List (List Captured)) Halt) →
        IfOk first (λ packets. MatchOption begun (packets ≡ []) (λ d. Spells (source d) packets)) →
        IfErr first (λ halt. MatchOption begun ⊥ (λ d. IsHaltFor input (source d) halt)) →
        Judges Ahead (captures_from r limit (input + 1) rows) Since (space mid) (space new) later →
        IsInFront first later result →
        Judges Ahead (captures_from r limit input (row ∷ rows)) Ever (space old) (space new) result
    unfolding captures_from
    together (Err halt) later result spelt halts g is =
        let here = halted r input limit Ever (space old) (space new) halt row.read begun b.decoding halts in
        rw is (judges_then (then_later r limit input row rows) (λ name u. u)
        (search (arith, rules, name_after, ever, counts_of)))
    together (Ok packets) later result spelt halts g is =
        let at = stands_on (then_later r limit input row rows) (packets_stay r input limit row.read) stands_first
        (first packets spelt) in search (arith, rules, stands_back, judges_then, ever, first packets spelt)
