-- A name that is read piece after piece: the calls of a file space one after another, and of each what the trait says,
-- from the moment before it to the moment after it.
use Rattle.std.specs.Prelude.{◌≡◌, ℕ, ◌<◌, ◌≤◌, true, List, [], ◌++◌, length, take, Ok}
use Rattle.cq_space.specs.Answering.{HasAnswered}
use Rattle.cq_space.specs.Call.{Call, StartRead, Read}
use Rattle.cq_space.specs.Causes.{Rose}
use Rattle.cq_space.specs.Space.{Space, Finds, ReadsOn, Closes}
use Rattle.cq_space.specs.declared.files.Failed.{Failed}

module _ {S : Type 0} (space : S → Space) (may_fail : Call → S → S → Type 0) (may_pass : S → Type 0)
    (may_move : S → ℕ → Type 0) (gives : S → List ℕ → S → Type 0) (counts leaves keeps : S → S → Type 0) where
  -- the name was begun to be read
  pub record Starts (name : List ℕ) (before after : S) : Type 0 where
    pub found : Finds (space before) (space after) name true
    pub told : (space after).told ≡ (space before).told
    pub answered : HasAnswered {E = Failed} space (StartRead name) may_fail may_pass counts keeps before after (Ok true)

  -- a read gave this piece, as the object itself tells it
  pub record Gives (piece : List ℕ) (before after : S) : Type 0 where
    pub buf : List ℕ
    pub count : ℕ
    pub front : piece ≡ take count buf
    pub next : ReadsOn (space before) (space after) buf count
    pub told : (space after).told ≡ (space before).told
    pub moved : may_move before count
    pub given : gives before piece after
    pub answered : HasAnswered {E = Failed} space Read may_fail may_pass counts keeps before after (Ok count)

  -- reading was ended
  pub record Ends (before after : S) : Type 0 where
    pub closed : Closes (space before) (space after)
    pub uncounted : (space after).faults ≡ (space before).faults
    pub left : leaves before after
    pub kept : keeps before after

  -- a call failed
  pub record Breaks (call : Call) (before after : S) : Type 0 where
    pub closed : Closes (space before) (space after)
    pub rose : Rose (space before).faults (space after).faults
    pub why : may_fail call before after
    pub counted : counts before after
    pub kept : keeps before after

  -- the name was begun to be read, and the reads that followed, each of at least one byte, gave these bytes
  pub data HasTaken (name : List ℕ) (old : S) : List ℕ → S → Type 0 where
    Begun : (now : S) → Starts name old now → HasTaken name old [] now
    More : (bytes piece : List ℕ) (mid now : S) → HasTaken name old bytes mid → 0 < length piece →
        Gives piece mid now → HasTaken name old (bytes ++ piece) now

  -- so many bytes of the name were taken, and reading was ended
  pub record TakesSoMany (name : List ℕ) (n : ℕ) (old new : S) : Type 0 where
    pub bytes : List ℕ
    pub so_many : length bytes ≡ n
    pub last : S
    pub taken : HasTaken name old bytes last
    pub ended : Ends last new

  -- these bytes of the name were taken, the next read gave none, and reading was ended
  pub record TakesAll (name bytes : List ℕ) (old new : S) : Type 0 where
    pub last : S
    pub taken : HasTaken name old bytes last
    pub end : S
    pub none : Gives [] last end
    pub ended : Ends end new

  -- the last call of a reading failed: the one that was to begin it, or, after so many bytes of the name at most were
  -- taken, the next read
  pub data BreaksOff (name : List ℕ) (most : ℕ) (old new : S) : Type 0 where
    AtOnce : Breaks (StartRead name) old new → BreaksOff name most old new
    Later : (bytes : List ℕ) (last : S) → HasTaken name old bytes last → length bytes ≤ most → Breaks Read last new →
        BreaksOff name most old new
