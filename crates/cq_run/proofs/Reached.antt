-- What is known at a moment of judging a command. All that was judged so far was accepted: no fault was counted, the
-- file space is closed, its contents are as before, and of these the command comes to what is left to judge. So where a
-- name that is read next is unread or refused, or what was read is judged, that is what the command comes to.
use Rattle.cq_run.proofs.Terms.{rules, arith, ◌≡◌, ◌⊎◌, ℕ, IsTrue, List, inl, length, IfOk, IfSome, Result, Ok, Err, common_steps, AllByRecursion, Captured, Tables, Call, Fails, Lasts, Reads, Closed, Contents, Space, Command, Given, Refusal, Halt, NoMemory, Refused, Unread, Aim, Auditing, Crossing, Denies, Exactly, Meets, Parting, Resuming, Departure, switched, command_asking, ideally_sent, state_in, text_in, IsGiven, judged_of_given, Emulates, AreRead, IfSome_then, refl, IsJudged, IsHaltOf, Judges, Pace, InTurn, Plan, Decides, known_to, Reader, meaning_of, ◌>>=◌, MayRead, MayWrite, captures_in, judged, tables_in, AreTables, ports_of, IsErrAnd}
use Rattle.cq_run.specs.declared.denial.Denial.TheVariants.{LongLog, LongTrace}
use Rattle.cq_run.specs.declared.judge.Asked.{Asked}
use Rattle.cq_run.specs.declared.judge.Asked.TheVariants as asked
use Rattle.cq_run.proofs.Chain.{ComesTo, Stands, both, comes_on, stands_back, stands_first, stands_on, judges_then, fails_after, Stays, captures_from_stay, tables_stay, from_front}

-- what the exit of a `?` returns, where the conversion of the error is told by an equation
pub exit_is : {T E : Type 0} {e : E} (r : Result T E) → IsErrAnd r (λ y. y ≡ e) → r ≡ Err e
exit_is r h = grind (arith, common_steps)

-- ## What is computed of all that was read

-- a plan that meets the aim; why there is no aim, or none that is met; or want of memory
abbrev pub Settles : Result Aim Refusal → Result Plan Halt → Type 0
Settles v (Ok plan) = (aim : Aim) × (v ≡ Ok aim) × Meets aim plan
Settles v (Err (Refused refusal)) =
    IsTrue (meaning_of refusal).untold × ((v ≡ Err refusal) ⊎ ((aim : Aim) × (v ≡ Ok aim) × Denies aim refusal))
Settles v (Err (Unread name)) = ⊥
Settles v (Err NoMemory) = Unit {0}

-- what the ideal switch sends is judged last
abbrev pub sent_of : (Tables → List (List Captured) → List Departure → Aim) → Reader → Tables → List (List Captured) →
    Contents → Result Aim Refusal
sent_of aim_of r t captures m = ideally_sent t captures >>= (λ sent. Ok (aim_of t captures sent))

-- what is judged of what a configuration gives, where this is asked of it
abbrev pub rest_of : Asked → Reader → Tables → List (List Captured) → Contents → Result Aim Refusal
rest_of asked.Ideal r t captures m = sent_of (λ v c sent. Exactly (switched v c sent)) r t captures m
rest_of asked.Run r t captures m = sent_of Crossing r t captures m
rest_of asked.Audit r t captures m =
    text_in LongTrace t.trace m >>= (λ trace. text_in LongLog t.log m >>= (λ log.
    sent_of (λ v c sent. Auditing v c sent trace log) r t captures m))
rest_of (asked.Part slots name) r t captures m = Ok (Parting t captures slots name)
rest_of (asked.Resume name) r t captures m = state_in name m >>= (λ text. Ok (Resuming t captures text))

-- so the command is judged that asks this; it knows all of the files, and may read any name
asks : (config : List ℕ) (asked : Asked) (r : Reader) →
    judged r (command_asking config asked) ≡ judged_of_given r config (rest_of asked r)
asks config asked r = search (arith, rules)

asks_known : (config : List ℕ) (asked : Asked) (s : Space) → known_to (command_asking config asked) s ≡ s
asks_known config asked s = grind (arith, common_steps)

asks_any : (config : List ℕ) (asked : Asked) (name : List ℕ) → MayRead (command_asking config asked) name
asks_any config asked name = grind (arith, common_steps)

-- what is known at such a moment, of a command that knows all of the files
pub record Reached {S : Type 0} (space : S → Space) (keeps : S → S → Type 0) (command : Command) (old now : S)
    (rest : Reader → Contents → Result Aim Refusal) : Type 0 where
  pub knows : (s : Space) → known_to command s ≡ s
  pub stands : (r : Reader) → Stands (judged r command) (rest r) (space old) (space now)
  pub kept : keeps old now
  pub closed : (space now).mode ≡ Closed

-- a name that the command may read, in a call that failed
abbrev Failed : {S : Type 0} → (S → Space) → (Call → S → S → Type 0) → (S → S → Type 0) → Command → S → S → List ℕ
    → Type 0
Failed space may_fail keeps command old new name =
    MayRead command name × Fails space may_fail keeps (Reads name) old new

module _ {S : Type 0} {space : S → Space} {keeps : S → S → Type 0} {command : Command} {old : S} where
  -- at first all is left
  pub begun : ((s : Space) → known_to command s ≡ s) → Lasts keeps → (space old).mode ≡ Closed →
      Reached space keeps command old old (λ r. judged r command)
  begun knows lasts closed = search (arith, rules, stands_first, lasts.none old)

  -- what was read next is accepted
  pub read_on : {A : Type 0} {mid new : S} {j : Reader → Contents → Result A Refusal}
      (f : Reader → A → Contents → Result Aim Refusal) → Lasts keeps →
      Reached space keeps command old mid (λ r m. j r m >>= (λ x. f r x m)) → keeps mid new →
      {q : Pace} {Q : List ℕ → Type 0} {x : A} → ((r : Reader) → Stays (j r)) →
      ((r : Reader) → Judges q (j r) Q (space mid) (space new) (Ok x)) →
      Reached space keeps command old new (λ r. f r x)
  read_on {mid = mid} {new = new} {j = j} f lasts reached kept {q} {Q} {x} stays h =
      let front = h from_front in
      let stands = λ (r : Reader). stands_on (f r) (stays r) (reached.stands r) (h r) in
      search (arith, rules, stands, lasts.both)

-- once a configuration and its captures are read, what is judged of these is left
comes_so : (r : Reader) (config : List ℕ) (asked : Asked) (t : Tables) (captures : List (List Captured))
    (m : Contents) → AreRead r config m t captures →
    ComesTo (judged r (command_asking config asked)) (rest_of asked r t captures) m
comes_so r config asked t captures m read = rw (asks config asked r) (comes_on (captures_in r t) (rest_of asked r t)
    captures (captures_from_stay r t.limit_bytes 0 t.ports) m read.captured
    (comes_on (tables_in config) (λ t. both (captures_in r t) (rest_of asked r t)) t (tables_stay config) m
    read.configured (record { same = refl; without = λ name. inl refl })))

pub given_so : {S : Type 0} {space : S → Space} {keeps : S → S → Type 0} {config : List ℕ} {old now : S} {given : Given}
    (asked : Asked) → IsGiven space keeps config old now given →
    Reached space keeps (command_asking config asked) old now (λ r. rest_of asked r given.tables given.captures)
given_so {config = config} asked is = record {
  knows = asks_known config asked;
  stands = λ r. search (arith, rules, IfSome_then, is.read r, comes_so r config asked);
  kept = is.kept;
  closed = is.closed;
}

module _ {S : Type 0} {space : S → Space} {may_fail : Call → S → S → Type 0} {keeps : S → S → Type 0}
    {command : Command} {p : Pace} {old new : S} where
  -- judging ends without a plan
  halted : {halt : Halt} → ((s : Space) → known_to command s ≡ s) → ((r : Reader) →
      Judges p (judged r command) (Failed space may_fail keeps command old new) (space old) (space new) (Err halt)) →
      keeps old new → IsJudged space may_fail keeps p command old new (Err halt)
  halted {halt} knows h kept =
      let halts : (r : Reader) → Decides p (judged r command) (Failed space may_fail keeps command old new)
      (known_to command (space old)) (known_to command (space new)) (Err halt) =
      λ r. rw (knows (space old), knows (space new)) (inl (h r)) in search (arith, rules, halts, h from_front)

  -- what is read next ends judging
  pub read_ends : {A : Type 0} {mid : S} {j : Reader → Contents → Result A Refusal}
      (f : Reader → A → Contents → Result Aim Refusal) → Lasts keeps →
      Reached space keeps command old mid (λ r m. j r m >>= (λ x. f r x m)) → keeps mid new →
      {R : List ℕ → Type 0} {halt : Halt} →
      ((r : Reader) → Judges p (j r) R (space mid) (space new) (Err halt)) →
      ((name : List ℕ) → R name → MayRead command name × Fails space may_fail keeps (Reads name) mid new) →
      IsJudged space may_fail keeps p command old new (Err halt)
  read_ends f lasts reached kept h i = halted reached.knows (λ r. stands_back
      (λ name u. (search (arith, rules, i, fails_after, (reached.stands from_front).uncounted))) (reached.stands r)
      (judges_then (f r) (λ name u. u) (h r))) (search (rules, lasts.both, reached.kept))

  -- memory runs out
  pub no_memory : {rest : Reader → Contents → Result Aim Refusal} → Reached space keeps command old new rest →
      IsJudged space may_fail keeps p command old new (Err NoMemory)
  no_memory reached = halted reached.knows (λ r. grind (arith, common_steps, reached.stands r)) reached.kept

  -- what was read is judged
  pub settled : {v : Result Aim Refusal} → Reached space keeps command old new (λ r m. v) →
      (result : Result Plan Halt) → Settles v result →
      IfOk result (λ plan. AllByRecursion (λ write. MayWrite command write.0) plan.writes) →
      ((r : Reader) → IfOk result (λ plan. IfSome (space old).told (λ m. Emulates r command m plan))) →
      IsJudged space may_fail keeps p command old new result
  settled reached result h names emulates =
      let judges : (r : Reader) → Decides p (judged r command) (Failed space may_fail keeps command old new)
      (known_to command (space old)) (known_to command (space new)) result =
      λ r. grind (arith, common_steps, reached.knows, reached.stands r) in
      let front = reached.stands from_front in search (arith, rules, judges)

  -- judging ends in what is computed of one result
  module _ {A : Type 0} (w : Result A Refusal) (f : A → Aim)
      (reached : Reached space keeps command old new (λ r m. w >>= (λ x. Ok (f x)))) where
    -- which is refused, or
    pub computed_halts : (halt : Halt) → IsHaltOf w halt → IsJudged space may_fail keeps p command old new (Err halt)
    computed_halts halt h = settled reached (Err halt) (grind (arith, common_steps)) tt (λ r. tt)

    -- has a plan that meets what it aims at
    pub computed_plans : {x : A} {plan : Plan} → w ≡ Ok x → Meets (f x) plan →
        AllByRecursion (λ write. MayWrite command write.0) plan.writes →
        ((r : Reader) → IfSome (space old).told (λ m. Emulates r command m plan)) →
        IsJudged space may_fail keeps p command old new (Ok plan)
    computed_plans {x} {plan} e meets names emulates = grind (arith, common_steps, settled reached (Ok plan))

-- ## Reading a configuration and its captures, in turn or ahead

module _ {S : Type 0} {space : S → Space} {may_fail : Call → S → S → Type 0} {keeps : S → S → Type 0}
    (config : List ℕ) {old new : S} {p : Pace} {halt : Halt} (asked : Asked) where
  -- the configuration ends it, which is read before anything can be read ahead
  pub tables_end : keeps old new → Judges InTurn (tables_in config)
      (λ name. (name ≡ config) × Fails space may_fail keeps (Reads name) old new) (space old) (space new) (Err halt) →
      IsJudged space may_fail keeps p (command_asking config asked) old new (Err halt)
  tables_end kept h = halted (asks_known config asked)
      (λ r. grind (arith, common_steps, asks config asked r, asks_any config asked)) kept

  -- the captures end it
  pub captures_end : {mid : S} {t : Tables} {Q : List ℕ → Type 0} → Lasts keeps →
      Judges InTurn (tables_in config) Q (space old) (space mid) (Ok t) → keeps old mid → ((r : Reader) →
      Judges p (captures_in r t) (λ name. Fails space may_fail keeps (Reads name) mid new) (space mid) (space new)
      (Err halt)) → keeps mid new → IsJudged space may_fail keeps p (command_asking config asked) old new (Err halt)
  captures_end {t = t} lasts read kept h kept_on = halted (asks_known config asked) (λ r. rw (asks config asked r)
      (stands_back (λ name u. (asks_any config asked name, fails_after lasts read.uncounted kept u))
      (stands_on _ (tables_stay config) stands_first read)
      (judges_then _ (λ name u. u) (h r)))) (lasts.both old _ new kept kept_on)

-- both are there
pub given_read : {S : Type 0} {space : S → Space} {keeps : S → S → Type 0} {config : List ℕ} {old mid new : S}
    {p : Pace} {t : Tables} {captures : List (List Captured)} {Q R : List ℕ → Type 0} → Lasts keeps → AreTables t →
    Judges InTurn (tables_in config) Q (space old) (space mid) (Ok t) → keeps old mid →
    ((r : Reader) → Judges p (captures_in r t) R (space mid) (space new) (Ok captures)) →
    length captures ≡ ports_of t.setup → keeps mid new →
    IsGiven space keeps config old new (record { tables = t; captures = captures })
given_read {space = space} {config = config} {old = old} {mid = mid} {new = new} {t = t} {captures = captures} lasts
    in_range read kept h each kept_on =
    let front = h from_front in
    let arrive : (r : Reader) → IfSome (space old).told (λ m. AreRead r config m t captures) =
    λ r. grind (arith, common_steps, (h r).ok) in search (arith, rules, arrive, lasts.both)
