-- How a command ends that was judged and, where that came to a plan, performed; and from how a run ends to what its
-- status says. Each end has one status, and what the end says of the verdict is what the status says of it, which the
-- table of refusals tells case by case. Words are refused only where they are no command: no judgement of contents
-- refuses them, since they are judged before any file is asked for.
use Rattle.cq_run.proofs.Terms.{Uncounted, common_steps, arith, ◌≡◌, ◌↔◌, ℕ, List, rules, [], ◌∷◌, ◌≢◌, Result, Ok, Err, Option, None, Some, IfSome, Call, Fails, Lasts, Writes, Contents, Space, Command, IsJudged, Pace, Plan, known_to, known_by, Reader, Taken, World, IsCut, IsDone, IsCutAtFile, Rose, Words, Emulates, judged, judged_or_words, StatusCauses, Status, ◌+◌, PortRow, captures_from, option_map, leb-true, command_for, most_slots, with_three, IsWithinRange, Ahead, InTurn, pace_of, number_from, as_run, run_of, streamed, most_ports, most_soak_slots}
use Rattle.cq_run.specs.declared.stop.Stop.{Stop}
use Rattle.cq_run.specs.declared.stop.Stop.TheVariants.{Cut, Halted}
use Rattle.cq_run.specs.declared.stop.Unwritten.{Unwritten}
use Rattle.cq_run.specs.Ending.{CommandEnds, EndsFor, WhereHalted, status_of}
use Rattle.cq_run.proofs.Chain.{fails_after}
use Rattle.std.specs.Int.{IsInRange}
use Rattle.cq_base.specs.declared.status.Status.TheVariants as status

-- what a command knows of a file space has its count of faults
known_faults : (command : Command) (s : Space) → (known_to command s).faults ≡ s.faults
known_faults command s = grind (arith, common_steps)

-- the count of faults that a command knows of is that of the file space
counts_known : (p : Pace) (U V : Type 0) (command : Command) (old new : Space) → (U → V) →
    Uncounted p U (known_to command old).faults (known_to command new).faults → Uncounted p V old.faults new.faults
counts_known p U V command old new f h = grind (arith, common_steps)

file_from : (ws : List (List ℕ × List ℕ)) (name : List ℕ) (old mid new : Space) → mid.told ≡ old.told →
    mid.faults ≡ old.faults → IsCutAtFile ws name mid new → IsCutAtFile ws name old new
file_from [] name old mid new t l h = h
file_from (w ∷ ws) name old mid new t l h = grind (arith, common_steps)

-- the file space at this moment, where standard output is as it was
abbrev at : {S : Type 0} → (S → Space) → Taken → S → World
at space out s = record { files = space s; out = out }

module _ {S : Type 0} {space : S → Space} {may_fail : Call → S → S → Type 0} {unbegun : S → S → Type 0}
    {pace : Pace} {command : Command} {old mid : S} (r : Reader) (out : Taken) where
  -- a plan that is cut short
  pub cut_short : {plan : Plan} → IsJudged space may_fail unbegun pace command old mid (Ok plan) →
      (keeps : S → S → Type 0) (new : S) (out_new : Taken) (T : Type 0) (unwritten : Unwritten) →
      Lasts keeps → keeps old mid →
      IsCut (λ name. Fails space may_fail keeps (Writes name) mid new) T plan (at space out mid)
      (at space out_new new) unwritten →
      CommandEnds pace r (λ _. Unit {0}) (λ name. Fails space may_fail keeps (Writes name) old new) T command
      (at space out old) (at space out_new new) (Err (Cut unwritten))
  cut_short is keeps new out_new T unwritten lasts kept h =
      let decides = is.judges r in
      grind (arith, common_steps, file_from, known_faults, fails_after, is.emulates r)

-- no writing was begun where the run halted, and the status tells whether it did
pub halted_so : {P : Type 0} (end : Result (Unit {0}) Stop) {answer : Status} → answer ≡ status_of end →
    WhereHalted end P → answer ≢ status.Done → answer ≢ status.WriteFault → P
halted_so end e h done cut = grind (arith, common_steps)

-- ## What the status says of such an end

-- a cut at a file was counted since the start
cut_rose : (ws : List (List ℕ × List ℕ)) (name : List ℕ) (old new : Space) → IsCutAtFile ws name old new →
    Rose old.faults new.faults
cut_rose [] name old new h = absurd h
cut_rose (w ∷ ws) name old new h = grind (arith, common_steps, cut_rose ws name)

-- no judgement of captures refuses words
never_captures : (r : Reader) (limit input : ℕ) (rows : List PortRow) (m : Contents) →
    captures_from r limit input rows m ≡ Err Words → ⊥
unfolding captures_from
never_captures r limit input [] m h = cc
never_captures r limit input (row ∷ rows) m h = grind (arith, common_steps, never_captures r limit (input + 1) rows m)

module _ (p : Pace) (a : Reader) (R W : List ℕ → Type 0) (T : Type 0) where
  command_causes : (command : Command) (old new : World) (end : Result (Unit {0}) Stop) →
      CommandEnds p a R W T command old new end →
      StatusCauses p (judged a command) (known_to command old.files).told old new (status_of end)
  command_causes command old new (Err (Halted halt)) h = search (arith, rules, counts_known)
  command_causes command old new end h = grind (arith, common_steps, cut_rose)

-- the answer of the top call is the status of its end
module _ (p : Pace) (a : Reader) (R W : List ℕ → Type 0) (T : Type 0) (command : Option Command) (old new : World)
    (end : Result (Unit {0}) Stop) {answer : Status} (is : answer ≡ status_of end)
    (ends : EndsFor p a R W T command old new end) where
  pub causes_at : {asked : Option Command} → asked ≡ command →
      StatusCauses p (judged_or_words a asked) (known_by asked old.files) old new answer
  causes_at same = grind (arith, common_steps, command_causes p a R W T)

  -- words that are no command end with the status of such words, and no others do
  pub words_end : (command ≡ None) ↔ (answer ≡ status.Words)
  words_end = (λ none. grind (arith, common_steps), λ w. search (arith, rules, never_captures))

  -- ## The headline

  pub emulated_at : (c : Command) → command ≡ Some c → answer ≡ status.Done →
      IfSome old.files.told (λ m. (plan : Plan) × Emulates a c m plan × IsDone plan old new)
  emulated_at c e done = search (arith, rules)

-- ## The numbers of a command that words are stand in their ranges

-- a number that a text writes is in its range
in_range : (least most : ℕ) (text : List ℕ) (n : ℕ) → number_from least most text ≡ Some n → IsInRange least most n
in_range least most text n e = grind (arith, common_steps, leb-true)

three_within : (word first second third : List ℕ) (command : Command) →
    with_three word first second third ≡ Some command → IsWithinRange command
three_within word first second third command e =
    grind (arith, common_steps, in_range 0 most_slots second, in_range 1 most_ports second, in_range 1 most_soak_slots)

pub words_within : (words : List (List ℕ)) (command : Command) → command_for words ≡ Some command →
    IsWithinRange command
words_within (word ∷ a ∷ b ∷ c ∷ []) command e = grind (arith, common_steps, three_within word a b c)
words_within words command e = grind (arith, common_steps)

-- ## The words `stream CONFIG` are judged as `run CONFIG`, ahead

-- what was found in the words, told of what it points to
module _ {A : Type 0} (found : Option A) (now : A → List ℕ) (words : List (List ℕ))
    (is : option_map now found ≡ streamed words) where
  pub others : found ≡ None → (as_run words ≡ words) × (pace_of words ≡ InTurn)
  others e = grind (arith, common_steps)

  pub streams : (config : A) → found ≡ Some config → (as_run words ≡ run_of (now config)) × (pace_of words ≡ Ahead)
  streams config e = grind (arith, common_steps)
