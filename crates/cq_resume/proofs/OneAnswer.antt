-- Of a text there is one answer. A text of a state in range is that of no other such state, and each of its lines is
-- allowed. So the text tells the state, whether that has the switch's shape, and which clauses hold of it; and of two
-- clauses that are the first to fail neither is before the other.
use Rattle.cq_resume.proofs.Terms.{◌≡◌, ◌≢◌, ℕ, List, refl, sym, ◌∙◌, arith, cases_lt, Clause, IsSound, HasShape, Switch, IsInRange, State, Taken, StateRefusal, rules}
use Rattle.cq_resume.specs.Reading.{HasOtherShape, IsRead, IsReadExact, IsRefusal}
use Rattle.cq_resume.specs.declared.refusal.StateRefusal.TheVariants as refusal
use Rattle.cq_state.proofs.{OneReading.state_is_exact, OneText.have_one_text}
use Rattle.cq_state.specs.State.{state_lines, state_text}
use Rattle.cq_state.specs.StateText.{IsStateFault}

each_clause : (w : Switch) (s : State) → IsSound w s → (k : ℕ) → Clause w s k
each_clause w s sound k = search rules

module _ (w : Switch) (text : List ℕ) where
  no_fault : (s : State) (line : ℕ) → IsInRange s → state_text s ≡ text → IsStateFault text line → ⊥
  no_fault s line a e fault =
      search (rules, state_is_exact.never_both (state_lines s) text line, have_one_text.allowed s a)

  no_other : (s : State) → IsInRange s → state_text s ≡ text → HasShape w s → HasOtherShape w text → ⊥
  no_other s a e shape o = o.other (rw (have_one_text.one_state o.state s o.in_range a (o.spelled ∙ sym e)) shape)

  never_refused : (x : Taken) (r : StateRefusal) → IsRead w text x → IsRefusal w text r → r ≡ refusal.NoMemory
  never_refused x refusal.NoMemory read memory = refl
  never_refused x r read why =
      absurd (search (arith, rules, no_fault read.state, no_other read.state, have_one_text.one_state, each_clause))

  one_refusal : (r s : StateRefusal) → r ≢ refusal.NoMemory → s ≢ refusal.NoMemory → IsRefusal w text r →
      IsRefusal w text s → r ≡ s
  one_refusal (refusal.Text m) (refusal.Text n) some other r s = cc (state_is_exact.one_fault text m n r s)
  one_refusal (refusal.Unsound j) (refusal.Unsound k) some other r s =
      search (arith, rules, have_one_text.one_state s.state r.state, cases_lt j k, cases_lt k j)
  one_refusal refusal.Shape refusal.Shape some other r s = refl
  one_refusal x y some other r s = absurd (search (arith, rules, no_fault, no_other))

pub read_exact : (w : Switch) → IsReadExact w
read_exact w = search (arith, rules, one_refusal w, never_refused w, have_one_text.one_state)
