-- A line of the log is its slot and the numbers behind it, so it is read in one way: a text that begins with the line
-- of a transfer begins with its slot, and the fields behind that are the other numbers. They leave no choice of the
-- transfer.
-- The lines of a log that was read are in order: each is behind the one before it, and so behind all before it.
use Rattle.cq_audit.proofs.Terms.{ap, rules, ◌≡◌, ℕ, List, [], ◌++◌, length, Option, None, Some, refl, append_assoc, length-append, arith, ◌∷◌, common_steps, Transfer, log_line, IfSome, ⊤, IsTransfer, IsTransferBefore, Comes, IsLogExact, numbers_behind, AreInOrder, IsLog, AllByRecursion, Leads, all_weaker, ending, BeginsWith, one_number, ending_ends, one_ending}
use Rattle.cq_lines.proofs.Exact.{exact}

pub begins_with_slot : (text more : List ℕ) (t : Transfer) → text ≡ log_line t ++ more →
    BeginsWith text (Some t.slot) (ending (numbers_behind t) ++ more)
begins_with_slot text more t e = grind (arith, common_steps, append_assoc, ending_ends)

pub parts_of_line : (text rest more : List ℕ) (slot : ℕ) (t : Transfer) → BeginsWith text (Some slot) rest →
    text ≡ log_line t ++ more → (slot ≡ t.slot) × (rest ≡ ending (numbers_behind t) ++ more)
parts_of_line text rest more slot t begins e = search (arith, rules, one_number text rest, begins_with_slot)

-- one transfer's line stands there
pub one_log_line : (t u : Transfer) (x y : List ℕ) → IsTransfer t → IsTransfer u →
    log_line t ++ x ≡ log_line u ++ y → (t ≡ u) × (x ≡ y)
one_log_line t u x y is_t is_u e =
    let slot = parts_of_line (log_line t ++ x) _ y t.slot u (begins_with_slot (log_line t ++ x) x t refl) e in
    search (arith, rules, one_ending (numbers_behind t) (numbers_behind u) x y)

pub log_is_exact : (ports : ℕ) → IsLogExact ports
log_is_exact ports = exact log_line (Comes ports) (λ _. ⊤) (record {
  same = λ p q r t u x y _ f g e. let same = one_log_line t u x y f.0 g.0 e in grind (arith, common_steps);
  sound = λ p q t _ _. tt;
  some = λ p q t more step e. let size = ap length e in grind (arith, common_steps, append_assoc, length-append);
}) None (λ _. ⊤) tt

-- what comes behind a line, if there is one, is behind it
leads_in_order : (ports : ℕ) (last end : Option Transfer) (note : List Transfer) → Leads (Comes ports) last note end →
    AreInOrder ports note × IfSome last (λ t. AllByRecursion (IsTransferBefore t) note)
leads_in_order ports last end [] leads = grind (arith, common_steps)
leads_in_order ports last end (t ∷ note) leads =
    grind (arith, common_steps, all_weaker, leads_in_order ports (Some t) end note)

pub log_in_order : (ports : ℕ) (note : List Transfer) (log : List ℕ) → IsLog ports note log → AreInOrder ports note
log_in_order ports note log is = (leads_in_order ports None is.last note is.allowed).0
