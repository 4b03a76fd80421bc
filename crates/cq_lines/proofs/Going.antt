-- Reading a text line by line. What was read so far leads from the start to the place where the next line comes, and
-- its spelling stands at the front of the text. One line more keeps this. At the end of the text it is a whole text
-- or lacks a line.
use Rattle.cq_lines.proofs.Terms.{rules, arith, ◌≡◌, ℕ, List, [], ◌∷◌, ◌++◌, Result, Ok, Err, OnOk, refl, sym, subst, append_assoc, flat_map, result_or, append-nil, flat_map-append, Leads}

pub record SoFar {P X : Type 0} (spelling : X → List ℕ) (Rule : P → X → P →
    Type 0) (start : P) (text : List ℕ) (before : List X) (last : P) (rest : List ℕ) : Type 0 where
  pub allowed : Leads Rule start before last
  pub spelled : text ≡ flat_map spelling before ++ rest

leads_more : {P X : Type 0} (Rule : P → X → P → Type 0) (p : P) (xs : List X) (q : P) (x : X) (r : P) →
    Leads Rule p xs q → Rule q x r → Leads Rule p (xs ++ x ∷ []) r
leads_more Rule p [] q x r e step = (r, subst (λ s. Rule s x r) (sym e) step, refl)
leads_more Rule p (y ∷ xs) q x r l step = (l.0, l.1, leads_more Rule l.0 xs q x r l.2 step)

module _ {P X : Type 0} (spelling : X → List ℕ) (Rule : P → X → P → Type 0) (start : P) (text : List ℕ) where
  pub one_line_more : (before after : List X) (last next : P) (rest more : List ℕ) (x : X) →
      SoFar spelling Rule start text before last rest → Rule last x next → rest ≡ spelling x ++ more →
      after ≡ before ++ x ∷ [] → SoFar spelling Rule start text after next more
  one_line_more before after last next rest more x had step e longer =
      search (arith, rules, leads_more, append_assoc, flat_map-append, append-nil)

-- a call that ends well under another word for its refusal ends well, and what it tells then holds
pub ends_well : {T D E P : Type 0} (r : Result T D) (e : E) (x : T) → OnOk r P → Ok x ≡ result_or r (Err e) → P
ends_well r e x told is = search (rules)
