-- What version 1 accepts as classes version 2 accepts too. A class that version 1 accepts has no key but the priority
-- and the cost, and so none that version 2 does not know. And since it has no level, its level is the default, which
-- every class has in version 1. So it is from class to class.
use Rattle.cq_tables.proofs.Terms.{arith, rules, ◌≡◌, ℕ, suc, Bool, true, cond, List, [], ◌∷◌, map, Option, None, refl, codes, cond-true, Data, Members, no_members, member, get_member, Classes, Place, Check, each, first, otherwise, class_array, class_keys, class_row, class_rows, element_check, elements_at, check_of, least_unknown, lesser, table_checks, members, common_steps}
use Rattle.cq_tables.specs.declared.version.Version.TheVariants.{One, Two}
use Rattle.cq_tables.proofs.Checks.{first_all, first_none}

-- ## Checks in a row

both_none : (c d : Check) → otherwise c d ≡ None → (c ≡ None) × (d ≡ None)
both_none c d h = grind (arith, common_steps)

-- where both hold, so does the first with another in the place of the second, which follows from it
then_other : (c d e : Check) → (d ≡ None → e ≡ None) → otherwise c d ≡ None → otherwise c e ≡ None
then_other c d e on h = grind (arith, common_steps)

pub first_parts : (c : Check) (cs : List Check) → first (c ∷ cs) ≡ None → (c ≡ None) × (first cs ≡ None)
unfolding first
first_parts c cs h = grind (arith, common_steps)

-- ## The keys of one class

abbrev first_keys : List (List ℕ)
first_keys = codes "priority" ∷ codes "cost" ∷ []

abbrev all_keys : List (List ℕ)
all_keys = codes "priority" ∷ codes "cost" ∷ codes "level" ∷ []

-- where no key is unknown, the first one is known, and none of the others is unknown
known_first : (b : Bool) (k : List ℕ) (o : Option (List ℕ)) → cond b o (lesser k o) ≡ None → (b ≡ true) × (o ≡ None)
known_first b k o h = grind (arith, common_steps)

known_more : (table : Members) → least_unknown first_keys table ≡ None → least_unknown all_keys table ≡ None
unfolding least_unknown
known_more no_members h = refl
known_more (member k d ms) h = search (arith, rules, known_first, cond-true, known_more ms)

no_level : (table : Members) → least_unknown first_keys table ≡ None → get_member (codes "level") table ≡ None
unfolding least_unknown
no_level no_members h = refl
no_level (member k d ms) h = search (arith, rules, known_first, no_level ms)

-- ## One class

all_known : (place : Place) (table : Members) → first (table_checks place (class_keys One place) table) ≡ None →
    least_unknown first_keys table ≡ None
unfolding first
all_known place table holds = search (arith, rules)

abbrev in_one : ℕ → Data → Check
in_one = element_check Classes (λ _. class_keys One)

abbrev in_two : ℕ → Data → Check
in_two = element_check Classes (λ _. class_keys Two)

-- ## All classes

all_hold : (i : ℕ) (ds : List Data) → first (each in_one i ds) ≡ None → first (each in_two i ds) ≡ None
unfolding each
all_hold i [] h = first_none
all_hold i (d ∷ ds) h = search
    (arith, rules, first_parts, first_all, then_other, known_more, all_known, no_level, first_none, all_hold (suc i) ds)

all_same : (i : ℕ) (ds : List Data) → first (each in_one i ds) ≡ None →
    map (class_row Two) (map members ds) ≡ map (class_row One) (map members ds)
unfolding each
all_same i [] h = refl
all_same i (d ∷ ds) h = search (arith, rules, first_parts, no_level, all_known, all_same (suc i) ds)

module _ (top : Members) (holds : check_of top (class_array One) ≡ None) where
  -- the classes that the document states
  abbrev stated : List Data
  stated = elements_at (get_member (codes "class") top)

  pub accepted : check_of top (class_array Two) ≡ None
  accepted = search (rules, then_other, all_hold)

  pub same_classes : class_rows Two top ≡ class_rows One top
  same_classes = search (arith, rules, all_same 0 stated, both_none)
