-- Checks in order: where one holds, the next ones decide, and where one does not, it is the first.
use Rattle.cq_tables.proofs.Terms.{rules, arith, ◌≡◌, ℕ, List, [], ◌∷◌, ◌++◌, None, Result, IfErr, IfOk, refl, ◌∙◌, common_steps, TableRefusal, Data, Members, Place, Element, element_check, Key, table_checks, members, table_type, Check, Refuses, first, otherwise}
use Rattle.cq_tables.specs.declared.place.Array.{Array}

pub first_none : first [] ≡ None
unfolding first
first_none = refl

-- the next checks decide
pub first_on : (c : Check) (cs : List Check) → c ≡ None → first (c ∷ cs) ≡ first cs
unfolding first
first_on c cs e = rw e

-- a check that does not hold
pub first_here : (c : Check) (cs : List Check) (r : TableRefusal) → Refuses c r → Refuses (first (c ∷ cs)) r
unfolding first
first_here c cs r h = grind (arith, common_steps)

-- all hold
pub first_all : (c : Check) (cs : List Check) → c ≡ None → first cs ≡ None → first (c ∷ cs) ≡ None
first_all c cs e h = first_on c cs e ∙ h

pub first-append : (cs ds : List Check) → first (cs ++ ds) ≡ otherwise (first cs) (first ds)
unfolding first
first-append (None ∷ cs) ds = first-append cs ds
first-append cs ds = refl

-- ---- of an answer: a check that does not hold is the first, where those before it hold

pub otherwise_later : {A : Type 0} (r : Result A TableRefusal) (c d : Check) → c ≡ None → IfErr r (Refuses d) →
    IfErr r (Refuses (otherwise c d))
otherwise_later r c d e h = rw e h

-- where the first holds, both hold if the second does
pub otherwise_holds : {A : Type 0} (r : Result A TableRefusal) (c d : Check) → c ≡ None → IfOk r (λ _. d ≡ None) →
    IfOk r (λ _. otherwise c d ≡ None)
otherwise_holds r c d e h = grind (arith, common_steps)

pub here : {A : Type 0} (r : Result A TableRefusal) (c : Check) (cs : List Check) → IfErr r (Refuses c) →
    IfErr r (Refuses (first (c ∷ cs)))
here r c cs h = search (rules, first_here)

pub later : {A : Type 0} (r : Result A TableRefusal) (c : Check) (cs : List Check) → c ≡ None →
    IfErr r (Refuses (first cs)) → IfErr r (Refuses (first (c ∷ cs)))
later r c cs e h = rw (first_on c cs e) h

-- of two lists of checks
pub here_in : {A : Type 0} (r : Result A TableRefusal) (cs ds : List Check) → IfErr r (Refuses (first cs)) →
    IfErr r (Refuses (first (cs ++ ds)))
here_in r cs ds h = search (arith, rules, first-append)

pub later_in : {A : Type 0} (r : Result A TableRefusal) (cs ds : List Check) → first cs ≡ None →
    IfErr r (Refuses (first ds)) → IfErr r (Refuses (first (cs ++ ds)))
later_in r cs ds e h = rw (first-append cs ds, e) h

pub all_in : (cs ds : List Check) → first cs ≡ None → first ds ≡ None → first (cs ++ ds) ≡ None
all_in cs ds e h = first-append cs ds ∙ rw e h

-- ---- of an element: its table has these checks, at its place

pub element_refuses : {A : Type 0} (r : Result A TableRefusal) (array : Array) (keys : Place → List Key) (i : ℕ)
    (d : Data) (place : Place) (table : Members) → table_type d ≡ None → place ≡ Element array i → table ≡ members d
    → IfErr r (Refuses (first (table_checks place (keys place) table))) →
    IfErr r (Refuses (element_check array (λ _. keys) i d))
element_refuses r array keys i d place table type there seen told = grind (arith, common_steps, otherwise_later)

pub element_holds : {A : Type 0} (r : Result A TableRefusal) (array : Array) (keys : Place → List Key) (i : ℕ)
    (d : Data) (place : Place) (table : Members) → table_type d ≡ None → place ≡ Element array i → table ≡ members d
    → IfOk r (λ _. first (table_checks place (keys place) table) ≡ None) →
    IfOk r (λ _. element_check array (λ _. keys) i d ≡ None)
element_holds r array keys i d place table type there seen told = search (arith, rules)
