-- A name that is written, or read, piece after piece: what was put so far, and what was taken and what is left.
use Rattle.cq_space.proofs.Terms.{◌∙◌, rules, arith, ◌≡◌, ℕ, ◌+◌, ◌-◌, ◌≤◌, List, length, take, drop, ap, append_assoc, ◌++◌, take-add, take_rest, length-drop, append_known, Option, Some, IfSome, nat_list_cmp_total, get, get-insert, Contents, Mode, Closed, Reading, Writing, IsReading, replaced, appended, written_name}
use Rattle.std.specs.FinMap.{insert}
use Rattle.cq_space.proofs.InMemory.{same_self, same_answers}

pub length-rest : (bs : List ℕ) (done n : ℕ) → done ≤ length bs →
    n ≤ length (take (length bs - done) (drop done bs)) → done + n ≤ length bs
length-rest bs done n h k = let e = ap length (take_rest bs done) in omega (arith, e, length-drop done bs)

-- one more piece
pub put_on : (known before now : Option (List ℕ)) (bs : List ℕ) (done n : ℕ) →
    before ≡ append_known known (take done bs) →
    now ≡ append_known before (take n (take (length bs - done) (drop done bs))) →
    now ≡ append_known known (take (done + n) bs)
put_on known before now bs done n front piece = search (arith, rules, take_rest, append_assoc, take-add)

pub get_same : (m : Contents) (name bytes : List ℕ) → get (insert m name bytes) name ≡ Some bytes
get_same m name bytes = get-insert nat_list_cmp_total m name bytes name ∙ rw (same_self name)

insert-insert : (m : Contents) (name front bytes : List ℕ) →
    insert (insert m name front) name bytes ≡ insert m name bytes
insert-insert m name front bytes =
    search (arith, rules, same_answers, get-insert {X = List ℕ} nat_list_cmp_total)

-- one more piece of the bytes of a name
pub replaced_on : (start before now : Option Contents) (mode : Mode) (name bytes : List ℕ) (done n : ℕ) →
    mode ≡ Writing name → before ≡ replaced name (take done bytes) start →
    now ≡ appended (written_name mode) (take n (take (length bytes - done) (drop done bytes))) before →
    now ≡ replaced name (take (done + n) bytes) start
replaced_on start before now mode name bytes done n begun front piece =
    search (arith, rules, take_rest, take-add, get_same, insert-insert)

-- these bytes were taken of the name, and what is left is the rest
abbrev pub LeftAfter : Contents → List ℕ → List ℕ → Mode → Type 0
LeftAfter m name taken Closed = ⊥
LeftAfter m name taken (Reading at left) = get m name ≡ Some (taken ++ left)
LeftAfter m name taken (Writing at) = ⊥

-- reading goes on, and where contents are told these bytes were taken of the name
pub record HasRead (told : Option Contents) (name taken : List ℕ) (mode : Mode) : Type 0 where
  pub reading : IsReading mode
  pub left : IfSome told (λ m. LeftAfter m name taken mode)
