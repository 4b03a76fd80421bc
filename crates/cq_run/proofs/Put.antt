-- Texts that are put one after another. A text that was cut short after others were put whole is a front of all: what
-- was taken before it has a known length, so the front's length is that and the piece's. A front of a text is a front
-- of each longer text. So what comes of putting the pieces of a line that are left comes of putting the line.
use Rattle.cq_run.proofs.Terms.{◌≡◌, ◌<◌, ◌≤◌, ℕ, ◌+◌, List, [], ◌∷◌, ◌++◌, length, take, drop, get_or, refl, arith, append_assoc, Result, Ok, Err, IsErr, common_steps, append_known, flat_map, append-nil, take_at, take-append-drop, drop_all, drop_more, take-append-add, Taken, Puts, joined, line, piece_text}
use Rattle.cq_run.specs.declared.say.Piece.{Piece}
use Rattle.cq_space.specs.Whole.{PutsAll}
use Rattle.cq_space.specs.declared.whole.WriteFault.{WriteFault}

pub puts_as : {E : Type 0} (a b : List ℕ) (old new : Taken) (r : Result (Unit {0}) E) → a ≡ b → Puts a old new r →
    Puts b old new r
puts_as a b old new r e h = rw e at h

-- a front of a text is a front of a longer one
front_of_longer : (a b : List ℕ) (n : ℕ) → take n a ≡ take (length (take n a)) (a ++ b)
front_of_longer a b n = grind (arith, common_steps, take-append-drop, append_assoc, take_at)

-- the first of two texts was cut short
puts_cut : {E : Type 0} (a b : List ℕ) (old new : Taken) {fault : E} (r : Result (Unit {0}) E) → IsErr r →
    Puts a old new (Err fault) → Puts (a ++ b) old new r
puts_cut a b old new r err h = grind (arith, common_steps, front_of_longer a b)

-- the first of two texts was put whole, and then the second was put
puts_then : {E : Type 0} (a b : List ℕ) (old mid new : Taken) (r : Result (Unit {0}) E) →
    mid.bytes ≡ append_known old.bytes a → mid.faults ≡ old.faults → Puts b mid new r → Puts (a ++ b) old new r
puts_then a b old mid new r e l h = grind (arith, common_steps, take-append-add a b, append_assoc)

-- ## A line, piece after piece

joined_is : (ps : List Piece) → joined ps ≡ flat_map piece_text ps
joined_is [] = refl
joined_is (p ∷ ps) = grind (arith, common_steps, append-nil, joined_is ps)

-- a piece, as the whole of a call puts it
pub puts_all : {text text' : List ℕ} {old new : Taken} (r : Result (Unit {0}) WriteFault) → text ≡ text' →
    PutsAll old.bytes new.bytes old.faults new.faults text r → Puts text' old new r
puts_all r e h = grind (arith, common_steps)

module _ (ps : List Piece) where
  -- the line of the pieces from a place on
  abbrev left : ℕ → List ℕ
  left i = line (flat_map piece_text (drop i ps))

  -- what puts the pieces from this place on, since this moment, puts the line
  abbrev pub AreLeft : ℕ → Taken → Taken → Type 0
  AreLeft i start now =
      (new : Taken) (r : Result (Unit {0}) WriteFault) → Puts (left i) now new r → Puts (line (joined ps)) start new r

  pub all_left : (start : Taken) → AreLeft 0 start start
  all_left start new r h = rw (joined_is ps) h

  module _ {i : ℕ} {start now : Taken} (are : AreLeft i start now) where
    -- the line feed alone is left
    pub none_left : length ps ≤ i → {new : Taken} {r : Result (Unit {0}) WriteFault} →
        PutsAll now.bytes new.bytes now.faults new.faults (10 ∷ []) r → Puts (line (joined ps)) start new r
    unfolding line
    none_left over {new} {r} h = are new r (rw (drop_all i ps over) (puts_all r refl h))

    module _ (d : Piece) (inside : i < length ps) where
      abbrev piece : List ℕ
      piece = piece_text (get_or ps i d)

      next : left i ≡ piece ++ left (i + 1)
      unfolding line
      next = grind (arith, common_steps, drop_more ps i d inside, append_assoc)

      pub one_put : {after : Taken} → Puts {E = WriteFault} piece now after (Ok tt) → AreLeft (i + 1) start after
      one_put put new r h = are new r (rw next (puts_then _ _ _ _ new r put.bytes put.cause.uncounted h))

      pub one_cut : {new : Taken} {fault : WriteFault} (r : Result (Unit {0}) WriteFault) → IsErr r →
          Puts piece now new (Err fault) → Puts (line (joined ps)) start new r
      one_cut {new} r err cut = are new r (rw next (puts_cut _ _ _ new r err cut))
