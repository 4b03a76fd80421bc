-- What each kind of step makes of the words and of a seat's view. Only claims and proposals change
-- words, one word each.
--
--   kind                      step                              view that changes
--   making the first seat     none                              the new seat's
--   split                     load of word 0                    the new seat's
--   join                      load of word 0                    both seats'
--   look, after a join        load of word 0                    none
--   claim                     fetch_or on word 0                the claiming seat's
--   proposal                  fetch_min on an output's word     the proposing seat's
use Rattle.std.specs.Prelude.{ℕ, suc, ◌+◌, ◌∷◌, ◌^◌, List, [], length, Option, Some, None, slice_index, slice_set, nat_lt, if◌then◌else◌, min, replicate, bit_or}
use Rattle.cq_prefs.specs.Orders.{Orders, ports, outputs_of, place_of, position_of}
use Rattle.cq_prefs.specs.Proposals.{answer_of, output_at}
use Rattle.cq_prefs.specs.declared.outcome.Outcome.{Outcome}
use Rattle.cq_prefs.specs.declared.outcome.Outcome.TheVariants.{Held, Displaced, Rejected}
use Rattle.cq_ledger.specs.declared.view.View.{View}
use Rattle.cq_ledger.specs.Views.{claim_word}

-- ## The start

-- the words at the start: nobody is claimed, and nobody has proposed
abbrev pub first_words : Orders → List ℕ
first_words o = 0 ∷ replicate (ports o) (ports o)

-- the view of a seat that has claimed and made nothing
abbrev pub blank : Orders → View
blank o = record { claims = 0; hand = None; made = 0; seen = 0; began = None; told = None; offers = o }

-- ## A claim

-- the words after a claim of input i
abbrev pub words_claimed : List ℕ → ℕ → List ℕ
words_claimed words i = slice_set words 0 (bit_or (claim_word words) (2 ^ i))

-- a hand with input i at place p of its order, or an empty one where the order ends there
unfoldable pub hand_at : Orders → ℕ → ℕ → Option (ℕ × ℕ)
hand_at o i p = if nat_lt p (length (outputs_of o i)) then Some (i, p) else None

-- the input that was tried first, after one more was tried
abbrev pub first_tried : Option ℕ → ℕ → Option ℕ
first_tried None i = Some i
first_tried (Some k) i = Some k

-- the view after a claim that found input i unclaimed: it is claimed, and in the hand at its first place
abbrev pub claim_taken : View → ℕ → View
claim_taken v i = record {
  claims = bit_or v.claims (2 ^ i);
  hand = hand_at v.offers i 0;
  made = v.made;
  seen = v.seen;
  began = first_tried v.began i;
  told = v.told;
  offers = v.offers;
}

-- the view after a claim that found input i claimed
abbrev pub claim_refused : View → ℕ → View
claim_refused v i = record {
  claims = v.claims;
  hand = v.hand;
  made = v.made;
  seen = bit_or v.seen (2 ^ i);
  began = first_tried v.began i;
  told = v.told;
  offers = v.offers;
}

-- ## A proposal

-- the words after input i proposed at place p: the output's word is the lesser of itself and the input's position
abbrev pub words_proposed : Orders → List ℕ → ℕ → ℕ → List ℕ
words_proposed o words i p =
    slice_set words (suc (output_at o i p)) (min (slice_index words (suc (output_at o i p)))
    (position_of o (output_at o i p) i))

-- the hand after it: empty; or with the displaced input, at the place after this output; or with the same input, at its
-- next place
unfoldable pub hand_after : Orders → ℕ → ℕ → Outcome → Option (ℕ × ℕ)
hand_after o i p Held = None
hand_after o i p (Displaced k) = hand_at o k (place_of o k (output_at o i p) + 1)
hand_after o i p Rejected = hand_at o i (p + 1)

-- the view after input i proposed at place p, with this outcome
abbrev pub proposing : View → ℕ → ℕ → Outcome → View
proposing v i p answer = record {
  claims = v.claims;
  hand = hand_after v.offers i p answer;
  made = v.made + 1;
  seen = v.seen;
  began = v.began;
  told = Some (i, answer);
  offers = v.offers;
}

-- the same by what the word was
abbrev pub proposed : View → ℕ → ℕ → ℕ → View
proposed v i p found = proposing v i p (answer_of v.offers i p found)

-- ## A join

-- two views as one, where both hands are empty
abbrev pub joined : View → View → View
joined v w = record {
  claims = bit_or v.claims w.claims;
  hand = None;
  made = v.made + w.made;
  seen = bit_or v.seen w.seen;
  began = v.began;
  told = v.told;
  offers = v.offers;
}

-- the view that is left of a seat that was joined away
abbrev pub spent : View
spent = blank (record { outputs = []; inputs = [] })
