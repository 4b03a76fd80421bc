-- Only proofs use this.
-- What the lines that were read so far tell of a state: each line adds what it tells.
use Rattle.std.specs.Prelude.{ℕ, ◌+◌, ◌<◌, ◌^◌, List, [], ◌∷◌, ◌++◌, map, drop, get_or, unwrap_or, Option, None, ⊤}
use Rattle.cq_base.specs.declared.cell.Transfer.{Transfer}
use Rattle.cq_state.specs.declared.kind.Kind.{Kind}
use Rattle.cq_state.specs.declared.kind.Kind.TheVariants as kind
use Rattle.cq_state.specs.declared.state.Head.{Head}
use Rattle.cq_state.specs.declared.state.Seen.{Seen}
use Rattle.cq_state.specs.declared.state.Named.{Named}
use Rattle.cq_state.specs.declared.state.Sent.{Sent}
use Rattle.cq_state.specs.declared.state.State.{State}
use Rattle.cq_state.specs.StateText.{Line}

-- the number in a place, and 0 where there is none
abbrev pub number_at : List (Option ℕ) → ℕ → ℕ
number_at fs i = unwrap_or (get_or fs i None) 0

-- what the line of an input tells
abbrev pub seen_of : List (Option ℕ) → Seen
seen_of fs = record { longest = number_at fs 1; slack = get_or fs 2 None }

-- the numbers that the line of a rank machine tells, behind its output
abbrev pub rank_of : List (Option ℕ) → List ℕ
rank_of fs = map (λ f. unwrap_or f 0) (drop 1 fs)

-- a cell whose level stands in this place
abbrev pub named_of : List (Option ℕ) → ℕ → Named
named_of fs i = record {
  level = number_at fs i;
  rank = number_at fs (i + 1);
  slot = number_at fs (i + 2);
  input = number_at fs (i + 3);
}

-- the departure that a line tells
abbrev pub sent_of : List (Option ℕ) → Sent
sent_of fs = record { slot = number_at fs 0; cell = named_of fs 1 }

-- the transfer that a line tells
abbrev pub moved_of : List (Option ℕ) → Transfer
moved_of fs = record {
  slot = number_at fs 0;
  phase = number_at fs 1;
  input = number_at fs 2;
  output = number_at fs 3;
  id = record { input = number_at fs 2; packet = number_at fs 4; index = number_at fs 5 };
}

-- the head, with what the line of the shape tells
abbrev pub with_shape : Head → List (Option ℕ) → Head
with_shape h fs = record h {
  ports = number_at fs 0;
  classes = number_at fs 1;
  t0 = number_at fs 2;
  total = number_at fs 3;
}

-- the head, with what the line of the sum tells
abbrev pub with_sum : Head → List (Option ℕ) → Head
with_sum h fs = record h { proposals = number_at fs 0; most = number_at fs 1 }

-- what a line of a kind adds
abbrev pub added : Kind → List (Option ℕ) → State → State
added kind.Version fs s = s
added kind.Next fs s = record s { head = record (s.head) { next = number_at fs 0 } }
added kind.Shape fs s = record s { head = with_shape s.head fs }
added kind.Sum fs s = record s { head = with_sum s.head fs }
added kind.Input fs s = record s { inputs = s.inputs ++ seen_of fs ∷ [] }
added kind.Rank fs s = record s { ranks = s.ranks ++ rank_of fs ∷ [] }
added kind.Listed fs s = record s { listed = s.listed ++ named_of fs 0 ∷ [] }
added kind.Buffered fs s = record s { buffered = s.buffered ++ named_of fs 0 ∷ [] }
added kind.Sent fs s = record s { sent = s.sent ++ sent_of fs ∷ [] }
added kind.Moved fs s = record s { moved = s.moved ++ moved_of fs ∷ [] }
added kind.End fs s = s

-- the numbers of the line of the shape are below these
abbrev pub AreShape : List (Option ℕ) → Type 0
AreShape fs = (number_at fs 0 < 2 ^ 16) × (number_at fs 1 < 2 ^ 16) × (number_at fs 2 < 2 ^ 63) × (number_at fs 3 <
    2 ^ 63)

-- those of the line of an input
abbrev pub AreSeen : List (Option ℕ) → Type 0
AreSeen fs = (number_at fs 1 < 2 ^ 63) × (number_at fs 2 < 2 ^ 63)

-- those of a cell whose level stands in this place
abbrev pub AreNamedAt : List (Option ℕ) → ℕ → Type 0
AreNamedAt fs i = (i < 2) × (number_at fs i < 2 ^ 8) × (number_at fs (i + 2) < 2 ^ 63) × (number_at fs (i + 3) < 2 ^
    16)

-- and those of the line of a transfer
pub record AreMoved (fs : List (Option ℕ)) : Type 0 where
  pub slot : number_at fs 0 < 2 ^ 63
  pub phase : number_at fs 1 < 2 ^ 8
  pub input : number_at fs 2 < 2 ^ 16
  pub output : number_at fs 3 < 2 ^ 16
  pub packet : number_at fs 4 < 2 ^ 32
  pub index : number_at fs 5 < 2 ^ 32

-- the numbers of a line of this kind are no greater than what the state keeps of them
abbrev pub AreLow : Kind → List (Option ℕ) → Type 0
AreLow kind.Next fs = number_at fs 0 < 2 ^ 63
AreLow kind.Shape fs = AreShape fs
AreLow kind.Sum fs = (number_at fs 0 < 2 ^ 63) × (number_at fs 1 < 2 ^ 63)
AreLow kind.Input fs = AreSeen fs
AreLow kind.Listed fs = AreNamedAt fs 0
AreLow kind.Buffered fs = AreNamedAt fs 0
AreLow kind.Sent fs = (number_at fs 0 < 2 ^ 63) × AreNamedAt fs 1
AreLow kind.Moved fs = AreMoved fs
AreLow k fs = ⊤

-- nothing is told yet
abbrev pub nothing : State
nothing = record {
  head = record { next = 0; ports = 0; classes = 0; t0 = 0; total = 0; proposals = 0; most = 0 };
  inputs = [];
  ranks = [];
  listed = [];
  buffered = [];
  sent = [];
  moved = [];
}

-- what these lines tell behind what was told before
abbrev pub gathered : State → List Line → State
gathered s [] = s
gathered s (x ∷ xs) = gathered (added x.kind x.fields s) xs
