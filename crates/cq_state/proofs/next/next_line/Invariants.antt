-- Which line comes next. The kinds that are due are tried in order. What may come where a later kind is due may come
-- at the place, since every kind before it has all its lines. And a line that stands there and may come at the place
-- is of no kind before it, for none such stands there. So where the search ends, no line that may come stands there.
use Rattle.cq_state.proofs.Terms.{◌≡◌, ℕ, ◌≤◌, List, ◌++◌, length, Line, Place, ComesAt, spelled}
use Rattle.cq_state.proofs.next.next_line.Given as goal

-- what comes at a place may be told where these kinds are due
abbrev pub invariant-kinds : goal.invariant-kinds
invariant-kinds l = record {
  low : l.seen ≤ l.place.seen;
  forth : (x : Line) (next : Place) → ComesAt l.due l.seen l.ports x next →
      ComesAt l.place.due.now l.place.seen l.ports x next;
  back : (x : Line) (next : Place) (more : List ℕ) → ComesAt l.place.due.now l.place.seen l.ports x next →
      l.text ≡ spelled x ++ more → ComesAt l.due l.seen l.ports x next;
}

abbrev pub decreases-kinds : goal.decreases-kinds
decreases-kinds l = length l.due
