-- The map that entries stand for: what it answers of a name, and what a change of one entry does to it.
-- The map is made from the last entry to the first, so a name has the value of its first entry. Two maps
-- that answer alike are equal, so lemmas on maps compare what they answer, by an induction on the
-- entries: the first entry of a name is at the head, or the head has another name.
-- Then what calls on files in memory do. The entry of a name answers for the name in each map, since it is the
-- first. So a new value at that entry is a new value of the name and changes nothing else, and the cut and
-- the bytes of the open name, which the code takes from its entry, are those that the meaning has.
use Rattle.cq_space.proofs.Terms.{rules, ◌≡◌, ℕ, ◌+◌, ◌-◌, ◌<◌, ◌≤◌, min, true, false, List, [], ◌++◌, length, get_or, map, take, drop, arith, unwrap_or, string_bytes, common_steps, length-map, get_or-map, get_or_past, with_items_is, length-drop, length-take, take-append-drop, drop_all, drop-drop, Option, None, Some, Vec, is_some, Global, with_items, position, option_map, get, Entry, State, Calls, IsShort, one_more, StaysBefore, MemSpace, told_space, cut_at, moved_at, Closed, Reading, Space, BeginsReading, TakesNext, ReadsOn, Appends, Columns, columns_of, contents_of, by_name, IsEntryOf, name_at, bytes_at, mode_of, IsInPlace, with_bytes, with_read_cut, with_write_cut, SaysTheSame, Bool, ◌∷◌, set, position_or_len, is_eq-slice_cmp, bytes_eq-Decides, nat_cmp, eq_by_cmp_equiv, slice_cmp, nat_list_cmp_total, FinMap, get-empty, get-insert, get-remove, same_map, slice_cmp-IsAntisymmetric, nat_cmp-IsAntisymmetric, same_name, passes_at_first, length-set, get_or-set_same, get_or-set_other, length-append, add-zero, map-append, map-set, get_or_append_left, set-get_or, get_or-append_seam, map-set_same, ltb-false, eq-eqb, ne_eqb, prefix_len-le-length, position_or_len_push, position_or_len_is, position_or_len-map}
use Rattle.std.specs.FinMap.{insert}
use Rattle.cq_space.specs.declared.mem_files.MemFiles.TheInside.{Inside}
use Rattle.cq_space.specs.MemFiles.{mem_space, IsSound}
use Rattle.std.proofs.lemmas.List.Quantifiers.{position-Some}
use Rattle.cq_space.specs.declared.entries.State.TheVariants as state

-- names that the test calls the same are equal
pub is_same : (q name : List ℕ) → same_name q name ≡ true → q ≡ name
is_same q name e = grind (arith, common_steps, is_eq-slice_cmp q name, bytes_eq-Decides q name)

pub same_self : (name : List ℕ) → same_name name name ≡ true
same_self name = (eq_by_cmp_equiv nat_list_cmp_total).refl name

module _ {X : Type 0} where
  -- maps that answer alike are equal
  pub same_answers : (m n : FinMap (slice_cmp nat_cmp) X) → ((q : List ℕ) → get m q ≡ get n q) → m ≡ n
  same_answers m n alike = same_map nat_list_cmp_total (slice_cmp-IsAntisymmetric nat_cmp-IsAntisymmetric) m n alike

  -- the first entry of a name has its value; a name without an entry has none
  pub get-first : (names : List (List ℕ)) (values : List (Option X)) (name : List ℕ) → length values ≡ length names →
      get (by_name names values) name ≡ get_or values (position_or_len (same_name name) names) None
  get-first [] [] name even = get-empty (slice_cmp nat_cmp) name
  get-first (n ∷ names) (value ∷ values) name even =
      let out = get-remove {X = X} nat_list_cmp_total in
      grind (arith, common_steps, out, get-insert {X = X} nat_list_cmp_total, get-first names values name)
  get-first names values name even = absurd (omega arith)

  pub by_name-set : (names : List (List ℕ)) (values : List (Option X)) (i : ℕ) (name : List ℕ) (x : X) →
      IsEntryOf names i name → length values ≡ length names →
      by_name names (set values i (Some x)) ≡ insert (by_name names values) name x
  by_name-set names values i name x is even =
      let inserted = get-insert nat_list_cmp_total (by_name names values) name x in
      same_answers _ _ (λ q.
      let first = passes_at_first (same_name q) names [] in
      search (arith, rules, length-set, get-first names, is_same q name, get_or-set_same, get_or-set_other))

  -- an entry without a value, put at the end, changes no value
  pub by_name-push : (names : List (List ℕ)) (values : List (Option X)) (name : List ℕ) →
      length values ≡ length names → by_name (names ++ name ∷ []) (values ++ None ∷ []) ≡ by_name names values
  by_name-push names values name even = same_answers _ _ (λ q. grind
      (arith, common_steps, get-first, get_or_past, position_or_len_push, length-append, get_or_append_left))

-- ## Entries as columns, all of one length. A new entry at the end says nothing new of any name, and leaves what is
-- open in place; a change of one column at the entry of a name changes one map at that name.

pub record AreEven (c : Columns) : Type 0 where
  pub bytes : length c.bytes ≡ length c.names
  pub read_cuts : length c.read_cuts ≡ length c.names
  pub write_cuts : length c.write_cuts ≡ length c.names

pub are_even : (es : List Entry) → AreEven (columns_of es)
are_even es = grind (arith, common_steps, length-map)

-- the search for a name

abbrev pub has_name : List ℕ → Entry → Bool
has_name name e = same_name name (string_bytes e.name)

pub finds : (es found : List Entry) (name : List ℕ) (i : ℕ) → found ≡ es →
    Some i ≡ position (has_name name) found → IsEntryOf (columns_of es).names i name
finds es found name i same answer =
    let place = position_or_len_is (same_name name) in
    search (arith, rules, place, is_same name, position-Some, length-map, string_bytes, position_or_len-map)

pub finds_none : (es found : List Entry) (name : List ℕ) → found ≡ es → None ≡ position (has_name name) found →
    length (columns_of es).names ≤ position_or_len (same_name name) (columns_of es).names
finds_none es found name same answer = search (rules, string_bytes, length-map, position_or_len-map, ltb-false)

-- a new entry at the end

abbrev grown : Columns → List ℕ → Columns
grown c name =
    record {
      names = c.names ++ name ∷ [];
      bytes = c.bytes ++ None ∷ [];
      read_cuts = c.read_cuts ++ None ∷ [];
      write_cuts = c.write_cuts ++ None ∷ [];
    }

still_in_place : (c : Columns) (name : List ℕ) → AreEven c → (s : State) → IsInPlace c s → IsInPlace (grown c name) s
still_in_place c name even s sound =
    search (arith, rules, unwrap_or, get_or_append_left, ne_eqb, length-append, position_or_len_push)

-- a list with one more behind it
ruleset seams = (get_or_append_left, unwrap_or)

ruleset lengths = (map-append, length-map, length-append, add-zero)

pub says_pushed : (es new : List Entry) (e : Entry) → new ≡ es ++ e ∷ [] → e.bytes ≡ None → e.read_cut ≡ None →
    e.write_cut ≡ None → SaysTheSame (columns_of es) (columns_of new)
says_pushed es new e is bytes reads writes =
    grind (arith, common_steps, map-append, string_bytes, are_even, by_name-push, still_in_place, seams)

pub pushed_first : (es new : List Entry) (e : Entry) (name : List ℕ) (at : ℕ) → new ≡ es ++ e ∷ [] →
    string_bytes e.name ≡ name → at ≡ length es →
    length (columns_of es).names ≤ position_or_len (same_name name) (columns_of es).names →
    IsEntryOf (columns_of new).names at name
pushed_first es new e name at is named place none =
    search (arith, rules, lengths, prefix_len-le-length, position_or_len_push, eq-eqb, same_self, get_or-append_seam)

-- a change of one entry

pub given_bytes : (es : List Entry) (i : ℕ) (d : Entry) (v : Vec ℕ Global) →
    columns_of (set es i (record (get_or es i d) { bytes = Some v })) ≡ with_bytes (columns_of es) i v.items
given_bytes es i d v = grind (arith, common_steps, map-set_same, string_bytes, map-set)

pub lengthened : (es : List Entry) (i : ℕ) (d : Entry) (old new : Vec ℕ Global) (piece : List ℕ) → i < length es →
    (get_or es i d).bytes ≡ Some old → new.items ≡ old.items ++ piece
    →
    columns_of (set es i (record (get_or es i d) { bytes = Some new }))
    ≡ with_bytes (columns_of es) i (bytes_at (columns_of es) i ++ piece)
lengthened es i d old new piece there is grew = grind (arith, common_steps, get_or-map, given_bytes, unwrap_or)

pub unlengthened : (es : List Entry) (i : ℕ) (d : Entry) (old new : Vec ℕ Global) → i < length es →
    (get_or es i d).bytes ≡ Some old → new.items ≡ old.items →
    columns_of (set es i (record (get_or es i d) { bytes = Some new })) ≡ columns_of es
unlengthened es i d old new there is same =
    search (arith, rules, map-set_same, string_bytes, map-set, get_or-map, set-get_or)

-- ## Calls

-- a list of entries that was lent and changed, back in its vector
pub written_back : (v : Vec Entry Global) (lent new : List Entry) (change : Columns → Columns) → lent ≡ v.items →
    length new ≡ length lent → columns_of new ≡ change (columns_of lent) →
    columns_of (with_items v new).items ≡ change (columns_of v.items)
written_back v lent new change same len is = grind (arith, common_steps, with_items_is)

-- what the entry of a name says is what the map says
value_first : {X : Type 0} (field : Entry → Option X) (es : List Entry) (i : ℕ) (name : List ℕ) (e : Entry) →
    IsEntryOf (columns_of es).names i name → e ≡ get_or es i e →
    get (by_name (columns_of es).names (map field es)) name ≡ field e
value_first field es i name e is at = grind (arith, common_steps, length-map, string_bytes, get-first, get_or-map)

-- the bytes of an entry, none where there is no such name
abbrev held_in : Entry → List ℕ
held_in e = unwrap_or (option_map (λ v. v.items) e.bytes) []

held_is : (es : List Entry) (at : ℕ) (e : Entry) → at < length (columns_of es).names → e ≡ get_or es at e →
    bytes_at (columns_of es) at ≡ held_in e
held_is es at e in_names here = grind (arith, common_steps, length-map, string_bytes, unwrap_or, get_or-map)

-- what a call that was counted may move, fewer bytes could be moved by before
pub short_before : (old new : Calls) (n k : ℕ) → new ≡ one_more old → k ≤ n → IsShort new n → IsShort old k
short_before old new n k e h s = search (arith, rules)

pub stays_less : (cut : Option ℕ) (moved n k : ℕ) → k ≤ n → StaysBefore cut moved n → StaysBefore cut moved k
stays_less cut moved n k less stays = grind (arith, common_steps)

-- a read takes the next piece
takes_next : (name bytes : List ℕ) (most place count : ℕ) → count ≡ min (length (drop place bytes)) most → 0 < most →
    TakesNext (Reading name (drop place bytes)) (take count (drop place bytes))
    (Reading name (drop (place + count) bytes))
takes_next name bytes most place count counted some =
    search (arith, rules, take-append-drop count (drop place bytes), drop-drop, length-take, length-drop, drop_all)

-- what the files are, and what they mean
module _ (ins : Inside) {m : MemSpace} (view : mem_space ins ≡ m) where
  abbrev es : List Entry
  es = ins.entries.items

  -- the bytes of the entry that was found are those of the name
  pub told_found : {found : List Entry} (name : List ℕ) {i : ℕ} (e : Entry) → found ≡ es →
      Some i ≡ position (has_name name) found → e ≡ get_or es i e →
      get m.contents name ≡ option_map (λ v. v.items) e.bytes
  told_found {found} name {i} e lent answer at =
      grind (arith, common_steps, value_first, finds es found name i lent answer)

  -- an entry without bytes is no name, and what is not found is none
  pub told_nothing : {found : List Entry} (name : List ℕ) {i : ℕ} (e : Entry) → found ≡ es →
      Some i ≡ position (has_name name) found → e ≡ get_or es i e → false ≡ is_some e.bytes →
      get m.contents name ≡ None
  told_nothing name e lent answer at no_bytes = search (arith, rules, told_found name e lent answer at)

  pub told_none : {found : List Entry} (name : List ℕ) → found ≡ es → None ≡ position (has_name name) found →
      get m.contents name ≡ None
  told_none {found} name lent answer = grind (arith, common_steps, finds_none, get-first, get_or_past, length-map)

  pub begins : {found : List Entry} (name : List ℕ) {i : ℕ} (e : Entry) → found ≡ es →
      Some i ≡ position (has_name name) found → e ≡ get_or es i e → true ≡ is_some e.bytes →
      BeginsReading (Some m.contents) name (mode_of (columns_of es) (state.Reads i 0))
  begins {found} name {i} e lent answer at some =
      grind (arith, common_steps, finds es found name i lent answer, length-map, string_bytes, told_found)

  module _ (sound : IsSound ins) where
    -- a new value at the entry of a name, in entries that were lent and are back in their vector
    module _ (mid : Vec Entry Global) {lent : List Entry} (new : List Entry) {i : ℕ} {name : List ℕ}
        (same : SaysTheSame (columns_of es) (columns_of mid.items)) (is : IsEntryOf (columns_of mid.items).names i name)
        (back : lent ≡ mid.items) (long : length new ≡ length lent) where
      abbrev after : Inside
      after = record ins { entries = with_items mid new }

      pub gives_bytes : (bytes : List ℕ) → columns_of new ≡ with_bytes (columns_of lent) i bytes →
          contents_of (columns_of after.entries.items) ≡ insert m.contents name bytes
      gives_bytes bytes changed = grind (arith, common_steps, written_back, by_name-set, are_even)

      pub bytes_are_set : (bytes : List ℕ) → m.mode ≡ Closed → columns_of new ≡ with_bytes (columns_of lent) i bytes →
          mem_space after ≡ record m { contents = insert m.contents name bytes }
      bytes_are_set bytes closed changed = grind (arith, common_steps, written_back, gives_bytes)

      pub reading_is_cut : (most : ℕ) → columns_of new ≡ with_read_cut (columns_of lent) i most →
          mem_space after ≡ record m { read_cuts = insert m.read_cuts name most }
      reading_is_cut most changed = grind (arith, common_steps, written_back, are_even, by_name-set)

      pub writing_is_cut : (most : ℕ) → columns_of new ≡ with_write_cut (columns_of lent) i most →
          mem_space after ≡ record m { write_cuts = insert m.write_cuts name most }
      writing_is_cut most changed = grind (arith, common_steps, written_back, are_even, by_name-set)

    -- a fact on the cut and the place that the code has is one on the meaning, of the name that is read
    pub of_read : {at place : ℕ} (P : Option ℕ → ℕ → Type 0) (e : Entry) → ins.state ≡ state.Reads at place →
        e ≡ get_or es at e → P e.read_cut place →
        P (cut_at m.mode m.read_cuts m.write_cuts) (moved_at m.mode m.contents)
    of_read {at} {place} P e opened here holds = grind (arith, common_steps, held_is, length-drop, value_first)

    -- and so for the name that is written
    pub of_write : {at : ℕ} (P : Option ℕ → ℕ → Type 0) (e : Entry) {held : List ℕ} → ins.state ≡ state.Writes at →
        e ≡ get_or es at e → held ≡ held_in e → P e.write_cut (length held) →
        P (cut_at m.mode m.read_cuts m.write_cuts) (moved_at m.mode m.contents)
    of_write {at} P e {held} opened here had holds = grind (arith, common_steps, value_first)

    -- a write appends at the entry that is open
    pub appends : {at : ℕ} (new : Vec Entry Global) (count : ℕ) (e : Entry) (bytes : List ℕ) →
        ins.state ≡ state.Writes at → e ≡ get_or es at e → 0 < count → count ≤ length bytes
        → columns_of new.items ≡ with_bytes (columns_of es) at (bytes_at (columns_of es) at ++ take count bytes) →
        Appends (told_space m) (told_space (mem_space (record ins { entries = new }))) bytes count
    appends {at} new count e bytes opened here some within changed =
        grind (arith, common_steps, held_is, value_first, by_name-set, are_even)

    -- a read takes the next piece
    pub reads_on : {at place : ℕ} (most count : ℕ) (e : Entry) (held piece buf : List ℕ) (after : Space) →
        ins.state ≡ state.Reads at place → e ≡ get_or es at e → held ≡ held_in e
        → count ≡ min (length (take (length held - place) (drop place held))) most →
        piece ≡ take count (take (length held - place) (drop place held)) → 0 < most →
        after.mode ≡ mode_of (columns_of es) (state.Reads at (place + count)) →
        ReadsOn (told_space m) after (piece ++ drop count buf) count
    reads_on {at} {place} most count e held piece buf after opened here had counted copied some moved =
        let next = takes_next (name_at (columns_of es) at) (bytes_at (columns_of es) at) most place count in
        grind (arith, common_steps, next)

pub ruleset cut_steps = (map-set, map-set_same, string_bytes)

pub ruleset name_steps = (is_eq-slice_cmp, string_bytes)
