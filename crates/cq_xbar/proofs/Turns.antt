-- The transfer of a matching, input by input. Once the inputs below n had their turn, their lists are without their
-- first cells for their partners, the buffers of these partners have the cells, and all else is as before. No output
-- has two partners, so the buffer that the next cell comes to is as before.
use Rattle.cq_xbar.proofs.Terms.{HasCellFor, list_left, with_cell, common_steps, rules, ◌≡◌, ◌≢◌, ℕ, ◌+◌, ◌-◌, ◌<◌, ◌≤◌, List, length, map, get_or, set, Some, None, ◌∙◌, arith, cases_lt, same_Some, length-map, length-set, get_or_past, get_or-set_same, get_or-set_other, get_or_default, ext_get_or, Queued, HasOtherKey, put, first_for, Waiting, cells_of, Buffered, cells_in, list_of, Moves, Partners, partner_of, ArePairs, HaveCells, KeysAreNew, HaveRoom, MovesRoom, buffer_at, list_at, no_buffer, no_list}
use Rattle.std.proofs.Math.ListN.{get_or-map}

-- ## The lists and the buffers

pub cells-at : (lists : List Waiting) (i : ℕ) → list_of (cells_of lists) i ≡ (list_at lists i).cells
cells-at lists i = get_or-map (λ (w : Waiting). w.cells) lists i no_list

pub cells_in-at : (buffers : List Buffered) (j : ℕ) → list_of (cells_in buffers) j ≡ (buffer_at buffers j).cells
cells_in-at buffers j = get_or-map (λ (b : Buffered). b.cells) buffers j no_buffer

-- ## Input by input

-- the inputs below n had their turn
pub record Crossed (m : Partners) (lists : List Waiting) (buffers : List Buffered) (n : ℕ) (lists' : List Waiting)
    (buffers' : List Buffered) : Type 0 where
  pub sizes : (length lists' ≡ length lists) × (length buffers' ≡ length buffers)
  pub taken : (i : ℕ) → i < n → list_at lists' i ≡ list_left (partner_of m i) (list_at lists i)
  pub waits : (i : ℕ) → n ≤ i → list_at lists' i ≡ list_at lists i
  pub given : (i j : ℕ) (c : Queued) → i < n → partner_of m i ≡ Some j →
      first_for j (list_at lists i).cells ≡ Some c → buffer_at buffers' j ≡ with_cell c (buffer_at buffers j)
  pub kept : (j : ℕ) → ((i : ℕ) → i < n → partner_of m i ≢ Some j) → buffer_at buffers' j ≡ buffer_at buffers j

pub with_by : (c : Queued) (b b' : Buffered) → b'.cells ≡ put c b.cells → b'.spare + 1 ≡ b.spare → b' ≡ with_cell c b
with_by c b b' cells spare = grind (arith, common_steps, b.spare)

ruleset sets = (length-set, get_or-set_other, get_or-set_same, cases_lt, same_Some)

module _ {m : Partners} {lists : List Waiting} {buffers : List Buffered} {n : ℕ} {lists' : List Waiting}
    {buffers' : List Buffered} (x : Crossed m lists buffers n lists' buffers') where
  -- the next input has no partner
  pub crossed_past : partner_of m n ≡ None → Crossed m lists buffers (n + 1) lists' buffers'
  crossed_past none = search (rules, cases_lt)

  -- the next input's list is as before
  pub next_list : (d : Waiting) → n < length lists → get_or lists' n d ≡ list_at lists n
  next_list d l = get_or_default lists' n d no_list (omega arith) ∙ x.waits n (omega arith)

  module _ (j : ℕ) (e : Buffered) (pairs : ArePairs m) (p : partner_of m n ≡ Some j)
      (as_many : length buffers ≡ length m) where
    -- and so is the buffer of its partner
    next_buffer : get_or buffers' j e ≡ buffer_at buffers j
    next_buffer = search (rules, get_or_default, pairs.ports, pairs.once)

    pub room_next : HaveRoom m buffers → 0 < (get_or buffers' j e).spare
    room_next room = rw next_buffer (room n j p)

    -- the next input's first cell for its partner crosses, as is seen of a list that was read
    module _ (d : Waiting) (inside : n < length lists) where
      pub first_next : (c : Queued) → first_for j (get_or lists' n d).cells ≡ Some c →
          first_for j (list_of (cells_of lists) n) ≡ Some c
      first_next c first = cc (cells-at lists n, next_list d inside)

      pub cell_next : HaveCells m (cells_of lists) → HasCellFor (get_or lists' n d).cells j
      cell_next have = rw (next_list d inside, ← (cells-at lists n)) (have n j p)

      pub key_next : KeysAreNew m (cells_of lists) (cells_in buffers) → (c : Queued) →
          first_for j (get_or lists' n d).cells ≡ Some c → HasOtherKey c (get_or buffers' j e).cells
      key_next new c first = rw (next_buffer, ← (cells_in-at buffers j)) (new n j c p (first_next c first))

      pub crossed_more : (c : Queued) (w : Waiting) (b : Buffered) → first_for j (get_or lists' n d).cells ≡ Some c →
          w ≡ list_left (Some j) (get_or lists' n d) → b ≡ with_cell c (get_or buffers' j e) →
          Crossed m lists buffers (n + 1) (set lists' n w) (set buffers' j b)
      crossed_more c w b first left come = search (rules, sets, cells-at, first_next, next_list, next_buffer)

-- ## After the last input

module _ {m : Partners} {lists : List Waiting} {buffers : List Buffered} {lists' : List Waiting}
    {buffers' : List Buffered} {n : ℕ} (until : Crossed m lists buffers n lists' buffers') (end : n ≡ length m) where
  taken_at : (i : ℕ) → list_at lists' i ≡ list_left (partner_of m i) (list_at lists i)
  taken_at i = grind (arith, common_steps, get_or_past, cases_lt, until.taken, until.waits)

  pub crossed_moves : Moves m (cells_of lists) (cells_in buffers) (cells_of lists') (cells_in buffers')
  crossed_moves = search (arith, rules, length-map, cells-at, taken_at, cells_in-at, get_or_past)

  pub crossed_room : HaveCells m (cells_of lists) → HaveRoom m buffers → MovesRoom m lists buffers lists' buffers'
  crossed_room have room =
      record {
        gained = λ i. grind (arith, common_steps, taken_at i);
        lost = λ i j p.
            let given = until.given i j (have i j p).0 in
            grind (arith, common_steps, room i j p, have i j p, cells-at, given, get_or_past);
        kept = search (arith, rules);
      }

  pub crossed_outputs : map (λ w. w.outputs) lists' ≡ map (λ w. w.outputs) lists
  crossed_outputs =
      let out : Waiting → ℕ = λ w. w.outputs in
      ext_get_or 0 (map out lists') (map out lists) (search (rules, length-map)) (λ i l.
      grind (arith, common_steps, get_or-map out lists' i no_list, get_or-map out lists i no_list, taken_at i))
