-- The rows of the records that were read, while the reader stands at a place: they lie one after another from the
-- header on, they end at that place, and the bytes before it are a capture of their packets. A whole record at that
-- place goes on so: the record read there is spelt by the bytes up to its end. A fault there is the file's, and where
-- no byte is left the file is a capture.
use Rattle.cq_pcap.proofs.Terms.{rules, ◌≡◌, ℕ, ◌+◌, ◌-◌, ◌<◌, ◌≤◌, ◌^◌, List, [], ◌∷◌, ◌++◌, length, take, drop, ap, sym, arith, add-zero, common_steps, map-append, length-drop, length-take-le, drop-drop, take_all, take_rest, All-push, sum_by-cons, sum_by_push, Ok, Err, Some, None, sum_by, Form, PcapRefusal, Captured, rows_from, file_length, first_packet, header_form, AreRowsOf, AreRowsTo, AreSpelt, IsFaultAt, IsRowOf, packet_at, packets_at, all_both, IfOk-weaker, IfErr-weaker}
use Rattle.cq_pcap.specs.declared.capture.PacketRow.{PacketRow}
use Rattle.cq_pcap.proofs.Headers.{header_says, AreBytes, AreBytes-drop, first_says}
use Rattle.cq_pcap.proofs.ReadIsSpelt.{body_length, faulty_at, spelt_more, spelt_none}

-- the bytes of these records
abbrev records_length : List Captured → ℕ
records_length ps = sum_by (λ p. 16 + length p.body) ps

-- the row of a packet whose record begins at a place
abbrev row_of : Captured → ℕ → PacketRow
row_of p place = record { stamp = p.stamp; original = p.original; at = place + 16; len = length p.body }

rows_from-push : (place : ℕ) (ps : List Captured) (p : Captured)
    → rows_from place (ps ++ p ∷ []) ≡ rows_from place ps ++ row_of p (place + records_length ps) ∷ []
rows_from-push place [] p = ap (λ n. row_of p n ∷ []) (sym (add-zero place))
rows_from-push place (q ∷ ps) p =
    grind (arith, common_steps, sum_by-cons, rows_from-push (place + 16 + length q.body) ps p)

module _ (form : Form) (bytes : List ℕ) (at : ℕ) (row : PacketRow) (r : IsRowOf form (drop at bytes) at row) where
  packet_is : first_packet form at (drop at bytes) ≡ Ok (packet_at bytes row)
  packet_is = cc (drop-drop 16 at bytes)

  inside_is : row.at + row.len ≤ length bytes
  inside_is = omega (arith, r.fits, r.at, length-drop at bytes)

  length_is : length (take row.len (drop row.at bytes)) ≡ row.len
  length_is = grind (arith, common_steps, inside_is, length-drop, length-take-le)

-- the header alone, where it is one of a form
pub rows_none : (form : Form) (bytes : List ℕ) → header_form bytes ≡ Ok form → AreRowsTo form bytes 24 []
rows_none form bytes e = search (arith, rules, spelt_none, rw e at (header_says bytes))

ruleset longer = (sum_by_push, All-push)

-- the places of one row more
places_more : (form : Form) (bytes : List ℕ) (rows : List PacketRow) (at : ℕ) (row : PacketRow)
    → length bytes ≤ 2 ^ 28 → at ≡ file_length (packets_at bytes rows) → AreRowsOf bytes rows
    → IsRowOf form (drop at bytes) at row
    → (row.at + row.len ≡ file_length (packets_at bytes (rows ++ row ∷ []))) × AreRowsOf bytes (rows ++ row ∷ [])
places_more form bytes rows at row small so_far s r =
    grind (arith, common_steps, map-append, length_is, inside_is, rows_from-push, all_both, longer)

-- one more row
pub rows_more : (form : Form) (bytes : List ℕ) (rows : List PacketRow) (at : ℕ) (row : PacketRow) → AreBytes bytes
    → length bytes ≤ 2 ^ 28 → IsRowOf form (take (length bytes - at) (drop at bytes)) at row
    → AreRowsTo form bytes at rows → AreRowsTo form bytes (row.at + row.len) (rows ++ row ∷ [])
rows_more form bytes rows at row fits small is_row so_far =
    let r : IsRowOf form (drop at bytes) at row = rw take_rest at is_row in
    let says = first_says form at (drop at bytes) (Ok (packet_at bytes row)) (packet_is form bytes at row r) in
    let more = places_more form bytes rows at row small so_far.ends so_far.stand r in
    search (arith, rules, inside_is, more, body_length, AreBytes-drop, length_is, map-append, spelt_more)

-- a fault at the place is the file's, whatever refusal names it
pub rows_fault : (form : Form) (bytes : List ℕ) (rows : List PacketRow) (at : ℕ) (refusal : PcapRefusal)
    → at < length bytes → first_packet form at (take (length bytes - at) (drop at bytes)) ≡ Err refusal
    → AreRowsTo form bytes at rows → IsFaultAt bytes (Some at) refusal
rows_fault form bytes rows at refusal left e so_far =
    search (arith, rules, faulty_at, first_says form at (drop at bytes) (Err refusal) (rw take_rest at e))

-- and so is a fault of the header
pub header_fault : (bytes : List ℕ) (refusal : PcapRefusal) → header_form bytes ≡ Err refusal
    → IsFaultAt bytes None refusal
header_fault bytes refusal e = search (rules, rw e at (header_says bytes))

-- no byte is left
pub rows_all : (form : Form) (bytes : List ℕ) (rows : List PacketRow) (at : ℕ) → at ≡ length bytes
    → AreRowsTo form bytes at rows → AreSpelt bytes rows
rows_all form bytes rows at e so_far = grind (arith, common_steps, take_all)

pub ruleset row_steps = (IfOk-weaker, IfErr-weaker, rows_none, rows_fault, header_fault)
