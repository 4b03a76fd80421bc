-- What a reader has sent while it stands at a place of the file: a row for each record before that place, after what
-- had been sent before. Each row that is found goes on with it. At the end of the bytes, or at their fault, these are
-- the rows of the file. Then both ends of the ring in one thread show that what was taken, and what still waits, is
-- what was sent. The last item that was taken says that there are no more, and only the last one sent says so. So
-- nothing waits, and the rows taken are the rows sent. Where nothing was sent, nothing was taken either.
use Rattle.cq_stream.proofs.Terms.{rules, arith, ◌≡◌, ℕ, List, [], ◌∷◌, ◌++◌, refl, common_steps, PacketRow, AreRowsUntil, Item, HasRun, all_sent, bytes_of, fault_found, items_of, length, map, append_assoc, map-append, None, AreRowsTo, Row, HasSent}
use Rattle.cq_pcap.proofs.Refused.{named_fault, some_is}
use Rattle.cq_pcap.proofs.SpeltIsRead.{fault_is_read}
use Rattle.cq_stream.specs.declared.outcome.Done.{Done}
use Rattle.cq_pcap.specs.declared.form.Form.{Form}
use Rattle.cq_pcap.proofs.Rows.{rows_all}

-- a row for each record before the place was sent
pub record SendsTo (form : Form) (bytes : List ℕ) (at : ℕ) (before after : List Item) : Type 0 where
  pub rows : List PacketRow
  pub stand : AreRowsTo form bytes at rows
  pub sent : after ≡ before ++ map Row rows

-- one more row
pub sends_more : (form : Form) (bytes : List ℕ) (at next : ℕ) (row : PacketRow) (before so_far after : List Item)
    → after ≡ so_far ++ Row row ∷ []
    → ((rows : List PacketRow) → AreRowsTo form bytes at rows → AreRowsTo form bytes next (rows ++ row ∷ []))
    → SendsTo form bytes at before so_far → SendsTo form bytes next before after
sends_more form bytes at next row before so_far after e goes_on s =
    grind (arith, common_steps, append_assoc, map-append, goes_on s.rows s.stand)

-- no byte is left
pub sends_all : (form : Form) (bytes : List ℕ) (at : ℕ) (before after : List Item) → at ≡ length bytes
    → SendsTo form bytes at before after → HasSent bytes None before after
sends_all form bytes at before after e s = grind (arith, common_steps, rows_all)

-- the items of a file have one end
one_end : (rows others : List PacketRow) (rest : List Item)
    → items_of rows ++ rest ≡ items_of others → rows ≡ others
one_end [] [] rest e = refl
one_end (r ∷ rows) (o ∷ others) rest e = grind (arith, common_steps, one_end rows others rest)
one_end rows others rest e = absurd (let P : ⊥ = cc e in P)

some_item : (rows : List PacketRow) (rest : List Item) → items_of rows ++ rest ≡ [] → ⊥
some_item [] rest e = cc e
some_item (r ∷ rows) rest e = cc e

-- the rows that were taken are those of the file, where its reader left this
pub closes : (done : Done) (rows : List PacketRow) (taken after waiting : List Item) → HasRun done
    → taken ≡ items_of rows → after ≡ taken → after ++ waiting ≡ all_sent done
    → AreRowsUntil (bytes_of done) (fault_found done) rows
closes done rows taken after waiting ran t a fifo = search (arith, rules, one_end, some_item)

pub ruleset send_steps = (some_is, sends_more, sends_all)

pub ruleset answer_steps = (named_fault, fault_is_read)
