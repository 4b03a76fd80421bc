-- What a reader sends and what it leaves.
use Rattle.std.specs.Prelude.{◌≡◌, ℕ, List, [], ◌∷◌, ◌++◌, map, Option, None, Result, Ok, Err, IfOk, IfErr, IfSome}
use Rattle.rtrb.specs.Ring.{IsPair, SameConsumer, SameProducer, received, sent}
use Rattle.cq_pcap.specs.declared.capture.PacketRow.{PacketRow}
use Rattle.cq_pcap.specs.declared.read.PcapRefusal.{PcapRefusal}
use Rattle.cq_pcap.specs.Captured.{Captured}
use Rattle.cq_pcap.specs.Faults.{IsFaulty, fault_of}
use Rattle.cq_pcap.specs.Reading.{packets_of}
use Rattle.cq_pcap.specs.Record.{Spells}
use Rattle.cq_pcap.specs.Rows.{AreRowsUntil}
use Rattle.cq_stream.specs.declared.item.Item.{Item}
use Rattle.cq_stream.specs.declared.item.Item.TheVariants.{Row, Ended}
use Rattle.cq_stream.specs.declared.item.Order.{Order}
use Rattle.cq_stream.specs.declared.item.Order.TheVariants.{Send, Alone}
use Rattle.cq_stream.specs.declared.reader.Reader.{Reader}
use Rattle.cq_stream.specs.declared.intake.Intake.{Intake}
use Rattle.cq_stream.specs.declared.outcome.Done.{Done}
use Rattle.cq_stream.specs.declared.outcome.DoneOf.{DoneOf}
use Rattle.cq_stream.specs.Rings.{bytes_to_read, told}

-- the items of a file with these rows
abbrev pub items_of : List PacketRow → List Item
items_of rows = map Row rows ++ Ended ∷ []

-- the rows of the bytes, up to their end or to this fault, were sent after what had been sent before
pub record HasSent (bytes : List ℕ) (fault : Option PcapRefusal) (before after : List Item) : Type 0 where
  pub rows : List PacketRow
  pub until : AreRowsUntil bytes fault rows
  pub sent : after ≡ before ++ map Row rows

-- and then that there are no more
pub record HasEnded (bytes : List ℕ) (fault : Option PcapRefusal) (before after : List Item) : Type 0 where
  pub rows : List PacketRow
  pub until : AreRowsUntil bytes fault rows
  pub sent : after ≡ before ++ items_of rows

-- all items of the bytes were sent exactly where the reader was told to send, and none where it was told to be alone
abbrev pub HasObeyed : Order → List ℕ → Option PcapRefusal → List Item → Type 0
HasObeyed Send bytes fault items = HasEnded bytes fault [] items
HasObeyed Alone bytes fault items = (fault ≡ None) × (items ≡ [])

-- the bytes of the reader that left this
abbrev pub bytes_of : Done → List ℕ
bytes_of done = done.bytes.items

-- the fault that it found
abbrev pub fault_found : Done → Option PcapRefusal
fault_found done = done.fault

-- all that it had sent
abbrev pub all_sent : Done → List Item
all_sent done = sent done.items

-- it was left by a reader that received one order and obeyed it
pub record HasRun (done : Done) : Type 0 where
  pub order : Order
  pub one : received done.orders ≡ order ∷ []
  pub obeyed : HasObeyed order (bytes_of done) (fault_found done) (all_sent done)

-- it was left by the reader of this intake, which has run: it holds the other ends of both rings
abbrev pub IsLeftTo : Intake → Done → Type 0
IsLeftTo intake done = IsPair done.items intake.items × IsPair intake.orders done.orders × HasRun done

-- it was left by a reader that was told one order through this intake, and obeyed it
pub record DidAsTold (intake : Intake) (done : Done) : Type 0 where
  pub order : Order
  pub one : told intake ≡ order ∷ []
  pub obeyed : HasObeyed order (bytes_of done) (fault_found done) (all_sent done)

-- the same is left as before
abbrev pub SameLeft : Done → Done → Type 0
SameLeft old new =
    (bytes_of new ≡ bytes_of old) × (fault_found new ≡ fault_found old) × (all_sent new ≡ all_sent old)

-- the bytes are read as the packets that they spell, or refused for their fault
pub record AnswersOn (bytes : List ℕ) (result : Result (List Captured) PcapRefusal) : Type 0 where
  pub spelt : IfOk result (λ packets. Spells bytes packets)
  pub faulty : IfErr result (λ refusal. IfSome (fault_of refusal) (IsFaulty bytes))
  pub read : IfOk result (λ packets. packets_of bytes ≡ Ok packets)
  pub unread : IfErr result (λ refusal. IfSome (fault_of refusal) (λ fault. packets_of bytes ≡ Err fault))

-- this reader left this
pub record IsDoneOf (reader : Reader) (done : Done) : Type 0 where
  pub bytes : bytes_of done ≡ bytes_to_read reader
  pub items : SameProducer reader.items done.items
  pub orders : SameConsumer reader.orders done.orders
  pub ran : HasRun done

-- the reader whose end is promised
abbrev pub promised : DoneOf → Reader
promised promise = promise.reader.value
