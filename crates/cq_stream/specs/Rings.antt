-- What contracts see of a reader and of its intake.
use Rattle.std.specs.Prelude.{◌≡◌, ℕ, List, [], ◌∷◌}
use Rattle.rtrb.specs.Ring.{IsPair, SameConsumer, SameProducer, consumer_capacity, known_items, received, sent}
use Rattle.cq_stream.specs.declared.item.Item.{Item}
use Rattle.cq_stream.specs.declared.item.Order.{Order}
use Rattle.cq_stream.specs.declared.reader.Reader.{Reader}
use Rattle.cq_stream.specs.declared.intake.Intake.{Intake}

-- the two were made together: they hold the ends of one ring of items and of one ring of orders
abbrev pub IsPairOf : Reader → Intake → Type 0
IsPairOf reader intake = IsPair reader.items intake.items × IsPair intake.orders reader.orders

-- the intake is of the same reader as before
abbrev pub SameReader : Intake → Intake → Type 0
SameReader old new = SameConsumer old.items new.items × SameProducer old.orders new.orders

-- for how many items the ring has room
abbrev pub room_of : Intake → ℕ
room_of intake = consumer_capacity intake.items

-- the bytes that the reader is to decode
abbrev pub bytes_to_read : Reader → List ℕ
bytes_to_read reader = reader.bytes.items

-- the items that were taken, oldest first
abbrev pub taken : Intake → List Item
taken intake = received intake.items

-- the items that are known to wait in the ring
abbrev pub waiting : Intake → List Item
waiting intake = known_items intake.items

-- what the reader was told
abbrev pub told : Intake → List Order
told intake = sent intake.orders

-- the intake has taken and told what it had, and is of the same reader
pub record StandsAsBefore (old new : Intake) : Type 0 where
  pub taken : taken new ≡ taken old
  pub told : told new ≡ told old
  pub reader : SameReader old new

-- the intake has told this order, its first, has taken what it had, and is of the same reader
pub record HasTold (order : Order) (old new : Intake) : Type 0 where
  pub taken : taken new ≡ taken old
  pub told : told new ≡ order ∷ []
  pub reader : SameReader old new
