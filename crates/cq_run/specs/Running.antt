-- Only proofs use this.
-- A reader that runs in a thread.
use Rattle.std.specs.Prelude.{◌≡◌, List, [], ◌∷◌, ◌++◌}
use Rattle.cq_stream.specs.declared.intake.Intake.{Intake}
use Rattle.cq_stream.specs.declared.item.Item.{Item}
use Rattle.cq_stream.specs.declared.item.Item.TheVariants.{Ended}
use Rattle.cq_stream.specs.declared.reader.Reader.{Reader}
use Rattle.cq_stream.specs.Rings.{taken}
use Rattle.cq_stream.specs.Stream.{promised}
use Rattle.cq_run.specs.declared.running.Running.{Running}

-- the reader, as it was when its thread began
abbrev pub reader_of : Running → Reader
reader_of running = promised running.handle.promise

-- all items of the reader were taken: the last one says that there are no more
abbrev pub IsEmptied : Intake → Type 0
IsEmptied intake = (before : List Item) × (taken intake ≡ before ++ Ended ∷ [])
