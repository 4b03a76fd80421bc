-- Departures that are packed.
use Rattle.cq_base.specs.declared.cell.Departure.{Departure}
use Rattle.cq_base.specs.declared.packed.PackedDeparture.{PackedDeparture}

-- the departure that is packed so
unfoldable pub unpacked : PackedDeparture → Departure
unpacked p =
    record {
      slot = p.slot;
      output = p.output;
      queued =
          record {
            cell =
                record {
                  id = record { input = p.input; packet = p.packet; index = p.index };
                  output = p.cell_output;
                  class = p.class;
                  last = p.last;
                  at = p.at;
                  len = p.len;
                };
            key = record { level = p.level; rank = p.rank; slot = p.came; input = p.key_input };
          };
    }
