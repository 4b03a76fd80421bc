-- Where a packet goes, and in which class.
use Rattle.std.specs.Prelude.{ℕ, Bool, true, false, ◌&&◌, ◌==◌, List, find, Option, None, Some}
use Rattle.std.specs.Option.{option_map_or}
use Rattle.std.specs.Str.{bytes_eq}
use Rattle.cq_frame.specs.declared.frame.FrameParts.{FrameParts}
use Rattle.cq_frame.specs.Frame.{destination, priority, ether_type, code_point}
use Rattle.cq_route.specs.declared.tables.AddressRow.{AddressRow}
use Rattle.cq_route.specs.declared.tables.RuleRow.{RuleRow}
use Rattle.cq_route.specs.declared.tables.Tables.{Tables}

-- whether frames to this destination go where the row says
abbrev pub is_to : Option (List ℕ) → AddressRow → Bool
is_to dest row = option_map_or (λ mac. bytes_eq mac row.mac) dest false

-- the output of frames to this destination
abbrev pub output_for : Tables → Option (List ℕ) → ℕ
output_for t dest = option_map_or (λ row. row.output) (find (is_to dest) t.addresses) t.default_output

-- whether a packet has a field as a rule states it: one that is not stated may be anything, one that is stated has to
-- be there
abbrev pub agrees : Option ℕ → Option ℕ → Bool
agrees None found = true
agrees (Some stated) found = option_map_or (λ n. n == stated) found false

-- whether a packet at this input with these fields has all that the rule states
abbrev pub is_met : ℕ → FrameParts → RuleRow → Bool
is_met input fields rule =
    agrees rule.input (Some input) && agrees rule.pcp fields.pcp && agrees rule.ether_type fields.ether_type
    && agrees rule.dscp fields.dscp

-- the class of such packets
abbrev pub class_for : Tables → ℕ → FrameParts → ℕ
class_for t input fields = option_map_or (λ rule. rule.class) (find (is_met input fields) t.rules) t.default_class

-- the fields of a frame
abbrev pub fields_of : List ℕ → FrameParts
fields_of bytes =
    record { dest = destination bytes; pcp = priority bytes; ether_type = ether_type bytes; dscp = code_point bytes }

-- the output and the class of a packet that arrives at the input with these bytes
unfoldable pub route : Tables → ℕ → List ℕ → ℕ × ℕ
route t input bytes = (output_for t (destination bytes), class_for t input (fields_of bytes))
