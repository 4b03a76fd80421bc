-- Lists that are made from a range of numbers: one item more, and what holds of each item.
-- The tables are in range, and no address stands twice, since the last bytes of two addresses differ.
use Rattle.cq_gen.proofs.Terms.{rules, ◌≡◌, ℕ, ◌<◌, ◌≤◌, Option, None, sym, ◌∙◌, arith, length-replicate, get_or-replicate, length-map-range_with_len, IsInRange, AreTables, ports_of, soak_kind, soak_port, soak_rule, soak_setup, soak_tables, RuleRow, plain_tables, common_steps, map, All, get_or-map-range_with_len, range_with_len}

pub all_counted : {X : Type 0} (P : X → Type 0) (f : ℕ → X) (n : ℕ) → ((k : ℕ) → k < n → P (f k)) →
    All P (map f (range_with_len 0 n))
all_counted P f n h k d l = grind (arith, common_steps, length-map-range_with_len, get_or-map-range_with_len)

pub tables_ports : (ports : ℕ) → ports_of (soak_tables ports).setup ≡ ports
unfolding soak_tables
tables_ports ports = length-map-range_with_len soak_kind 0 ports

pub tables_in_range : (ports : ℕ) → IsInRange 1 64 ports → AreTables (soak_tables ports)
unfolding soak_tables plain_tables
tables_in_range ports range =
    let count : ports_of (soak_setup ports) ≡ ports = length-map-range_with_len soak_kind 0 ports in
    let low : 1 ≤ ports = range.0 in
    let high : ports ≤ 64 = range.1 in
    let no_limit : Option ℕ = None in
    let limits = length-replicate ports no_limit in
    record {
      setup = search (arith, rules, all_counted);
      cell_bytes = (omega arith, omega arith);
      slot_ns = (omega arith, omega arith);
      limit_bytes = (omega arith, omega arith);
      workers = (omega arith, omega arith);
      files = length-replicate ports soak_port ∙ sym count;
      limits = search (arith, rules, get_or-replicate);
      default_output = omega arith;
      default_class = omega arith;
      addresses_differ = search (arith, rules, length-map-range_with_len, get_or-map-range_with_len);
      outputs = search (arith, rules, all_counted);
      inputs = search (arith, rules, all_counted);
      rule_classes = all_counted (λ (row : RuleRow). row.class < 8) soak_rule 8 (λ k l. l);
    }

pub ruleset make_steps = (tables_ports, length-map-range_with_len)
