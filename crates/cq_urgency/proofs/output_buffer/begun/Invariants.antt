use Rattle.cq_urgency.proofs.Terms.{◌≡◌, ℕ, ◌+◌, ◌-◌, ◌<◌, ◌≤◌, true, false, length, block_at, starts_before}
use Rattle.cq_urgency.proofs.output_buffer.begun.Given as goal

-- the last block below the range begins with a lesser key, and the block behind the range does not
abbrev pub invariant-halves : goal.invariant-halves
invariant-halves l = record {
  within : l.low ≤ l.high;
  inside : l.high ≤ length l.blocks.blocks;
  before : (last : ℕ) → last + 1 ≡ l.low → starts_before l.key (block_at l.blocks.blocks last) ≡ true;
  behind : l.high < length l.blocks.blocks → starts_before l.key (block_at l.blocks.blocks l.high) ≡ false;
}

abbrev pub decreases-halves : goal.decreases-halves
decreases-halves l = l.high - l.low
