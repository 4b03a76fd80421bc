-- An ideal switch before its first slot.
use Rattle.std.specs.Prelude.{ℕ, false, List, [], Option}
use Rattle.cq_ideal.specs.Admission.{marks_down}
use Rattle.cq_ideal.specs.Ideal.{IdealSwitch}
use Rattle.cq_ideal.specs.IdealRun.{empty_ideal}
use Rattle.cq_ideal.specs.Refused.{refused_counts}

-- A switch of so many ports that has had no slot: these numbers give its rank machines, which are in these states, and
-- its outputs have these limits, and lists with so much room. Nothing waits, all marks are down, and nothing was
-- refused: the count is 0 at each output that has a limit.
abbrev pub fresh_ideal : ℕ → List (List ℕ) → List (List ℕ) → List (Option ℕ) → List ℕ → IdealSwitch
fresh_ideal ports fixed states limits rooms =
    record {
      fixed = fixed;
      limits = limits;
      state = empty_ideal ports states;
      marks = marks_down ports;
      refused = refused_counts limits [];
      rooms = rooms;
      next = 0;
      stopped = false;
    }
