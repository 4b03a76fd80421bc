-- In which order the lines of transfers stand, in a log and in a state.
use Rattle.std.specs.Prelude.{◌≡◌, ◌<◌, ◌⊎◌}
use Rattle.cq_base.specs.declared.cell.Transfer.{Transfer}

-- one transfer is before another: by slot, then by phase, then by input
abbrev pub IsTransferBefore : Transfer → Transfer → Type 0
IsTransferBefore t u = (t.slot < u.slot) ⊎
    ((t.slot ≡ u.slot) × ((t.phase < u.phase) ⊎ ((t.phase ≡ u.phase) × (t.input < u.input))))
