use Rattle.cq_ideal.proofs.Terms.{refl, is_before, admission, ideal_slot, filled, all_told, limited_run, limited_slot, cells_refused, packets_refused, refused_counts}
use Rattle.cq_ideal.proofs.limits.worked_discard.Goals as goal

pub returns : goal.returns
unfolding limited_run limited_slot admission ideal_slot filled all_told is_before refused_counts packets_refused
    cells_refused
returns c = record { run = refl; refused = refl }
