use Rattle.cq_laws.proofs.Terms.{refl, all_told, figures_of, filled, ideal_run, ideal_slot, input_figures, is_before, output_figures, place_in, proposals_in, slacks, transfers_in, transfers_of, transfers_of_run}
use Rattle.cq_laws.proofs.WorkedRun.{runs}
use Rattle.cq_laws.proofs.example.worked_run.Goals as goal

-- what it sends and counts is computed
pub returns : goal.returns
unfolding ideal_run ideal_slot filled all_told is_before place_in transfers_of_run transfers_in transfers_of
    figures_of input_figures output_figures slacks proposals_in
returns c = record { run = runs; sends = refl; goes_ahead = refl; transfers = refl; figures = refl }
