use Rattle.cq_laws.proofs.Entered.{can_cross_first, can_cross_second, fits_list}
use Rattle.cq_laws.proofs.entering.cells_find_their_places.Goals as goal

pub returns : goal.returns
returns c = record { comes = fits_list; first = can_cross_first; second = can_cross_second }
