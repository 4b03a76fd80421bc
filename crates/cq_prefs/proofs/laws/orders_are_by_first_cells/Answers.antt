use Rattle.cq_prefs.proofs.InputOrder.{are_orders}
use Rattle.cq_prefs.proofs.laws.orders_are_by_first_cells.Goals as goal

pub returns : goal.returns
returns c = are_orders
