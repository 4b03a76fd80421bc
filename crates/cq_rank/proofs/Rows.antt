-- The rows of classes: where each class is of one of the levels, so is the one at a place.
use Rattle.std.proofs.lemmas.List.Elements.{All-from_recursion}

pub ruleset level_steps = (All-from_recursion)
