-- Where tables are in range, each route ends at one of the ports and in one of the classes: what is found stands in
-- the tables, and so do the defaults.
use Rattle.cq_route.proofs.Terms.{ℕ, suc, ◌<◌, Bool, List, [], ◌∷◌, Option, Some, All, arith, cond_both, find, option_map_or, Tables, is_to, is_met, output_for, class_for, fields_of, route}
use Rattle.cq_frame.specs.declared.frame.FrameParts.{FrameParts}
use Rattle.cq_route.specs.Tables.{AreTables, classes_of, ports_of}
use Rattle.cq_frame.specs.Frame.{destination}

-- what holds of the value of each item, and of the default, holds of that of the first item that passes a test, or of
-- the default
found_keeps : {X : Type 0} (P : ℕ → Type 0) (f : X → ℕ) (p : X → Bool) (xs : List X) (d : ℕ) → All (λ x. P (f x)) xs →
    P d → P (option_map_or f (find p xs) d)
found_keeps P f p [] d all h = h
found_keeps P f p (x ∷ xs) d all h = cond_both (p x) (Some x) (find p xs) (λ r. P (option_map_or f r d))
    (λ e. all 0 x (omega arith)) (λ e. found_keeps P f p xs d (λ k y b. all (suc k) y (omega arith)) h)

pub output_below : (t : Tables) (dest : Option (List ℕ)) → AreTables t → output_for t dest < ports_of t.setup
output_below t dest a = found_keeps (λ n. n < ports_of t.setup) (λ row. row.output) (is_to dest) t.addresses
    t.default_output a.outputs a.default_output

pub class_below : (t : Tables) (input : ℕ) (fields : FrameParts) → AreTables t →
    class_for t input fields < classes_of t.setup
class_below t input fields a = found_keeps (λ n. n < classes_of t.setup) (λ rule. rule.class) (is_met input fields)
    t.rules t.default_class a.rule_classes a.default_class

-- the same of a route
pub route_output : (t : Tables) (input : ℕ) (bytes : List ℕ) → AreTables t → (route t input bytes).0 < ports_of t.setup
unfolding route
route_output t input bytes a = output_below t (destination bytes) a

pub route_class : (t : Tables) (input : ℕ) (bytes : List ℕ) → AreTables t → (route t input bytes).1 < classes_of t.setup
unfolding route
route_class t input bytes a = class_below t input (fields_of bytes) a
