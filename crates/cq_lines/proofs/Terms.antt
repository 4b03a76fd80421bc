-- The words of this crate's proofs that stand elsewhere, each passed on from its place.
pub use Rattle.cq_base.proofs.Library.{AllByRecursion, Decides-eqb, Err, IsInRange, List, None, Ok, OnOk, Option, Result, Some, [], all_below_base_digits_of, ap, append-nil, append_assoc, append_cancel_left, arith, common_steps, drop, first_digits_of, flat_map, flat_map-append, get_or, length, length-append, length-set, length-take, lit≤, map, number_digits_of, number_from_digits_after, refl, result_or, rules, set, strip_prefix_is, subst, sym, take, take-append-le, take-take, take_all, take_more, take_more_set, ℕ, ◌*◌, ◌++◌, ◌+◌, ◌-◌, ◌<◌, ◌^◌, ◌∙◌, ◌∷◌, ◌≡◌, ◌≢◌, ◌≤◌, ◌⊎◌, get_or_default, recursion_from_All, map-append}
pub use Rattle.cq_base.specs.Decimal.{decimal, field}
pub use Rattle.cq_lines.specs.Lines.{AllFit, BeginsWith, EndsDigits, Fits, ending, line}
pub use Rattle.cq_lines.specs.Ranges.{InRange, Within, any_number}
pub use Rattle.cq_lines.specs.Texts.{IsExact, Leads}
pub use Rattle.cq_base.proofs.Each.{all_back, all_both, all_weaker, of_images}
