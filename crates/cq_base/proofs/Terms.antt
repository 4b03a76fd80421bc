-- The words of this crate's proofs that stand elsewhere, each passed on from its place.
pub use Rattle.cq_base.proofs.Library.{AllByRecursion, Bool, Bor, Global, IfSome, Less, List, MatchOption, None, Option, Ordering, Some, Vec, [], and_from, ap, append-nil, append_assoc, arith, cases_Bool, cases_eq, cases_lt, common_steps, cond, cond_both, digits_of, digits_of_step, drop, drop-map, eq-eqb, eqb-true, exact_pairs, exact_unsigned, false, filter, find_at, get_or, get_or-replicate, get_or-set_other, get_or-set_same, insert, is_lt, length, length-append, length-digits_of-le, length-map, length-replicate, length-set, lit≤, ltb-false, map, map-append, map-range_with_len_more, nil_from_length, not, option_copied, option_flatten, option_map, option_to_list, passes_at_first, position, position_or_len, prefix_len-le-length, range_with_len, refl, reverse, reverse-append, reverse-reverse, rules, set, slice_get, slice_get-get_or, slice_get_past, slice_get_within, suc, sym, take, take-map, take_more, tied_itself, true, unwrap_or, unwrap_or-slice_get, vec_len, zero, ℕ, ⊎_elim, ◌%◌, ◌&&◌, ◌*◌, ◌++◌, ◌+◌, ◌/◌, ◌<◌, ◌^◌, ◌∙◌, ◌∷◌, ◌≡◌, ◌≢◌, ◌≤◌, All, All-from_recursion, AllPairs, AllPairs-cons, filter_map, flat_map, inl, inr, length-range_with_len, list_any, or_left, or_right, recursion_from_All, ◌⊎◌, one-le-pow, drop-set_at, drop-set, set_at, drop_more}
pub use Rattle.cq_base.specs.Key.{KeyLaws, key_cmp, keys_total}
unfoldable pub use Rattle.cq_base.specs.Key.{is_before}
pub use Rattle.cq_base.specs.{Packed.unpacked, declared.key.Key.Key}
