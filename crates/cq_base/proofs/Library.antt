-- The library's words that proofs of ours use, each passed on from its place.
pub use Rattle.std.proofs.Common.{Bool, Bor, Err, IfErr, IsErrAnd, IsErrOf, List, MatchOption, None, Ok, Option, Result, Some, String, [], add-one, add-zero, ap, append_assoc, ap₂, arith, bit_or, codes, cond, drop, eqb, false, fold, get_or, inl, inr, is_ok, leb, length, length-append, length-set, length-take, lit≤, ltb, map, min, mod-lt, mul-le-mul, nat_le, not, refl, replicate, reverse, rules, set, slice_index, string_bytes, subst, suc, sym, take, tests, true, vec_capacity, vec_len, w64, zero, ℕ, ⊎_elim, ◌%◌, ◌*◌, ◌++◌, ◌+◌, ◌-◌, ◌/◌, ◌<◌, ◌^◌, ◌||◌, ◌↔◌, ◌∙◌, ◌∷◌, ◌≡◌, ◌≢◌, ◌≤◌, ◌⊎◌}
pub use Rattle.std.proofs.Math.Bool.{and-true, and_assoc, or-false}
pub use Rattle.std.proofs.Math.Nat.{div-eq_of_lt, div-le_self, mul-le-mul_right, pow-suc, one-le-pow}
pub use Rattle.std.proofs.Math.Seq.{drop-cons, get_or-append_seam, map-set_same, take-add, take-append-add, take-set-lt, take-suc}
pub use Rattle.std.proofs.lemmas.Bool.{and_from, and_left, and_parts, and_right, both_ways, cases_Bool, cases_eq, cases_lt, cases_order, cond-false, cond-true, cond_both, eq-eqb, eqb-false, eqb-true, false_from_ne_true, le-leb, le-ltb, leb-false, leb-true, lt-leb, lt-ltb, ltb-false, ltb-true, ne_eqb, not-true, not_from_false, or_cases, or_left, or_right, true≢false}
pub use Rattle.std.proofs.lemmas.Bool.Decides.{Decides-and, Decides-eqb, Decides-like, nat_tests, same_from_decides}
pub use Rattle.std.proofs.lemmas.Cmp.{tied_itself}
pub use Rattle.std.proofs.lemmas.Fn.{always_returns_same}
pub use Rattle.std.proofs.lemmas.Grind.{common_steps, div_ceil_times, take-set_at, drop-set_at}
pub use Rattle.std.proofs.lemmas.Int.Digits.{all_below_base_digits_of, digits_of_step, first_digits_of, length-digits_of-le, number_digits_of}
pub use Rattle.std.proofs.lemmas.Iterator.{YieldsList-from_map, YieldsList-from_range, YieldsList-from_slice, items_from_collect}
pub use Rattle.std.proofs.lemmas.Iterator.Adapters.{items_from_extend}
pub use Rattle.std.proofs.lemmas.Iterator.Search.{find_from_yields_List}
pub use Rattle.std.proofs.lemmas.List.{append-nil, append_cancel_left, at_drop_all, at_drop_more, drop-append-le, drop-drop, drop-map, drop-replicate, drop-set-lt, drop-take, drop_all, drop_at, drop_more, ext_get_or, flat_map_more, get_or-append-add, get_or-drop, get_or-map, get_or-replicate, get_or-set_other, get_or-set_same, get_or-take, get_or_append_left, get_or_at, get_or_default, get_or_past, get_or_read, length-drop, length-map, length-replicate, length-take-le, length_push, map-append, map-id, map-set, map_more, map_push, nil_from_length, replicate-append-replicate, replicate_more, reverse-append, reverse-reverse, same_lists, set-get_or, set-set, set_at, set_past, take-append-drop, take-append-le, take-map, take-replicate, take-set, take-set-le, take-take, take_all, take_at, take_min, take_more, take_more_set, take_rest, with_items_is, drop-set}
pub use Rattle.std.proofs.lemmas.List.Concat.{flat_map-append}
pub use Rattle.std.proofs.lemmas.List.Edits.{get_or-insert_at, get_or-insert_below, insert-append_left, insert-append_right, insert_end, length-insert, length-paste, length-remove, remove-append_left, remove-append_right, take-paste}
pub use Rattle.std.proofs.lemmas.List.Elements.{All-from_recursion, All-push, All-replicate, All-set, filter-append, filter_agree, filter_map-append, filter_more, filter_passes, recursion_from_All}
pub use Rattle.std.proofs.lemmas.List.Filters.{length-filter_both}
pub use Rattle.std.proofs.lemmas.List.Folds.{Any-from_list_any, concat-append, find-append, find_at, flat_map-map, list_all-map, list_any_at, list_any_none, position_or_len_push, sum_by-replicate}
pub use Rattle.std.proofs.lemmas.List.FromFn.{fill_by_all, get_or-enumerate_from, get_or-map-range_with_len, get_or-range_with_len, length-enumerate_from, length-map-range_with_len, length-range_with_len, map-range_with_len_more}
pub use Rattle.std.proofs.lemmas.List.Kept.{AllPairs-cons}
pub use Rattle.std.proofs.lemmas.List.Quantifiers.{all_pairs_push}
pub use Rattle.std.proofs.lemmas.List.Sorted.{All-permutation, IsNonDecreasingBy-take, IsPartitionPoint-from_clause, IsPartitionedBy-leb, IsPartitionedBy-ltb, IsPermutation-sym, list_any-IsPermutation, sum_by-IsPermutation}
pub use Rattle.std.proofs.lemmas.List.Sums.{AllPass-from_list_all, count_by-le-length, fails_before_first, fold-append, get_or-le-sum_by, length-filter, list_all-from_AllPass, passes_at_first, position_or_len_is, prefix_len-le-length, sum-map, sum_by-append, sum_by-cons, sum_by-insert, sum_by-le, sum_by-set, sum_by-take-le, sum_by_more, sum_by_push}
pub use Rattle.std.proofs.lemmas.Map.Keys.{IsDistinct-IsPermutation, IsDistinct-from_apart, apart_from_distinct, ge_from_not_lt}
pub use Rattle.std.proofs.lemmas.Map.Lookups.{exact_bytes, exact_pairs, exact_unsigned}
pub use Rattle.std.proofs.lemmas.Map.Steps.{length-le_from_distinct_below}
pub use Rattle.std.proofs.lemmas.Map.Text.{is_eq-slice_cmp}
pub use Rattle.std.proofs.lemmas.Map.Views.{tells_apart}
pub use Rattle.std.proofs.lemmas.Nat.{be_bytes_4, be_bytes_8, div-mul-add, le_bytes_4, mul-le, row_fits}
pub use Rattle.std.proofs.lemmas.Nat.Bits.{bit_at-lt, bit_at-pow_other, bit_at-pow_same, bit_at-zero, bit_at_or, same_from_bits, shr_and_one}
pub use Rattle.std.proofs.lemmas.Option.{get_or_from_slice_get, none-some, same_Some, slice_get-get_or, slice_get-map, slice_get_cases, slice_get_past, slice_get_within, unwrap_or-slice_get}
pub use Rattle.std.proofs.lemmas.Result.{IfErr-weaker, IfOk-weaker, err_from_is_err_and, on_err_weaker, on_ok_weaker}
pub use Rattle.std.proofs.lemmas.Slice.Eq.{bytes_eq-Decides, strip_prefix_is}
pub use Rattle.std.proofs.lemmas.Slice.Zip.{AllZip-map}
pub use Rattle.std.proofs.lemmas.Str.{IsUtf8-from_is_utf8, is_utf8-from_IsUtf8}
pub use Rattle.std.proofs.lemmas.Str.Parse.{IsNumeralModel, numerals_by_value, parse_digits, tells_all_ascii_digits}
pub use Rattle.std.specs.BTreeSet.{insert_key}
pub use Rattle.std.specs.Bool.{Decides}
pub use Rattle.std.specs.Char.{is_ascii_digit}
pub use Rattle.std.specs.Cmp.{eq_by_cmp_equiv}
pub use Rattle.std.specs.Cmp.Lexicographic.{nat_list_cmp_total, slice_cmp}
pub use Rattle.std.specs.FinMap.{FinMap, get, get-empty, get-insert, get-remove, nat_cmp-IsAntisymmetric, same_map, slice_cmp-IsAntisymmetric}
pub use Rattle.std.specs.Fn.{Called, ComputesKey, FnReturnsAt, FnReturnsAtPair, Mut}
pub use Rattle.std.specs.Int.{IsInRange, to_be_bytes}
pub use Rattle.std.specs.Int.Digits.{AllBelowBase, digits_of, number_from_digits_after}
pub use Rattle.std.specs.Io.KnownBytes.{append_known}
pub use Rattle.std.specs.List.{AllAdjacentBelow, AllByRecursion, AllPairs, AllZip, concat, cons_option, copy_within, enumerate_from, filter_map, flat_map, list_all, list_any, position_or_len, range_with_len, reduce, sum_by}
unfoldable pub use Rattle.std.specs.List.{IsDistinct}
pub use Rattle.std.specs.List.Sorted.{IsNonDecreasingBy, IsPartitionPoint, IsPartitionedBy, IsSortedByKey}
unfoldable pub use Rattle.std.specs.List.Sorted.{IsStrictlySortedBy}
pub use Rattle.std.specs.Map.{keys_of}
pub use Rattle.std.specs.Option.{option_copied, option_flatten, option_map, option_map_or, option_or, option_to_list}
pub use Rattle.std.specs.Ordering.{is_eq, is_lt, nat_cmp, ordering_then}
pub use Rattle.std.specs.Prelude.{All, IfOk, IfSome, IsErr, IsOk, IsOkAnd, IsPermutation, IsSome, IsTrue, IsUtf8, OnOk, Vec, count_by, filter, find, if◌then◌else◌, insert, is_none, is_some, max, nat_eq, nat_lt, option_and_then, position, remove, slice_get, slice_index_or, slice_set, sum, unwrap_or, ⊤, ◌&&◌, ◌==◌}
pub use Rattle.std.specs.Result.{OkIff, is_err, result_ok, result_or}
pub use Rattle.std.specs.Slots.{slots_items}
pub use Rattle.std.specs.Str.{all_ascii_digits, bytes_eq}
pub use Rattle.std.specs.Str.Parse.{ParsesUnsigned, digits_value}
pub use Rattle.std.specs.String.{string_cmp}
pub use Rattle.std.specs.Vec.{with_items}
pub use Rattle.std.specs.declared.alloc.Global.{Global}
pub use Rattle.std.specs.declared.cmp.Ordering.{Ordering}
pub use Rattle.std.specs.declared.cmp.Ordering.TheVariants.{Equal, Greater, Less}
pub use borrow.Author.Count.{below_more, below_none}
pub use lib.ListN.{get_elem?}
pub use lib.Pow.{pow_mono}
pub use mathlib.Core.Option.{none, some, some-injective, some-ne-none}
