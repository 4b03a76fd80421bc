-- That fair machines keep the laws. It stands here since an impl cites it.
use Rattle.std.proofs.Common.{◌+◌, List, length, refl, sym, ◌∙◌, arith}
use Rattle.std.proofs.lemmas.List.{length-set, length-replicate, get_or-set_same, get_or-set_other}
use Rattle.cq_base.specs.declared.setup.ClassRow.{ClassRow}
use Rattle.cq_base.specs.Limits.{level_count}
use Rattle.cq_rank.specs.Machine.{KeepsLaws}
use Rattle.cq_scfq.specs.Fair.{fair, fair_rank}

-- the fair machine of these classes keeps the laws
pub fair_laws : (rows : List ClassRow) → KeepsLaws (fair rows)
fair_laws rows = record {
  given_length = λ s c h l. length-set s c (fair_rank rows s c) ∙ h;
  sent_length = λ s k r h. length-set s (length rows + k) r ∙ h;
  idle_length = λ s h. length-replicate (length rows + level_count) 0;
  above = λ s c h l. omega arith;
  given_floor = λ s c h l. get_or-set_same s c (fair_rank rows s c) 0 (omega arith);
  other_floor =
      λ s c d h l k ne. let e = get_or-set_other s c d (fair_rank rows s c) 0 (λ same. ne (sym same)) in omega arith;
  sent_floor = λ s k r c h l. let e = get_or-set_other s (length rows + k) c r 0 (omega arith) in omega arith;
  idle_once = λ s h. refl;
}
