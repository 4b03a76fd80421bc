-- A list that is kept turned round: what is taken from the end of what is kept is the first item of the list.
use Rattle.cq_base.proofs.Terms.{reverse-reverse, common_steps, arith, ◌≡◌, ◌+◌, List, [], ◌∷◌, ◌++◌, reverse, Option, MatchOption, option_to_list, vec_len, Vec, Global, nil_from_length, reverse-append}

pub first_taken : {T : Type 0} (list : List T) (kept rest : Vec T Global) (taken : Option T) →
    list ≡ reverse kept.items → kept.items ≡ rest.items ++ option_to_list taken →
    MatchOption taken ((vec_len kept ≡ 0) × (vec_len rest ≡ 0)) (λ _. vec_len rest + 1 ≡ vec_len kept) →
    MatchOption taken ((list ≡ []) × (reverse rest.items ≡ [])) (λ item. list ≡ item ∷ reverse rest.items)
first_taken list kept rest taken is parts m = grind (arith, common_steps, nil_from_length, reverse-append)

pub ruleset supply_steps = (first_taken, reverse-reverse)
