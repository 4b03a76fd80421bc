use Rattle.cq_words.proofs.Terms.{◌≡◌, ◌+◌, ◌-◌, ◌*◌, ◌^◌, ◌<◌, drop, fold, list_all, is_ascii_digit}
use Rattle.cq_words.proofs.number.numeral.Given as goal

-- what is read so far, read on over the digits that are left, is all
abbrev pub invariant-loop-digit : goal.invariant-loop-digit
invariant-loop-digit l = record {
  digits : list_all is_ascii_digit (drop l.digit-index l.text) ≡ list_all is_ascii_digit l.text;
  value : fold (λ v digit. v * 10 + (digit - 48)) l.value (drop l.digit-index l.text)
      ≡ fold (λ v digit. v * 10 + (digit - 48)) 0 l.text;
  small : l.value < 10 ^ l.digit-index;
}
