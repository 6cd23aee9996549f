use Rattle.std.proofs.Common.{◌≡◌, ◌+◌, ◌*◌, ◌^◌, ◌≤◌, min, drop, fold, true}
use Rattle.std.specs.List.{list_all}
use Rattle.c_tokens.specs.Characters.{is_hexadecimal, digit_value}
use Rattle.c_lexer.specs.NumberScan.{capped_value}
use Rattle.c_lexer.proofs.numbers.value_of.Given as goal

abbrev pub invariant-loop-b : goal.invariant-loop-b
invariant-loop-b l = record {
  is : fold (λ n d. min (l.base * n + digit_value d) (2 ^ 32)) l.value (drop l.b-index l.digits) ≡ capped_value l.base l.digits;
  small : l.value ≤ 2 ^ 32;
  each : list_all is_hexadecimal (drop l.b-index l.digits) ≡ true;
}
