use Rattle.std.proofs.Common.{◌≡◌, ◌<◌, ◌^◌, true, take}
use Rattle.std.specs.List.{list_all}
use Rattle.meta_lexer.specs.Numbers.{value_in, is_digit}
use Rattle.meta_lexer.proofs.numbers.digits.Given as goal

abbrev pub invariant-loop-b : goal.invariant-loop-b
invariant-loop-b l = record {
  so_far : l.value ≡ value_in l.base (take l.b-index l.text);
  fits : l.value < 2 ^ 64;
  digits : list_all (is_digit l.base) (take l.b-index l.text) ≡ true;
}
