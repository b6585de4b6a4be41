use Rattle.std.proofs.Common.{◌≡◌, drop}
use Rattle.meta_lexer.specs.Words.{has_macro_use}
use Rattle.meta_lexer.proofs.words.has_macro_use.Given as goal

abbrev pub invariant-loop-i : goal.invariant-loop-i
invariant-loop-i l = has_macro_use (drop l.i l.text) ≡ has_macro_use l.text
