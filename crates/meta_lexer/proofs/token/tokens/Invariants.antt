use Rattle.std.proofs.Common.{◌≡◌, ◌-◌, ◌≤◌, ◌++◌, length, drop}
use Rattle.std.specs.List.{All}
use Rattle.meta_lexer.specs.Fields.{IsWithin}
use Rattle.meta_lexer.specs.Tokens.{tokens_after, token_span}
use Rattle.meta_lexer.proofs.token.tokens.Given as goal

abbrev pub invariant-loop-i : goal.invariant-loop-i
invariant-loop-i l = record {
  within : l.i ≤ length l.text;
  spans : All (λ token. IsWithin l.text (token_span token)) l.found.items;
  so_far : l.found.items ++ tokens_after l.i 0 (drop l.i l.text) ≡ tokens_after 0 0 l.text;
}

abbrev pub decreases-loop-i : goal.decreases-loop-i
decreases-loop-i l = length l.text - l.i
