use Rattle.std.proofs.Common.{◌≡◌, map, take}
use Rattle.macro_expressions.specs.ExpressionTree.{term_view}
use Rattle.macro_expressions.specs.Expressions.{symbol_at}
use Rattle.macro_expressions.proofs.expression.terms.Given as goal

abbrev pub invariant-loop-token : goal.invariant-loop-token
invariant-loop-token l = map term_view l.terms.items ≡ map (symbol_at l.text) (take l.token-index l.tokens)
