use Rattle.std.proofs.Common.{◌++◌, append-nil, ap, sym, ◌∙◌, arith}
use Rattle.macro_expressions.specs.Scopes.{scope_of}
use Rattle.macro_expressions.proofs.MacroFronts.{replaced-end}
use Rattle.macro_expressions.proofs.macros.replace.Goals as goal

pub returns : goal.returns
returns c = sym (append-nil c.loop-i.out.items) ∙ ap (λ ys. c.loop-i.out.items ++ ys) (sym (replaced-end c.args.undefined (scope_of c.args.scope) c.args.text.now c.loop-i.i (omega arith))) ∙ c.loop-i.invariant.so_far
