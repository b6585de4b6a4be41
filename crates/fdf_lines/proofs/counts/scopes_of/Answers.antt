use Rattle.std.proofs.Common.{◌∙◌, arith}
use Rattle.fdf_lines.specs.Counts.{one_scope}
use Rattle.fdf_lines.proofs.CountLemmas.{counted_all}
use Rattle.fdf_lines.proofs.counts.scopes_of.Goals as goal

pub returns : goal.returns
returns c =
    counted_all (one_scope c.args.section) c.args.scopes.now c.loop-scope.scope-index c.loop-scope.count (omega arith) c.loop-scope.invariant.1 ∙ c.loop-scope.invariant.0
