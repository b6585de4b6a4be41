use Rattle.std.proofs.Common.{rules}
use Rattle.macro_conditions.specs.Sources.{answer}
use Rattle.macro_conditions.proofs.MoreAnswersLaw.{in_world}
use Rattle.macro_conditions.proofs.expansion.expand.Goals as goal

pub returns-clause-worlds : goal.returns-clause-worlds
returns-clause-worlds c =
    λ world agrees. in_world c.expanded.result (answer c.args.files.now) c.args.root.now c.args.macros.now c.args.fixed.now (search rules) world agrees
