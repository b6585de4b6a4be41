-- A look keeps the rule.
use Rattle.std.proofs.Common.{rules}
use Rattle.drawn_waves.proofs.Kept.{looks}
use Rattle.drawn_waves.proofs.steps.look.Goals as goal

pub load-requires : goal.load-requires
load-requires g c = (search rules, search rules, looks _ _ _ _ _ (search rules))
