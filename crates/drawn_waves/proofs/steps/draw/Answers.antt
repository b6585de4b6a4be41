-- A draw keeps the rule.
use Rattle.std.proofs.Common.{rules}
use Rattle.drawn_waves.proofs.Kept.{draws}
use Rattle.drawn_waves.proofs.steps.draw.Goals as goal

pub fetch_add-requires : goal.fetch_add-requires
fetch_add-requires g c = (search rules, search rules, draws _ _ _ _ _ (search rules) (search rules))
