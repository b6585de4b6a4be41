-- A split keeps the rule.
use Rattle.std.proofs.Common.{rules}
use Rattle.drawn_waves.proofs.Kept.{halves}
use Rattle.drawn_waves.proofs.steps.split.Goals as goal

pub split_seat-other-requires : goal.split_seat-other-requires
split_seat-other-requires g c = (search rules, search rules, halves _ _ _ _ (search rules) (search rules))
