-- The rule holds before anything is drawn.
use Rattle.std.proofs.Common.{rules, arith}
use Rattle.std.proofs.lemmas.Grind.{common_steps}
use Rattle.drawn_waves.proofs.Kept.{starts_with}
use Rattle.drawn_waves.proofs.start.piece_table.Goals as goal

pub new-requires : goal.new-requires
new-requires g c = starts_with _ _ _ (search rules) (search rules) (search rules) (first_of (search rules, grind (arith, common_steps)))
