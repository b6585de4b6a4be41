use Rattle.std.proofs.Common.{◌∙◌}
use Rattle.vpd_image.proofs.PlaceLemmas.{holds_empty}
use Rattle.vpd_image.proofs.placing.take.Goals as goal

pub returns-then-size-eq0 : goal.returns-then-size-eq0
returns-then-size-eq0 c = λ placed p h free at long. holds_empty placed p c.args.room.now (long ∙ c.if-size-eq0.true) h
