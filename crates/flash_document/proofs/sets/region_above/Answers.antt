use Rattle.std.proofs.Common.{◌∙◌, ◌-◌, Some, sym, ap, arith}
use Rattle.flash_document.proofs.RegionLemmas.{region_here}
use Rattle.flash_document.proofs.sets.region_above.Goals as goal

pub returns-in-Some-Region-clause-some : goal.returns-in-Some-Region-clause-some
returns-in-Some-Region-clause-some c =
    sym c.loop-i.invariant.1
    ∙ region_here c.args.k c.args.above.now (c.loop-i.i - 1) c.loop-i.i c.index-above-i.result c.in-Some-Region.start (omega arith) (omega (arith, c.loop-i.invariant.0)) c.index-above-i.is
    (c.in-Some-Region.ensures.some ∙ ap Some c.in-Some-Region.field-0-is)
