use Rattle.std.proofs.Common.{sym}
use Rattle.flash_document.proofs.ExponentLemmas.{exponent_is, exponent_none}
use Rattle.flash_document.proofs.plan.exponent_in.Goals as goal

pub returns-then-alignment-eq0-clause-value : goal.returns-then-alignment-eq0-clause-value
returns-then-alignment-eq0-clause-value c = exponent_none c.args.alignment c.if-alignment-eq0.true

pub returns-clause-value : goal.returns-clause-value
returns-clause-value c = sym (exponent_is c.args.alignment c.ilog2.result c.ilog2.ensures.power_le c.ilog2.ensures.next_power_gt c.ilog2.ensures.bound)
