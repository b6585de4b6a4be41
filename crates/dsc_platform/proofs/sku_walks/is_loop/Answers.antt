use Rattle.std.proofs.Common.{◌∙◌, sym}
use Rattle.dsc_platform.proofs.WalkLemmas.{comes_end}
use Rattle.dsc_platform.proofs.sku_walks.is_loop.Goals as goal

pub returns : goal.returns
returns c = sym (comes_end c.args.parents.now c.args.start c.loop-steps.steps c.loop-steps.place c.loop-steps-test.false) ∙ c.loop-steps.invariant
