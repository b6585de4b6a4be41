use Rattle.std.specs.Fn.{FnReturnsAt}
use Rattle.build_rules.proofs.AdoptLemmas.{keeps_adopted}
use Rattle.build_rules.proofs.adoption.keep_staying.Goals as goal

pub returns : goal.returns
returns g c = keeps_adopted c.args.edition (FnReturnsAt g.F.Fn c.args.wanted.now) _ _ c.keep.ensures c.requires.right
