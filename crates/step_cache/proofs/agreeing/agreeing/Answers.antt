-- Each part has one number.
use Rattle.std.proofs.Common.{List, subst}
use Rattle.step_cache.specs.Agreement.{AreOne}
use Rattle.step_cache.specs.declared.numbered.Numbered.{Numbered}
use Rattle.step_cache.proofs.AgreementLemmas.{agree_one}
use Rattle.step_cache.proofs.agreeing.agreeing.Goals as goal

pub agreeing-requires-after_bounds : goal.agreeing-requires-after_bounds
agreeing-requires-after_bounds c κs = λ yes.
    agree_one c.args.decoded.now.answers c.args.decoded.now.outcomes c.args.parts.now.entries c.args.cache c.requires
    (subst (λ (numbers : List Numbered). AreOne numbers) c.items.ensures (c.in_ok-agrees.ensures yes))
