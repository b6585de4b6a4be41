use Rattle.macro_conditions.proofs.PauseLemmas.{pause_learns}
use Rattle.macro_conditions.proofs.document.OpenDocument.learn.Goals as goal

pub invariant_of-self : goal.invariant_of-self
invariant_of-self c =
    pause_learns c.push.result c.self.inside.files c.push.new.self _ c.self.inside.root c.self.inside.macros c.self.inside.fixed c.self.inside.left c.push.ensures.ok c.push.ensures.err c.self.invariant
