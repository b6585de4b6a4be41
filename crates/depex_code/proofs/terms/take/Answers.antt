use Rattle.std.proofs.Common.{sym, ◌∙◌, refl, option_map}
use Rattle.depex_code.specs.Kept.{wait_view, waits_of}
use Rattle.depex_code.proofs.TermTurns.{took, base_of}
use Rattle.depex_code.proofs.terms.take.Goals as goal

pub returns : goal.returns
returns c = took (waits_of c.args.waits.now.items) (waits_of c.pop.new.waits.items) (option_map wait_view c.pop.result) (sym c.is_base.ensures ∙ c.if-is_base.false) c.pop.ensures

pub returns-then-is_base : goal.returns-then-is_base
returns-then-is_base c = (refl, base_of (waits_of c.args.waits.now.items) (sym c.is_base.ensures ∙ c.if-is_base.true))
