use Rattle.std.proofs.Common.{Ok, sym, ap, ◌∙◌}
use Rattle.depex_code.proofs.LimitLemmas.{compiled-none}
use Rattle.depex_code.proofs.compiler.compile.Goals as goal

pub returns-in_ok-of-clause-value : goal.returns-in_ok-of-clause-value
returns-in_ok-of-clause-value c =
    compiled-none c.args.module_type c.args.groups.now (sym c.has_depex.ensures ∙ c.if-has_depex.false) ∙ ap Ok (sym c.in_ok-of.ensures)
