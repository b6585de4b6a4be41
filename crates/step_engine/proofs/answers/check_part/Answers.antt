-- What was compared before, or is compared now.
use Rattle.std.proofs.Common.{sym, ◌∙◌}
use Rattle.step_engine.proofs.AgreeLemmas.{compared_noted}
use Rattle.step_engine.proofs.answers.check_part.Goals as goal

pub returns-in-Some-clause-same : goal.returns-in-Some-clause-same
returns-in-Some-clause-same g c =
    let h = c.requires.compared c.args.part.now c.in-Some.same (sym c.get.ensures ∙ c.in-Some.is) in
    (h.0, h.1, h.2 c.args.pair.now c.requires.old c.requires.asked)

pub returns-clause-same : goal.returns-clause-same
returns-clause-same g c = (c.in_ok-outcome.outcome, rw c.in_ok-outcome.ensures c.in-Some-result_of.ensures.some, c.same-same.ensures)

pub returns-clause-compared : goal.returns-clause-compared
returns-clause-compared g c = compared_noted g.K.Ord.cmp c.args.old.now c.args.fresh.now.items c.args.compared.now c.note_compared.new.compared c.args.part.now c.same-same.result c.args.pair.now c.in_ok-outcome.outcome c.requires.compared (rw c.in_ok-outcome.ensures c.in-Some-result_of.ensures.some) c.requires.old c.requires.asked c.same-same.ensures c.in_ok-note_compared.ensures
