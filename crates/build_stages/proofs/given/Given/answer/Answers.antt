-- The answer at the place of the ask.
use Rattle.std.proofs.Common.{◌∙◌, ap}
use Rattle.build_stages.specs.Answered.{is_wanted}
use Rattle.build_stages.specs.Writing.{answer_where}
use Rattle.build_stages.proofs.AnswerLemmas.{answer_is}
use Rattle.build_stages.proofs.given.Given.answer.Goals as goal

pub returns-in-Some : goal.returns-in-Some
returns-in-Some g c =
    answer_is g.K.Ord.cmp (g.met.K.StepKey g.world.𝓛 g.world.𝓜 g.world.𝓡 ((λ s x. x), (λ x. x), (λ x. x), λ x. x)).same_key c.args.wanted.now c.self.inside.asks.now c.self.inside.answers.items c.self.invariant c.in-Some.place c.in-Some.ensures c.index.result.now c.index.ensures
    ∙ ap (answer_where (is_wanted g.K.Ord.cmp c.args.wanted.now)) c.self.view_is
