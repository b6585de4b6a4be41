use Rattle.build_rules.specs.Rules.{value_in}
use Rattle.edk_build.proofs.BuildLemmas.{built, cut_short, handed_on, was_cut}
use Rattle.edk_build.proofs.build.build.Goals as goal

pub returns-in_err-status-clause-cut : goal.returns-in_err-status-clause-cut
returns-in_err-status-clause-cut g c =
    handed_on c.from_residual-in_err-status.result c.in_err-status.field-0.0 _ c.from_residual-in_err-status.ensures.1 (λ e w h.
    let b = c.in_ok-brought.ensures.brought w h in
    cut_short w c.args.cache c.in_ok-brought.brought.given c.in_ok-brought.brought.cache c.in_ok-brought.brought.steps c.in_ok-brought.brought.reused c.args.label.now
    _ _ b (was_cut c.in_err-status.field-0.0 _ e (c.in_err-status.ensures.cut (value_in w) b.agrees)))

pub returns-clause-built : goal.returns-clause-built
returns-clause-built g c = λ w h.
    let b = c.in_ok-brought.ensures.brought w h in
    built w c.args.cache c.in_ok-brought.brought.given c.in_ok-brought.brought.cache c.in_ok-brought.brought.steps c.in_ok-brought.brought.reused c.args.label.now
    c.in_ok-status.status _ _ b (c.in_ok-status.ensures.ends (value_in w) b.agrees) (c.in_ok-status.ensures.written (value_in w) b.agrees)
