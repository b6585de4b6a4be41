use Rattle.std.proofs.Common.{◌∙◌, ap, codes, false}
use Rattle.clap.specs.Words.{App}
use Rattle.clap.specs.Simple.{with_rule}
use Rattle.clap.specs.declared.builder.action.ArgAction.TheVariants.{Set}
use Rattle.build_words.specs.Command.{option_of}
use Rattle.build_words.proofs.command.with_names.Goals as goal

pub returns : goal.returns
returns c =
    let e1 = c.in_ok-c1.ensures in
    let e2 = c.in_ok-c2.ensures ∙ ap (λ (a : App). with_rule a (option_of (codes "buildtarget") 98 Set false)) e1 in
    let e3 = c.in_ok-c3.ensures ∙ ap (λ (a : App). with_rule a (option_of (codes "tagname") 116 Set false)) e2 in
    c.in_ok-c4.ensures ∙ ap (λ (a : App). with_rule a (option_of (codes "sku-id") 120 Set false)) e3
