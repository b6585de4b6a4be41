use Rattle.std.proofs.Common.{◌∙◌, ap, codes}
use Rattle.clap.specs.Words.{App}
use Rattle.clap.specs.Simple.{with_rule}
use Rattle.clap.specs.declared.builder.action.ArgAction.TheVariants.{Append}
use Rattle.build_words.specs.Command.{long_option}
use Rattle.build_words.proofs.command.with_settings.Goals as goal

pub returns : goal.returns
returns c =
    let e1 = c.in_ok-c1.ensures in
    c.in_ok-c2.ensures ∙ ap (λ (a : App). with_rule a (long_option (codes "pcd") Append)) e1
