use Rattle.std.proofs.Common.{◌∙◌, ap}
use Rattle.build_words.specs.Command.{build_app, names_app, files_app, images_app, settings_app}
use Rattle.build_words.proofs.command.build_command.Goals as goal

pub returns : goal.returns
unfolding build_app
returns c =
    let named = c.in_ok-named.ensures ∙ ap names_app c.bare_command-bare.ensures in
    let filed = c.in_ok-filed.ensures ∙ ap files_app named in
    let imaged = c.in_ok-imaged.ensures ∙ ap images_app filed in
    c.in_ok-whole.ensures ∙ ap settings_app imaged
