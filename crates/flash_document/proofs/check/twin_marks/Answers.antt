use Rattle.std.proofs.Common.{◌∙◌, ◌++◌, sym, ap, subst}
use Rattle.flash_document.specs.Names.{Places}
use Rattle.flash_document.specs.Whole.{twin_marks}
use Rattle.flash_document.proofs.NameLemmas.{places_none}
use Rattle.flash_document.proofs.check.twin_marks.Goals as goal

pub loop-left-init : goal.loop-left-init
loop-left-init c = (
  subst (λ names. Places names c.new-table.result) (sym c.new-above.ensures) (places_none c.new-table.result c.new-table.ensures.empty),
  ap (λ marks. marks ++ twin_marks c.args.parts.now c.new-above.result) c.new-marks.ensures
      ∙ ap (twin_marks c.args.parts.now) c.new-above.ensures,
)
