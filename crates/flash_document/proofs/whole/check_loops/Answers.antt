use Rattle.std.proofs.Common.{◌∙◌, ap, subst}
use Rattle.build_base.specs.Answer.{Checks}
use Rattle.volume_nesting.specs.Numbering.{first_loop}
use Rattle.flash_document.specs.Tables.{loop_in}
use Rattle.flash_document.specs.Whole.{volumes_of, nests_of}
use Rattle.flash_document.proofs.WholeLemmas.{loop_lent}
use Rattle.flash_document.proofs.whole.check_loops.Goals as goal

pub returns : goal.returns
returns c = λ parts h n.
    subst (Checks c.find_loop.result) (ap (λ ns. loop_in c.args.volumes.now (first_loop ns)) n ∙ loop_lent c.args.volumes.now (volumes_of parts) h (first_loop (nests_of parts))) c.find_loop.ensures
