use Rattle.std.proofs.Common.{◌∙◌, sym}
use Rattle.std.proofs.lemmas.Bool.{and_from}
use Rattle.std.proofs.lemmas.List.Folds.{list_all_more}
use Rattle.volume_nesting.specs.Numbering.{has}
use Rattle.volume_nesting.proofs.numbering.open_from.Goals as goal

pub loop-i-preserved : goal.loop-i-preserved
loop-i-preserved c = λ order told passed.
    list_all_more (has order) c.args.nest.now c.loop-i.i 0 c.loop-i-test.true
    ∙ and_from _ _ (c.loop-i.invariant order told passed) (sym (told _) ∙ sym c.contains.ensures ∙ c.if-not-contains.false)
