use Rattle.std.proofs.Common.{refl, sym, ◌∙◌, Err, Ok}
use Rattle.macro_expressions.specs.declared.macros.Undefined.TheVariants.{Zero}
use Rattle.macro_expressions.specs.Macros.{replaced}
use Rattle.macro_expressions.specs.Expressions.{detail_of}
use Rattle.macro_expressions.proofs.ExpressionMeaning.{meaning_of, meaning_of_fault}
use Rattle.macro_expressions.proofs.expression.evaluate.Goals as goal

pub returns-in-Ok-clause-tree : goal.returns-in-Ok-clause-tree
returns-in-Ok-clause-tree c =
    meaning_of (replaced Zero c.args.macros.now c.args.text.now) (Ok c.in-Ok.value)
    (sym c.in-Ok.is ∙ c.in_ok-value.ensures ∙ rw (c.items.ensures, c.bytes.ensures) refl)

pub returns-in-Err-clause-tree : goal.returns-in-Err-clause-tree
returns-in-Err-clause-tree c =
    let text = replaced Zero c.args.macros.now c.args.text.now in
    meaning_of_fault text c.args.at.now (detail_of c.in-Err.code c.bytes-in-Err.result.now) c.in-Err.code c.refuse_expression.result c.refuse_expression.ensures
    (meaning_of text (Err c.in-Err.code) (sym c.in-Err.is ∙ c.in_ok-value.ensures ∙ rw (c.items.ensures, c.bytes.ensures) refl))
