use Rattle.std.proofs.Common.{◌∙◌, ap, Some}
use Rattle.macro_expressions.specs.Macros.{value_of}
use Rattle.macro_expressions.proofs.TableLemmas.{found_value}
use Rattle.macro_expressions.proofs.table.MacroTable.value_of.Goals as goal

pub returns-in-Some : goal.returns-in-Some
returns-in-Some c =
    ap (λ v. Some v) c.bytes.ensures ∙ c.in-Some.ensures.value ∙ found_value c.self.inside.by_name c.args.name.now c.self.invariant
    ∙ ap (value_of c.args.name.now) c.self.view_is

pub returns-in-None : goal.returns-in-None
returns-in-None c =
    c.in-None.ensures.value ∙ found_value c.self.inside.by_name c.args.name.now c.self.invariant ∙ ap (value_of c.args.name.now) c.self.view_is
