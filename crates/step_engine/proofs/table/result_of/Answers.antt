-- The entry of the number is the key's.
use Rattle.std.proofs.Common.{Some, sym, ◌∙◌, ap}
use Rattle.step_engine.proofs.TableLemmas.{found}
use Rattle.step_engine.proofs.table.result_of.Goals as goal

pub returns-in-Some-clause-some : goal.returns-in-Some-clause-some
returns-in-Some-clause-some g c = found _ _ _ _ _ c.in-Some.entry.now c.requires (sym c.get.ensures ∙ (c.in-Some-Done.is ∙ ap Some c.in-Some-Done.field-0-is)) c.deref.ensures.value c.in-Some.ensures
