use Rattle.std.proofs.Common.{List, sym, subst}
use Rattle.doc_types.specs.declared.module.InfDoc.{InfDoc}
use Rattle.library_choice.specs.Tables.{Infs}
use Rattle.library_choice.proofs.TableLemmas.{infs_none}
use Rattle.library_choice.proofs.known_infs.KnownInfs.of.Goals as goal

pub invariant_of-none : goal.invariant_of-none
invariant_of-none c = subst (λ (l : List InfDoc). Infs l c.new-2.result) (sym c.new.ensures) (infs_none c.new-2.result c.new-2.ensures.empty)
