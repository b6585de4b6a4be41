use Rattle.module_faults.proofs.DepexLemmas.{compiled_fails}
use Rattle.module_faults.proofs.GuidLemmas.{code_fails}
use Rattle.module_faults.proofs.TextLemmas.{texts_fail, depex_fails}
use Rattle.module_faults.proofs.laws.texts_fail_by_names.Goals as goal

pub returns-clause-texts : goal.returns-clause-texts
returns-clause-texts c = code_fails

pub returns-clause-code : goal.returns-clause-code
returns-clause-code c = texts_fail

pub returns-clause-compiled : goal.returns-clause-compiled
returns-clause-compiled c = compiled_fails

pub returns-clause-depex : goal.returns-clause-depex
returns-clause-depex c = depex_fails
