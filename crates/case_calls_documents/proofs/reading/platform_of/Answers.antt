use Rattle.std.proofs.Common.{◌≡◌, IfOk, Result, Ok, Err, subst, sym}
use Rattle.doc_types.specs.declared.platform.PlatformDoc.{PlatformDoc}
use Rattle.dsc_platform.specs.Shape.{HasShape}
use Rattle.case_calls_documents.proofs.reading.platform_of.Goals as goal

shaped : {E : Type 0} (r : Result PlatformDoc E) (p : PlatformDoc) → HasShape p → IfOk r (λ copy. copy ≡ p) → IfOk r (λ platform. HasShape platform)
shaped (Ok q) p shape same = subst (λ x. HasShape x) (sym same) shape
shaped (Err stop) p shape same = tt

pub returns : goal.returns
returns c = shaped c.checked_copy.result c.in_ok-platform.platform c.in_ok-platform.ensures c.checked_copy.ensures
