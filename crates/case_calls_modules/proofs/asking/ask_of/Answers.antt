use Rattle.std.proofs.Common.{◌≡◌, IfOk, Result, Ok, Err, subst, sym}
use Rattle.doc_types.specs.declared.asks.PlatformAsk.{PlatformAsk}
use Rattle.doc_types.specs.declared.platform.PlatformDoc.{PlatformDoc}
use Rattle.pcd_resolve.specs.Platform.{SkusEnd}
use Rattle.case_calls_modules.proofs.asking.ask_of.Goals as goal

ended : {E : Type 0} (r : Result PlatformAsk E) (ask : PlatformAsk) (platform : PlatformDoc) → SkusEnd platform.skus → ask.platform ≡ platform → IfOk r (λ copy. copy ≡ ask) → IfOk r (λ a. SkusEnd a.platform.skus)
ended (Ok copy) ask platform ends is same = subst (λ a. SkusEnd a.platform.skus) (sym same) (subst (λ p. SkusEnd p.skus) (sym is) ends)
ended (Err stop) ask platform ends is same = tt

pub returns : goal.returns
returns c = ended c.checked_copy.result c.in_ok-ask.ask c.in_ok-platform.platform c.in_ok-platform.ensures c.in_ok-ask.ensures c.checked_copy.ensures
