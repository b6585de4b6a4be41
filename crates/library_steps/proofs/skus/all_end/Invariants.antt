use Rattle.std.proofs.Common.{◌≡◌, drop, length}
use Rattle.std.specs.List.{list_all}
use Rattle.library_steps.specs.Skus.{reaches}
use Rattle.library_steps.proofs.skus.all_end.Given as goal

abbrev pub invariant-loop-place : goal.invariant-loop-place
invariant-loop-place l = list_all (λ sku. reaches l.skus sku.name (length l.skus)) (drop l.place l.skus) ≡ list_all (λ sku. reaches l.skus sku.name (length l.skus)) l.skus
