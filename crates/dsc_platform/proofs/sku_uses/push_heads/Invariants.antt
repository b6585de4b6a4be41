use Rattle.std.proofs.Common.{◌≡◌, ◌++◌, drop}
use Rattle.std.specs.List.{flat_map}
use Rattle.dsc_platform.specs.SkuUses.{head_uses}
use Rattle.dsc_platform.proofs.sku_uses.push_heads.Given as goal

abbrev pub invariant-loop-scope : goal.invariant-loop-scope
invariant-loop-scope l = l.uses ++ flat_map (head_uses l.at) (drop l.scope-index l.scopes) ≡ l.fn.uses ++ flat_map (head_uses l.at) l.scopes
