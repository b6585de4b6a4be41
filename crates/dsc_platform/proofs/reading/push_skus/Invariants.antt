use Rattle.std.proofs.Common.{◌≡◌, ◌++◌, drop, map}
use Rattle.dsc_platform.proofs.reading.push_skus.Given as goal

abbrev pub invariant-loop-line : goal.invariant-loop-line
invariant-loop-line l = l.skus ++ map (λ line. line.sku) (drop l.line-index l.lines) ≡ l.fn.skus ++ map (λ line. line.sku) l.lines
