use Rattle.std.proofs.Common.{◌≡◌, take}
use Rattle.fdf_lines.proofs.flash_lines.copied_scopes.Given as goal

abbrev pub invariant-loop-scope : goal.invariant-loop-scope
invariant-loop-scope l = l.rows ≡ take l.scope-index l.scopes
