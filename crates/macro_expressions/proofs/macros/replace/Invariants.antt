use Rattle.std.proofs.Common.{◌≡◌, ◌-◌, ◌≤◌, ◌++◌, length, drop}
use Rattle.macro_expressions.specs.Macros.{replaced}
use Rattle.macro_expressions.specs.Scopes.{scope_of}
use Rattle.macro_expressions.proofs.macros.replace.Given as goal

abbrev pub invariant-loop-i : goal.invariant-loop-i
invariant-loop-i l = record {
  within : l.i ≤ length l.text;
  so_far : l.out.items ++ replaced l.undefined (scope_of l.scope) (drop l.i l.text) ≡ replaced l.undefined (scope_of l.scope) l.text;
}

abbrev pub decreases-loop-i : goal.decreases-loop-i
decreases-loop-i l = length l.text - l.i
