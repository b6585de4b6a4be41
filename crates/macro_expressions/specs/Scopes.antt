-- Macros that hold at a line (EDK II DSC specification, macro statements).
use Rattle.std.specs.Prelude.{List, ◌++◌}
use Rattle.build_base.specs.declared.lines.Macro.{Macro}
use Rattle.macro_expressions.specs.declared.macros.Scope.{Scope}

-- the macros of the files, and then the fixed ones, which hold above them
abbrev pub scope_of : Scope → List Macro
scope_of scope = scope.files.now ++ scope.fixed.now
