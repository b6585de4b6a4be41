use Rattle.std.proofs.Common.{◌++◌, List, map, take}
use Rattle.pcd_resolve.specs.Groups.{GroupedAt}
use Rattle.build_texts.specs.Named.{Declared, declared_name, line_from}
use Rattle.build_texts.specs.Views.{declared_view}
use Rattle.build_texts.proofs.packages.add_lines.Given as goal

abbrev pub invariant-loop-line : goal.invariant-loop-line
invariant-loop-line l =
    (xs : List Declared) → GroupedAt l.marks declared_view declared_name xs l.fn.table
    → GroupedAt l.marks declared_view declared_name (xs ++ map (line_from l.from) (take l.line-index l.lines)) l.table
