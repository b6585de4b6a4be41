use Rattle.std.proofs.Common.{◌≡◌, ◌++◌}
use Rattle.std.specs.List.{flat_map}
use Rattle.dsc_lines.specs.SkuNames.{Placed}
use Rattle.dsc_lines.specs.Standing.{parts_in}
use Rattle.dsc_platform.specs.Stating.{with_rows, names_of}
use Rattle.dsc_platform.proofs.stated.keep_rows.Given as goal

abbrev pub invariant-loop-row : goal.invariant-loop-row
invariant-loop-row l = record {
  stated : l.stated ≡ with_rows l.initial.stated l.yielded;
  names : Placed (names_of l.initial.stated.skus) l.initial.names → Placed (names_of l.stated.skus) l.names;
  parts : l.parts.items ≡ l.initial.parts.items ++ flat_map parts_in l.yielded;
}
