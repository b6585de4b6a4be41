use Rattle.std.proofs.Common.{◌≡◌, drop}
use Rattle.std.specs.List.{flat_map}
use Rattle.dsc_lines.specs.Standing.{last_mark, said_marks}
use Rattle.dsc_platform.proofs.format.standing_below.Given as goal

abbrev pub invariant-loop-row : goal.invariant-loop-row
invariant-loop-row l = last_mark l.below (flat_map said_marks (drop l.row-index l.rows)) ≡ last_mark l.fn.standing (flat_map said_marks l.rows)
