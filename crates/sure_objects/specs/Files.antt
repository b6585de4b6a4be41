-- Files in a table.
use Rattle.std.specs.Prelude.{ℕ, List}
use Rattle.std.specs.BTreeMap.{is_at}
use Rattle.std.specs.Cmp.Lexicographic.{slice_cmp}
use Rattle.std.specs.Map.{lookup}
use Rattle.std.specs.Ordering.{nat_cmp}
use Rattle.build_base.specs.Outside.{Files}

-- what a table has at a path
abbrev pub found_in : List (List ℕ × List ℕ) → Files
found_in table path = lookup (is_at (slice_cmp nat_cmp path)) table
