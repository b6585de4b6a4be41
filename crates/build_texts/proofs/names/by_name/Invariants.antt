use Rattle.std.proofs.Common.{◌≡◌, ◌≤◌, length, map, drop}
use Rattle.build_texts.specs.Named.{by_name}
use Rattle.build_texts.specs.Views.{entry_view, seen}
use Rattle.build_texts.proofs.names.by_name.Given as goal

abbrev pub invariant-loop-i : goal.invariant-loop-i
invariant-loop-i l = record {
  within : l.i ≤ length l.guids;
  so_far : map entry_view l.table.entries ≡ by_name (seen (drop l.i l.guids));
}

abbrev pub decreases-loop-i : goal.decreases-loop-i
decreases-loop-i l = l.i
