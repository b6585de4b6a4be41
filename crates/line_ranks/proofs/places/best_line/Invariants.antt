use Rattle.std.proofs.Common.{◌≡◌, ◌<◌, ◌-◌, false, map, drop, length, get_or}
use Rattle.std.specs.Option.{option_copied}
use Rattle.build_base.specs.Best.{best, over}
use Rattle.build_base.specs.Digest.{digest}
use Rattle.doc_types.specs.LibraryLines.{class_number}
use Rattle.line_ranks.specs.Lines.{weight}
use Rattle.line_ranks.proofs.places.best_line.Given as goal

abbrev pub invariant-loop-place : goal.invariant-loop-place
invariant-loop-place l = record {
  rows : l.rows ≡ l.lines;
  rest : over (weight l.user false l.class) (option_copied l.held) (best (weight l.user false l.class) (drop l.place l.rows)) ≡ best (weight l.user false l.class) l.rows;
  stands : l.place < length l.rows → get_or (map class_number l.rows) l.place 0 ≡ digest l.class;
}

abbrev pub decreases-loop-place : goal.decreases-loop-place
decreases-loop-place l = length l.rows - l.place
