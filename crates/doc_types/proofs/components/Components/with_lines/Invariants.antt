use Rattle.std.proofs.Common.{◌≡◌, ◌++◌, ◌<◌, ◌-◌, filter, map, drop, length, get_or}
use Rattle.doc_types.specs.Components.{has_lines, lines_number}
use Rattle.doc_types.proofs.components.Components.with_lines.Given as goal

abbrev pub invariant-loop-place : goal.invariant-loop-place
invariant-loop-place l = record {
  rows : l.rows ≡ l.self;
  rest : map (λ c. c.now) l.found.items ++ filter has_lines (drop l.place l.rows) ≡ filter has_lines l.rows;
  stands : l.place < length l.rows → get_or (map lines_number l.rows) l.place 0 ≡ 1;
}

abbrev pub decreases-loop-place : goal.decreases-loop-place
decreases-loop-place l = length l.rows - l.place
