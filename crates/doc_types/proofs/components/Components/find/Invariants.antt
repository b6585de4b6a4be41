use Rattle.std.proofs.Common.{◌≡◌, ◌<◌, ◌-◌, find, map, drop, length, get_or}
use Rattle.build_base.specs.Digest.{digest}
use Rattle.doc_types.specs.Components.{is_component, inf_number}
use Rattle.doc_types.proofs.components.Components.find.Given as goal

abbrev pub invariant-loop-place : goal.invariant-loop-place
invariant-loop-place l = record {
  rows : l.rows ≡ l.self;
  rest : find (is_component l.inf l.arch) (drop l.place l.rows) ≡ find (is_component l.inf l.arch) l.rows;
  stands : l.place < length l.rows → get_or (map inf_number l.rows) l.place 0 ≡ digest l.inf;
}

abbrev pub decreases-loop-place : goal.decreases-loop-place
decreases-loop-place l = length l.rows - l.place
