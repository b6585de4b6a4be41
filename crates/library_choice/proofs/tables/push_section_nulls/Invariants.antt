use Rattle.std.proofs.Common.{◌≡◌, ◌++◌, ◌<◌, ◌-◌, map, drop, length, get_or, codes}
use Rattle.std.specs.List.{filter_map}
use Rattle.build_base.specs.Digest.{digest}
use Rattle.doc_types.specs.LibraryLines.{class_number}
use Rattle.library_choice.specs.Closure.{null_of}
use Rattle.library_choice.proofs.tables.push_section_nulls.Given as goal

abbrev pub invariant-loop-place : goal.invariant-loop-place
invariant-loop-place l = record {
  lines : l.lines ≡ l.sections;
  rest : l.paths ++ filter_map (null_of l.user) (drop l.place l.lines) ≡ l.fn.paths ++ filter_map (null_of l.user) l.lines;
  stands : l.place < length l.lines → get_or (map class_number l.lines) l.place 0 ≡ digest (codes "NULL");
}

abbrev pub decreases-loop-place : goal.decreases-loop-place
decreases-loop-place l = length l.lines - l.place
