use Rattle.std.proofs.Common.{◌≡◌, List, map, drop}
use Rattle.build_base.specs.First.{with_front}
use Rattle.pcd_resolve.specs.Groups.{GroupedAt}
use Rattle.build_texts.specs.Named.{Declared, all_of, declared_name, line_guids}
use Rattle.build_texts.specs.Views.{declared_view, seen}
use Rattle.build_texts.proofs.names.lines_guids.Given as goal

abbrev pub invariant-loop-named : goal.invariant-loop-named
invariant-loop-named l =
    (lines : List Declared) → GroupedAt l.marks declared_view declared_name lines l.table
    → with_front (seen l.guids.items) (all_of (map (line_guids l.arch lines (map (λ p. p.now) l.paths)) (drop l.named-index l.names)))
    ≡ all_of (map (line_guids l.arch lines (map (λ p. p.now) l.paths)) l.names)
