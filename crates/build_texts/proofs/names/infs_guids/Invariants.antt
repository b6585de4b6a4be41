use Rattle.std.proofs.Common.{◌≡◌, List, map, drop}
use Rattle.build_base.specs.First.{with_front}
use Rattle.pcd_resolve.specs.Groups.{GroupedAt}
use Rattle.build_texts.specs.Named.{Declared, all_of, declared_name, inf_guids}
use Rattle.build_texts.specs.Views.{declared_view, seen}
use Rattle.build_texts.proofs.names.infs_guids.Given as goal

abbrev pub invariant-loop-inf : goal.invariant-loop-inf
invariant-loop-inf l =
    (lines : List Declared) → GroupedAt l.marks declared_view declared_name lines l.table
    → with_front (seen l.guids.items) (all_of (map (inf_guids l.arch lines) (drop l.inf-index l.infs)))
    ≡ all_of (map (inf_guids l.arch lines) l.infs)
