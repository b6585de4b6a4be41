use Rattle.std.proofs.Common.{drop}
use Rattle.std.specs.List.{flat_map}
use Rattle.volume_nesting.specs.Looping.{Saw}
use Rattle.volume_nesting.specs.Numbering.{nest_of}
use Rattle.volume_nesting.specs.declared.loops.Level.{Level}
use Rattle.volume_nesting.proofs.loops.Level.see_nests.Given as goal

abbrev pub invariant-loop-volume : goal.invariant-loop-volume
invariant-loop-volume l =
    (last : Level) → Saw (flat_map (nest_of l.fn.nests) (drop l.volume-index l.fn.edge)) l.self last → Saw (flat_map (nest_of l.fn.nests) l.fn.edge) l.initial.self last
