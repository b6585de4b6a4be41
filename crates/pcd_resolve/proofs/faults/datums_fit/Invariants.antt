use Rattle.std.proofs.Common.{◌≡◌, map, drop}
use Rattle.meta_lexer.specs.Faults.{first_fault}
use Rattle.pcd_ranks.specs.Views.{stated_view, use_view}
use Rattle.pcd_resolve.specs.Faults.{datum_conflict}
use Rattle.pcd_resolve.proofs.faults.datums_fit.Given as goal

abbrev pub invariant-loop-stated : goal.invariant-loop-stated
invariant-loop-stated l =
    first_fault (datum_conflict l.kind (map use_view l.uses)) (map stated_view (drop l.stated-index l.lines))
    ≡ first_fault (datum_conflict l.kind (map use_view l.uses)) (map stated_view l.lines)
