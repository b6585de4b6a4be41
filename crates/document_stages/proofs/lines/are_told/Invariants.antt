-- Where the files that are left are told, all are.
use Rattle.std.proofs.Common.{length}
use Rattle.build_stages.specs.Asks.{same_ask}
use Rattle.build_stages.specs.Known.{known_at}
use Rattle.document_stages.specs.Documents.{got_step}
use Rattle.document_stages.specs.Learning.{AreTold}
use Rattle.document_stages.proofs.lines.are_told.Given as goal

abbrev pub invariant-loop-left : goal.invariant-loop-left
invariant-loop-left g l =
    AreTold (got_step (same_ask g.S.Key.Ord.cmp) g.S.StepTypes.staged.fits (known_at g.S.Key.Ord.cmp l.known)) l.left
    → AreTold (got_step (same_ask g.S.Key.Ord.cmp) g.S.StepTypes.staged.fits (known_at g.S.Key.Ord.cmp l.known)) l.files

abbrev pub decreases-loop-left : goal.decreases-loop-left
decreases-loop-left g l = length l.left
