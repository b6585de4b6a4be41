use Rattle.library_steps.specs.Near.{AreNear}
use Rattle.library_steps.proofs.near.near_marks.Given as goal

abbrev pub invariant-loop-place : goal.invariant-loop-place
invariant-loop-place l = AreNear l.skus l.place-index l.marks.items
