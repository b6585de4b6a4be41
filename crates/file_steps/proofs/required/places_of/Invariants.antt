use Rattle.std.proofs.Common.{◌≤◌, length}
use Rattle.file_steps.specs.Required.{IsTableFrom}
use Rattle.file_steps.proofs.required.places_of.Given as goal

abbrev pub invariant-loop-place : goal.invariant-loop-place
invariant-loop-place l = record {
  place : l.place ≤ length l.sections;
  table : IsTableFrom l.sections l.place l.places;
}

abbrev pub decreases-loop-place : goal.decreases-loop-place
decreases-loop-place l = l.place
