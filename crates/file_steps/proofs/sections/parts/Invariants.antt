use Rattle.std.proofs.Common.{◌≡◌, All, length}
use Rattle.build_base.specs.First.{with_front}
use Rattle.file_steps.specs.Sections.{parts_from, HasGuid}
use Rattle.file_steps.proofs.sections.parts.Given as goal

abbrev pub invariant-loop-left : goal.invariant-loop-left
invariant-loop-left l = record {
  rest : with_front l.parts (parts_from l.depex l.expression l.given l.left) ≡ parts_from l.depex l.expression l.given l.sections;
  guids : All HasGuid l.parts;
}

abbrev pub decreases-loop-left : goal.decreases-loop-left
decreases-loop-left l = length l.left
