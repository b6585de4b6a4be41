use Rattle.std.proofs.Common.{◌≡◌, ◌==◌, All, is_some, length, map}
use Rattle.doc_types.specs.Standard.{EFI_SECTION_FREEFORM_SUBTYPE_GUID}
use Rattle.build_base.specs.First.{all_ok, with_front}
use Rattle.file_steps.specs.Parts.{part_of}
use Rattle.file_steps.proofs.parts.parts_of.Given as goal

abbrev pub invariant-loop-left : goal.invariant-loop-left
invariant-loop-left l = record {
  rest : with_front l.parts (all_ok (map (part_of l.flash l.given) l.left)) ≡ all_ok (map (part_of l.flash l.given) l.sections);
  guids : All (λ part. is_some part.guid ≡ (part.kind == EFI_SECTION_FREEFORM_SUBTYPE_GUID)) l.parts;
}

abbrev pub decreases-loop-left : goal.decreases-loop-left
decreases-loop-left l = length l.left
