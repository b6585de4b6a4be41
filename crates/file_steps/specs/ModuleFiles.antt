-- The file of a module, by the answers of its step (UEFI PI specification, volume 3, section 3.2.3;
-- EDK II FDF specification, INF statements).
use Rattle.std.specs.Prelude.{List, Result}
use Rattle.build_base.specs.declared.fault.Fault.{Fault}
use Rattle.build_base.specs.First.{and_then, or_fault}
use Rattle.step_engine.specs.declared.talk.Pair.{Pair}
use Rattle.step_pack.specs.declared.key.Key.{Key}
use Rattle.step_pack.specs.declared.out.Out.{Out}
use Rattle.doc_types.specs.declared.image.Body.TheVariants as body
use Rattle.doc_types.specs.declared.image.FileImage.{FileImage}
use Rattle.doc_types.specs.declared.image.Part.{Part}
use Rattle.doc_types.specs.declared.volume_head.VolumeHead.{VolumeHead}
use Rattle.ffs_sections.specs.File.{file_of}
use Rattle.file_steps.specs.Files.{image_plan}
use Rattle.file_steps.specs.declared.plans.ModulePlan.{ModulePlan}
use Rattle.file_steps.specs.Sections.{files_checked, own_expression, expression_fault, parts_from}

-- the sections: each file and then the expression has to be there, where it is required, before one
-- is looked into
unfoldable pub sections_given : ModulePlan → List (Pair Key Out) → Result (List Part) Fault
sections_given plan given =
    and_then (files_checked plan.depex given plan.file.sections plan.file.sections) (λ checked.
    and_then (own_expression plan given) (λ expression.
    or_fault (expression_fault plan.depex plan.file.sections expression)
    (parts_from plan.depex expression given plan.file.sections)))

-- the file of a module in a volume with this head
unfoldable pub module_given : VolumeHead → ModulePlan → List (Pair Key Out) → Result FileImage Fault
module_given head plan given =
    and_then (sections_given plan given) (λ parts.
    file_of (image_plan head plan.file plan.name (body.Sections parts)))
