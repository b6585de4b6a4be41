-- Faults of volumes that are moved to their bases have names.
use Rattle.std.proofs.Common.{Err, List, true, ◌≡◌}
use Rattle.std.specs.List.{list_all}
use Rattle.named_faults.specs.Named.{FailsByName}
use Rattle.named_faults.proofs.NamedLemmas.{both_fail}
use Rattle.doc_types.specs.declared.image.FileImage.{FileImage}
use Rattle.doc_types.specs.declared.volume_head.VolumeHead.{VolumeHead}
use Rattle.fv_compose.specs.Files.{is_stated}
use Rattle.fv_compose.specs.Volume.{HasShape, head_fits}
use Rattle.image_rebase.specs.Rebase.{rebased_bytes}
use Rattle.build_stages.specs.Stages.{impossible_answer}
use Rattle.volume_steps.specs.Based.{rebased_image}
use Rattle.image_faults.proofs.MovedFaults.{rebased_fails}
use Rattle.image_faults.proofs.VolumeFaults.{head_sure}

pub based_fails : (head : VolumeHead) (files : List FileImage) → HasShape head → list_all is_stated files ≡ true → FailsByName (rebased_image head files)
unfolding rebased_image
based_fails head files h s = both_fail (head_fits head) (list_all is_stated files) (rebased_bytes head files) (Err impossible_answer) (head_sure head h) s (rebased_fails head files)
