-- A head that has a base, and is to be moved to it.
use Rattle.std.proofs.Common.{◌≡◌, true}
use Rattle.std.specs.Prelude.{is_some}
use Rattle.build_stages.specs.Bounds.{both_hold}
use Rattle.doc_types.specs.declared.volume_head.VolumeHead.{VolumeHead}
use Rattle.image_rebase.specs.Rebase.{IsBased}
use Rattle.step_answers.specs.Volumes.{is_based}

pub is_based_head : (head : VolumeHead) → is_based head ≡ true → IsBased head
is_based_head head e =
    let both = both_hold (is_some head.base) head.force e in record { base = both.0; force = both.1 }
