use Rattle.image_rebase.proofs.FileLemmas.{aligned_moved}
use Rattle.image_rebase.proofs.VolumeLemmas.{less_files, runs_of}
use Rattle.image_rebase.proofs.volume.move_volume.Goals as goal

pub compose-requires-clause-aligned : goal.compose-requires-clause-aligned
compose-requires-clause-aligned c =
    aligned_moved _ _ c.args.files.now c.args.places.now _ c.requires.aligned c.in-Ok.ensures

pub returns-in-Ok-clause-runs : goal.returns-in-Ok-clause-runs
returns-in-Ok-clause-runs c =
    let p = less_files _ _ c.args.files.now c.args.places.now _ c.in-Ok.ensures in
    runs_of c.args.files.now _ c.compose.result p.0 p.1 c.compose.ensures.runs
