use Rattle.image_rebase.proofs.VolumeLemmas.{stays_but}
use Rattle.image_rebase.proofs.volume.rebase_volume.Goals as goal

pub returns-in-Ok-clause-stays : goal.returns-in-Ok-clause-stays
returns-in-Ok-clause-stays c = stays_but c.args.head.now c.args.files.now _ c.in-Ok.ensures.value
