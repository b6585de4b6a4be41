use Rattle.build_texts.proofs.GuidMarkLemmas.{infs_kept}
use Rattle.build_texts.proofs.names.guid_marks.Goals as goal

pub returns : goal.returns
returns c = infs_kept _ _ c.args.infs.now c.mark_infs.ensures
