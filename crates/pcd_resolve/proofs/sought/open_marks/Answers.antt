use Rattle.pcd_resolve.proofs.NameFilterLemmas.{last_kept}
use Rattle.pcd_resolve.proofs.SoughtLemmas.{open_kept}
use Rattle.pcd_resolve.proofs.sought.open_marks.Goals as goal

pub returns : goal.returns
returns c = open_kept _ c.args.all.now (last_kept _ _ _ c.mark_all_open.ensures)
