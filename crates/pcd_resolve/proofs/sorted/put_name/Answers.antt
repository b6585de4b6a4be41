use Rattle.std.proofs.Common.{◌∙◌, map, ap}
use Rattle.pcd_resolve.proofs.SortedLemmas.{insert_seen}
use Rattle.pcd_resolve.proofs.sorted.put_name.Goals as goal

pub returns : goal.returns
returns c = ap (map (λ n. n.items)) c.in_ok-insert.ensures ∙ insert_seen c.args.names.now.keys c.args.name
