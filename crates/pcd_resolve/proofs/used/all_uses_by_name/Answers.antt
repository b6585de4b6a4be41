use Rattle.std.proofs.Common.{[]}
use Rattle.pcd_ranks.specs.Listing.{uses_in}
use Rattle.pcd_resolve.specs.Tables.{use_name}
use Rattle.pcd_ranks.specs.Views.{use_view}
use Rattle.pcd_resolve.proofs.GroupLemmas.{grouped_none}
use Rattle.pcd_resolve.proofs.used.all_uses_by_name.Goals as goal

pub returns : goal.returns
unfolding uses_in
returns c = c.in_ok-add_modules.ensures [] (grouped_none use_view use_name c.new-table.result c.new-table.ensures.empty)
