use Rattle.std.proofs.Common.{[]}
use Rattle.pcd_ranks.specs.Listing.{package_lines}
use Rattle.pcd_resolve.specs.Tables.{declared_name}
use Rattle.pcd_ranks.specs.Views.{declared_view}
use Rattle.pcd_resolve.proofs.GroupLemmas.{kept_none}
use Rattle.pcd_resolve.proofs.tables.declared_by_name.Goals as goal

pub returns : goal.returns
unfolding package_lines
returns c = c.in_ok-add_packages.ensures [] (kept_none c.args.marks.now declared_view declared_name c.new-table.result c.new-table.ensures.empty)
