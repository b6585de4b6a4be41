use Rattle.std.proofs.Common.{◌∙◌, sym}
use Rattle.doc_types.specs.Pcds.{full_name}
use Rattle.pcd_resolve.proofs.GroupLemmas.{adds_named, adds_none}
use Rattle.pcd_resolve.proofs.tables.add_kept.Goals as goal

pub returns : goal.returns
returns g c = adds_named c.args.marks.now (full_name c.args.pcd.now) c.args.item c.in_ok-name.name c.args.table.now c.add.new.table c.in_ok-name.ensures (λ q. c.in_ok-add.ensures q)

pub returns-then-not-is_pcd_kept : goal.returns-then-not-is_pcd_kept
returns-then-not-is_pcd_kept g c = adds_none c.args.marks.now (full_name c.args.pcd.now) c.args.item c.args.table.now (sym c.is_pcd_kept.ensures ∙ c.if-not-is_pcd_kept.true)
