use Rattle.std.proofs.Common.{◌∙◌, map, ap, sym}
use Rattle.std.specs.List.{list_any}
use Rattle.pcd_resolve.specs.Sought.{is_open, sought_view}
use Rattle.pcd_resolve.proofs.SoughtLemmas.{all_closed}
use Rattle.pcd_resolve.proofs.sought.look_further.Goals as goal

pub returns-then-not-any_open : goal.returns-then-not-any_open
returns-then-not-any_open c =
    sym (all_closed c.args.parts.now (map sought_view c.args.all.items)
    (sym (c.any_open.ensures ∙ ap (λ xs. list_any is_open (map sought_view xs)) c.as_slice.ensures.value) ∙ c.if-not-any_open.true))
