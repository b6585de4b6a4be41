use Rattle.std.proofs.Common.{◌∙◌, Bor, map, ap, sym}
use Rattle.doc_types.specs.declared.package.DecPcd.{DecPcd}
use Rattle.pcd_resolve.specs.Sought.{sought_view, widen}
use Rattle.pcd_resolve.proofs.SoughtLemmas.{closed_same}
use Rattle.pcd_resolve.proofs.sought.look.Goals as goal

pub returns-then-not-is_open : goal.returns-then-not-is_open
returns-then-not-is_open c = sym (closed_same c.args.tables.now.parts.now (sought_view c.args.one.now) (sym c.is_open.ensures ∙ c.if-not-is_open.true))

pub returns : goal.returns
returns c =
    c.widen.ensures
    ∙ ap (λ lines. widen (sought_view c.args.one.now) (map {A = Bor DecPcd} {B = DecPcd} (λ l. l.now) lines)) c.as_slice.ensures.value
    ∙ ap (widen (sought_view c.args.one.now)) c.in_ok-lines.ensures
