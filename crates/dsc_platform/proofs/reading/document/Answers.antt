use Rattle.dsc_platform.proofs.RequiredLemmas.{whole_refused, document_made}
use Rattle.dsc_platform.proofs.reading.document.Goals as goal

pub returns-in-Err : goal.returns-in-Err
returns-in-Err c = λ placed.
    let e = c.args.ended in
    whole_refused c.args.lines.now e.stated e.components e.uses c.in_ok-needed.needed c.in-Err.refusal c.in_ok-needed.ensures (c.in-Err.ensures placed)

pub returns : goal.returns
returns c = λ placed.
    let e = c.args.ended in
    document_made c.args.lines.now e.stated e.components e.uses c.in_ok-needed.needed c.in_ok-document.document c.in_ok-needed.ensures (c.in_default.ensures placed) c.in_ok-document.ensures
