use Rattle.std.proofs.Common.{List, arith, subst}
use Rattle.std.proofs.lemmas.List.{take_all}
use Rattle.doc_types.specs.declared.platform.LibraryLine.{LibraryLine}
use Rattle.line_ranks.specs.Places.{Lines}
use Rattle.line_ranks.proofs.PlaceLemmas.{lines_none}
use Rattle.line_ranks.proofs.places.line_places.Goals as goal

pub loop-place-init : goal.loop-place-init
loop-place-init c = lines_none c.args.user c.args.own c.args.lines.now c.in_ok-places.places c.in_ok-places.ensures.empty

pub loop-place-preserved : goal.loop-place-preserved
loop-place-preserved c = c.in_ok-add_line.ensures c.loop-place.invariant

pub returns : goal.returns
returns c =
    subst (λ (l : List LibraryLine). Lines c.args.user c.args.own c.args.lines.now l c.loop-place.places) (take_all c.loop-place.place c.args.lines.now (omega (arith, c.loop-place-test.false)))
    c.loop-place.invariant
