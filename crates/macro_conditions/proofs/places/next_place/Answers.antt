-- The place of a line.
use Rattle.macro_conditions.proofs.PlaceLemmas.{line_placed}
use Rattle.macro_conditions.proofs.places.next_place.Goals as goal

pub returns : goal.returns
returns c = λ bytes at. line_placed bytes c.args.piece.now c.args.number c.args.start c.in_ok-line.line.number c.blanks.result c.in_ok-line.line.text.now at c.blanks.ensures.at c.in_ok-line.ensures
