use Rattle.std.proofs.Common.{sym, ◌∙◌, arith}
use Rattle.build_base.proofs.Least.{find_least, find_none}
use Rattle.image_rebase.specs.Moves.{is_misplaced}
use Rattle.image_rebase.proofs.moving.misplaced_section.Goals as goal

pub returns-then-is_misplaced : goal.returns-then-is_misplaced
returns-then-is_misplaced c =
    sym (find_least (is_misplaced c.args.image.now c.args.content.now) 0 c.args.image.now.sections c.loop-number.number (omega arith) (omega arith) (sym c.is_misplaced.ensures ∙ c.if-is_misplaced.true)
    (λ m a lt. c.loop-number.invariant m lt))

pub returns : goal.returns
returns c =
    sym (find_none (is_misplaced c.args.image.now c.args.content.now) 0 c.args.image.now.sections (λ m a lt. c.loop-number.invariant m (omega arith)))
