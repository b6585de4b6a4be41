use Rattle.std.proofs.Common.{rules, subst, Some}
use Rattle.build_base.specs.declared.lines.Taken.{Taken as Line}
use Rattle.macro_conditions.specs.Expansion.{bad, unbalanced}
use Rattle.macro_conditions.specs.Work.{Halts}
use Rattle.macro_conditions.proofs.FrameEnds.{outer_is}
use Rattle.macro_conditions.proofs.conditional.end.Goals as goal

pub returns-in-Some : goal.returns-in-Some
returns-in-Some c = λ e.
    rw (outer_is c.args.file.path.now c.args.file.bytes.now c.args.frames.now.items c.in-Some.frame.now (search rules))
    (subst (λ (l : Line). Halts c.stray.result (Some (bad (unbalanced l)))) c.line.ensures c.stray.ensures)
