use Rattle.std.proofs.Common.{◌≡◌, subst}
use Rattle.build_base.specs.declared.lines.Taken.{Taken as Line}
use Rattle.macro_conditions.specs.declared.directive.Directive.TheVariants.{Act}
use Rattle.macro_conditions.specs.Directives.{kind_of}
use Rattle.macro_conditions.specs.Work.{state_of}
use Rattle.macro_conditions.specs.OpenFiles.{Steps}
use Rattle.macro_conditions.proofs.expansion.one_line.Goals as goal

pub returns-in-Act-clause-steps : goal.returns-in-Act-clause-steps
returns-in-Act-clause-steps c =
    let kind : kind_of c.line-line.result.text.now ≡ Act = cc in
    subst (λ (l : Line). Steps c.args.fixed.now l (state_of c.args.file.path.now c.args.file.bytes.now c.args.frames.now c.args.work.now) (state_of c.args.file.path.now c.args.file.bytes.now c.args.frames.now c.taken_line.new.work) c.taken_line.result)
    c.line-line.ensures (c.taken_line.ensures.steps c.args.file.path.now c.args.file.bytes.now kind)
