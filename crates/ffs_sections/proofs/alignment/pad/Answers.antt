use Rattle.std.proofs.Common.{◌+◌, ◌-◌, ◌%◌, arith, sym}
use Rattle.ffs_sections.proofs.PadLemmas.{pad_some, pad_none, pad_least, pad_never, aligned}
use Rattle.std.proofs.Math.Nat.{mod-lt}
use Rattle.ffs_sections.proofs.alignment.pad.Goals as goal

pub nonzero_rem-size : goal.nonzero_rem-size
nonzero_rem-size c = (aligned c.args.align c.requires).positive

pub nonzero_rem-size-2 : goal.nonzero_rem-size-2
nonzero_rem-size-2 c = (aligned c.args.align c.requires).positive

pub nonzero_rem-size-3 : goal.nonzero_rem-size-3
nonzero_rem-size-3 c = (aligned c.args.align c.requires).positive

pub overflow_sub-size : goal.overflow_sub-size
overflow_sub-size c = let h = mod-lt c.args.place (aligned c.args.align c.requires).positive in omega arith

pub returns-then-size-eq0-clause-value : goal.returns-then-size-eq0-clause-value
returns-then-size-eq0-clause-value c = sym (pad_some c.args.place c.args.align c.args.shift (aligned c.args.align c.requires).positive c.if-size-eq0.true)

pub returns-else-size-eq0-clause-value : goal.returns-else-size-eq0-clause-value
returns-else-size-eq0-clause-value c = sym (pad_none c.args.place c.args.align c.args.shift (aligned c.args.align c.requires).positive c.if-size-eq0.false)

pub returns-then-size-eq0-clause-small : goal.returns-then-size-eq0-clause-small
returns-then-size-eq0-clause-small c =
    let a = aligned c.args.align c.requires in
    let h = mod-lt (c.args.shift % c.args.align + (c.args.align - c.args.place % c.args.align)) a.positive in omega arith

pub returns-then-size-eq0-clause-least : goal.returns-then-size-eq0-clause-least
returns-then-size-eq0-clause-least c = pad_least c.args.place c.args.align c.args.shift (aligned c.args.align c.requires).positive c.if-size-eq0.true

pub returns-else-size-eq0-clause-none : goal.returns-else-size-eq0-clause-none
returns-else-size-eq0-clause-none c = λ e m. pad_never c.args.place c.args.align c.args.shift m (aligned c.args.align c.requires) c.if-size-eq0.false
