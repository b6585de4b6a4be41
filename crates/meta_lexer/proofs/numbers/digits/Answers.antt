use Rattle.std.proofs.Common.{sym, arith, rules}
use Rattle.meta_lexer.proofs.NumberLemmas.{none_at, some_all}
use Rattle.meta_lexer.proofs.numbers.digits.Goals as goal

pub returns-in_default : goal.returns-in_default
returns-in_default c = sym (none_at c.args.base c.args.text.now c.loop-b.b-index c.loop-b.value c.digit-d.result c.loop-b-test.true c.loop-b.invariant.so_far c.digit-d.ensures (omega arith) (λ h. c.in_default.ensures h))

pub returns : goal.returns
returns c = some_all c.args.base c.args.text.now c.loop-b.b-index c.loop-b.value (omega arith) (search rules) c.loop-b.invariant.so_far c.loop-b.invariant.digits c.loop-b.invariant.fits
