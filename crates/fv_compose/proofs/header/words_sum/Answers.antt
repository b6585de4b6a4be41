use Rattle.std.proofs.Common.{arith}
use Rattle.std.proofs.lemmas.Grind.{common_steps}
use Rattle.fv_compose.proofs.WordLemmas.{words_more, words_one, words_none}
use Rattle.fv_compose.proofs.header.words_sum.Goals as goal

pub loop-i-preserved : goal.loop-i-preserved
loop-i-preserved c = let m = words_more c.args.bytes.now c.loop-i.i c.loop-i-test.true in grind (arith, common_steps)

pub returns-then-i-bytes : goal.returns-then-i-bytes
returns-then-i-bytes c = let m = words_one c.args.bytes.now c.loop-i.i (omega arith) (omega arith) in grind (arith, common_steps)

pub returns-else-i-bytes : goal.returns-else-i-bytes
returns-else-i-bytes c = let m = words_none c.args.bytes.now c.loop-i.i (omega arith) in grind (arith, common_steps)
