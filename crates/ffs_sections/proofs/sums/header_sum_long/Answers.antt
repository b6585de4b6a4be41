use Rattle.std.proofs.Common.{arith}
use Rattle.ffs_sections.proofs.SumLemmas.{sum_summed}
use Rattle.ffs_sections.proofs.sums.header_sum_long.Goals as goal

pub returns-clause-zero : goal.returns-clause-zero
returns-clause-zero c = sum_summed c.args.head.now 32 c.body_sum.result (omega arith) c.told-head c.body_sum.ensures.zero
