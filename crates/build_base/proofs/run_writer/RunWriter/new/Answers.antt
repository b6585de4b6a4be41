use Rattle.std.proofs.Common.{rules}
use Rattle.build_base.specs.Runs.{runs_bytes, kept_bytes, are_blank}
use Rattle.build_base.proofs.run_writer.RunWriter.new.Goals as goal

pub invariant_of-result : goal.invariant_of-result
unfolding runs_bytes are_blank
invariant_of-result c = rw c.new.ensures (search rules)

pub returns : goal.returns
unfolding runs_bytes kept_bytes
returns c = rw c.new.ensures (search rules)
