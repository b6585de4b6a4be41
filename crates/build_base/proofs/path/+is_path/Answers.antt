use Rattle.std.proofs.Common.{arith}
use Rattle.std.proofs.lemmas.Grind.{common_steps}
use Rattle.build_base.proofs.PathLemmas.{is_path_rest}
use Rattle.build_base.proofs.path.+is_path.Goals as goal

pub returns-then-is_segment : goal.returns-then-is_segment
returns-then-is_segment t c = grind (arith, common_steps, is_path_rest)
