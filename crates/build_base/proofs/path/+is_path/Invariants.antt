use Rattle.std.proofs.Common.{length}
use Rattle.build_base.proofs.path.+is_path.Given as goal

abbrev pub decreases-is_path : goal.decreases-is_path
decreases-is_path l = length l.text.now
