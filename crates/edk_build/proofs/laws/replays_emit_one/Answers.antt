use Rattle.edk_build.proofs.OneLemmas.{lines_one}
use Rattle.edk_build.proofs.laws.replays_emit_one.Goals as goal

pub returns : goal.returns
returns c = λ files lines s next after a b d e outputs others. lines_one files lines s a d outputs others next after b e
