-- The order of keys.
use Rattle.step_pack.proofs.PackedLemmas.{keys_by_bytes}
use Rattle.step_pack.proofs.laws.keys_stand_by_their_bytes.Goals as goal

pub returns : goal.returns
returns c = keys_by_bytes
