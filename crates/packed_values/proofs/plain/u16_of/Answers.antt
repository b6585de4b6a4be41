use Rattle.std.proofs.Common.{rules}
use Rattle.std.proofs.lemmas.Nat.{le_bytes_2}
use Rattle.packed_values.proofs.plain.u16_of.Goals as goal

pub returns : goal.returns
returns c = le_bytes_2 c.args.own _ (search rules) (search rules) c.from_le_bytes.ensures
