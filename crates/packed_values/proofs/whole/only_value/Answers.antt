use Rattle.std.proofs.Common.{rules}
use Rattle.packed_values.proofs.WholeLemmas.{encoded_less}
use Rattle.packed_values.proofs.whole.only_value.Goals as goal

pub returns-else-is_empty : goal.returns-else-is_empty
returns-else-is_empty g c = encoded_less g.T.Encode.encoding c.args.input.now c.decode.new.input c.in-Some.value (search rules) (search rules)
