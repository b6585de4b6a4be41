-- Where the bytes of files come from.
use Rattle.build_laws.proofs.OutputValues.{outputs_made}
use Rattle.build_laws.proofs.laws.outputs_have_bytes.Goals as goal

pub returns : goal.returns
returns c = outputs_made
