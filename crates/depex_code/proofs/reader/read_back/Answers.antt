use Rattle.std.proofs.Common.{List, ℕ, subst, option_map}
use Rattle.depex_code.specs.Tree.{tree_of, ReadBack}
use Rattle.depex_code.proofs.PostfixBodies.{split_end}
use Rattle.depex_code.proofs.reader.read_back.Goals as goal

pub returns : goal.returns
returns c = subst (λ (l : List ℕ). ReadBack l (option_map tree_of c.in_ok-read.read)) (split_end c.args.bytes.now c.if-n-eq0.false c.if-bytes-n-ne-END.false) c.in_ok-read.ensures
