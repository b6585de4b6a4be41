use Rattle.std.proofs.Common.{◌≡◌, ◌++◌, drop}
use Rattle.inf_docs.specs.Classes.{types_named}
use Rattle.inf_docs.proofs.class.types_named.Given as goal

abbrev pub invariant-loop-word : goal.invariant-loop-word
invariant-loop-word l = l.types ++ types_named (drop l.word-index l.words) ≡ types_named l.words
