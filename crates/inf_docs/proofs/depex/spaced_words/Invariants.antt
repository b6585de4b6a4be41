use Rattle.std.proofs.Common.{◌≡◌, ◌++◌, drop}
use Rattle.std.specs.List.{flat_map}
use Rattle.inf_docs.specs.Depex.{apart}
use Rattle.inf_docs.proofs.depex.spaced_words.Given as goal

abbrev pub invariant-loop-byte : goal.invariant-loop-byte
invariant-loop-byte l = l.out.items ++ flat_map apart (drop l.byte-index l.text) ≡ flat_map apart l.text
