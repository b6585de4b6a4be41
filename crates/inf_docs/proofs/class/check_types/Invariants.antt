use Rattle.std.proofs.Common.{◌≡◌, drop}
use Rattle.meta_lexer.specs.Faults.{first_fault}
use Rattle.inf_docs.specs.Classes.{type_fault}
use Rattle.inf_docs.proofs.class.check_types.Given as goal

abbrev pub invariant-loop-word : goal.invariant-loop-word
invariant-loop-word l = first_fault (type_fault l.at) (drop l.word-index l.words) ≡ first_fault (type_fault l.at) l.words
