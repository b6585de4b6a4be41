use Rattle.std.proofs.Common.{◌≡◌, drop}
use Rattle.depex_code.specs.Words.{guid_named}
use Rattle.depex_code.proofs.words.guid_named.Given as goal

abbrev pub invariant-loop-declared : goal.invariant-loop-declared
invariant-loop-declared l = guid_named (drop l.declared-index l.guids) l.name ≡ guid_named l.guids l.name
