use Rattle.std.proofs.Common.{◌≡◌, map, take}
use Rattle.std.specs.List.{filter}
use Rattle.depex_code.specs.Compiled.{is_no_mark}
use Rattle.depex_code.specs.Words.{token_of}
use Rattle.depex_code.proofs.words.bare_tokens.Given as goal

abbrev pub invariant-loop-term : goal.invariant-loop-term
invariant-loop-term l = l.tokens.items ≡ filter is_no_mark (map (token_of l.guids) (take l.term-index l.terms))
