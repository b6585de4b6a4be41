use Rattle.std.proofs.Common.{◌≡◌, map, take}
use Rattle.meta_lexer.specs.Fields.{bytes_at}
use Rattle.meta_lexer.specs.Lines.{without_blanks}
use Rattle.meta_lexer.proofs.parts.field_texts.Given as goal

abbrev pub invariant-loop-span : goal.invariant-loop-span
invariant-loop-span l = l.fields ≡ map (λ span. without_blanks (bytes_at l.text span)) (take l.span-index l.span-items)
