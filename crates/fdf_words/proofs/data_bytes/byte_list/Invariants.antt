use Rattle.std.proofs.Common.{◌≡◌, ◌++◌, false, drop}
use Rattle.std.specs.Option.{option_map}
use Rattle.meta_lexer.specs.Fields.{parts_of}
use Rattle.fdf_words.specs.DataBytes.{byte_list}
use Rattle.fdf_words.proofs.data_bytes.byte_list.Given as goal

abbrev pub invariant-loop-span : goal.invariant-loop-span
invariant-loop-span l = option_map (λ bytes. l.bytes.items ++ bytes) (byte_list l.text (drop l.span-index l.span-items)) ≡ byte_list l.text (parts_of false 44 l.text)
