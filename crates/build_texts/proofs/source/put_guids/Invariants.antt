use Rattle.std.proofs.Common.{◌≡◌, ◌++◌, map}
use Rattle.std.specs.List.{flat_map}
use Rattle.build_texts.specs.Code.{guid_line}
use Rattle.build_texts.specs.Views.{entry_view}
use Rattle.build_texts.proofs.source.put_guids.Given as goal

abbrev pub invariant-loop-name : goal.invariant-loop-name
invariant-loop-name l =
    l.out.items ++ flat_map guid_line (map entry_view l.name-iterator)
    ≡ l.fn.out.items ++ flat_map guid_line (map entry_view l.fn.table.entries)
