use Rattle.std.proofs.Common.{◌∙◌, map, ap}
use Rattle.std.specs.BTreeMap.{insert_entry}
use Rattle.std.specs.Cmp.Lexicographic.{slice_cmp}
use Rattle.std.specs.Ordering.{nat_cmp}
use Rattle.build_texts.specs.Views.{entry_view}
use Rattle.build_texts.proofs.EntryLemmas.{insert_seen}
use Rattle.build_texts.proofs.names.put_entry.Goals as goal

pub returns : goal.returns
returns c =
    ap (map entry_view) c.in_ok-insert.ensures ∙ insert_seen c.args.table.now.entries c.in_ok-name.name c.args.guid
    ∙ ap (λ n. insert_entry (slice_cmp nat_cmp) (map entry_view c.args.table.now.entries) n c.args.guid) c.in_ok-name.ensures.items
