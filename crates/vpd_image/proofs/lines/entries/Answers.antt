use Rattle.std.proofs.Common.{◌∙◌, ap, map, reverse}
use Rattle.std.proofs.lemmas.List.{reverse-reverse}
use Rattle.indexmap.proofs.ReorderLemmas.{map-reverse}
use Rattle.vpd_image.specs.Tables.{entry_view}
use Rattle.vpd_image.proofs.lines.entries.Goals as goal

pub returns : goal.returns
returns c = ap (map entry_view) c.reverse.ensures.items ∙ map-reverse entry_view c.in_ok-found.found.items ∙ ap reverse c.in_ok-found.ensures ∙ reverse-reverse _
