use Rattle.flash_document.proofs.NameLemmas.{places_none}
use Rattle.flash_document.proofs.names.places_of.Goals as goal

pub loop-i-init : goal.loop-i-init
loop-i-init c = places_none c.new-table.result c.new-table.ensures.empty
