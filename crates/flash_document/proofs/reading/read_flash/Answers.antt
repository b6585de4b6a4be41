use Rattle.flash_document.proofs.ShapeLemmas.{shape_of}
use Rattle.flash_document.proofs.reading.read_flash.Goals as goal

pub returns-clause-shape : goal.returns-clause-shape
returns-clause-shape c = shape_of c.args.lines.now c.read_document.result c.read_document.ensures.document c.read_document.ensures.limits
