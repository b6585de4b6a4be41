-- A flash description's document, or its first fault (EDK II FDF specification).
use Rattle.std.specs.Prelude.{map, Result}
use Rattle.build_base.specs.First.{and_then}
use Rattle.build_base.specs.declared.fault.Fault.{Fault}
use Rattle.build_base.specs.declared.lines.Lines.{Lines}
use Rattle.doc_reading.specs.Grammar.{Read, entered, gave}
use Rattle.doc_types.specs.declared.flash.FlashDoc.{FlashDoc}
use Rattle.fdf_lines.specs.Grammar.{rows_of_flash}
use Rattle.fdf_words.specs.declared.rows.LineRead.{LineRead}
use Rattle.fdf_words.specs.declared.rows.LineRead.TheVariants.{Heads, Body}
use Rattle.fdf_words.specs.declared.rows.Row.{Row}
use Rattle.fdf_words.specs.declared.rows.Scope.{Scope}
use Rattle.flash_document.specs.Document.{flash_of_lines}

-- what a line came to
abbrev pub line_of : Read Scope Row → LineRead
line_of (entered at scopes) = Heads at scopes
line_of (gave rows) = Body rows

-- the fault of the first line that has one, else the first of the whole, else the document
unfoldable pub flash_of : Lines → Result FlashDoc Fault
flash_of lines = and_then (rows_of_flash lines.rows)
    (λ reads. flash_of_lines lines.root (map line_of reads))
