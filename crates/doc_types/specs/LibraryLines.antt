-- The number by which lines of a library class are found (EDK II DSC specification, [LibraryClasses]).
use Rattle.std.specs.Prelude.{ℕ}
use Rattle.build_base.specs.Digest.{digest}
use Rattle.doc_types.specs.declared.platform.LibraryLine.{LibraryLine}

abbrev pub class_number : LibraryLine → ℕ
class_number line = digest line.class
