-- The line that gives a library class its instance (EDK II DSC specification, [LibraryClasses] and
-- <LibraryClasses>).
use Rattle.std.specs.Prelude.{ℕ, true, false, List, Option}
use Rattle.build_base.specs.Best.{best}
use Rattle.build_base.specs.First.{or_else}
use Rattle.doc_types.specs.declared.module.InfDoc.{InfDoc}
use Rattle.doc_types.specs.declared.platform.LibraryLine.{LibraryLine}
use Rattle.line_ranks.specs.declared.user.Consumer.{Consumer}
unfoldable pub use Rattle.line_ranks.specs.Lines.{covers, same_type, applies, section_rank, rank}
pub use Rattle.line_ranks.specs.Lines.{type_covers, is_common, weight}

-- what a choice is made from: who asks, the lines of the platform's sections, those of the module's
-- own braces, and the INF files that are known
pub record Setting : Type 0 where
  pub user : Consumer
  pub sections : List LibraryLine
  pub own : List LibraryLine
  pub infs : List InfDoc

-- of the lines of a class that apply the greatest by rank, and of one rank the last
unfoldable pub chosen_line : Setting → List ℕ → Option LibraryLine
chosen_line s class =
    or_else (best (weight s.user true class) s.own) (best (weight s.user false class) s.sections)
