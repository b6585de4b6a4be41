-- What the reader of a module holds.
use Rattle.std.specs.Prelude.{◌≡◌, List}
use Rattle.std.specs.List.{flat_map}
use Rattle.doc_reading.specs.Blocks.{are_heads, ended_blocks, last_block}
use Rattle.doc_reading.specs.Grammar.{Read, rows_of}
use Rattle.inf_docs.specs.declared.module.ModuleFormat.{ModuleFormat}
use Rattle.inf_docs.specs.declared.row.Row.{Row}
use Rattle.inf_docs.specs.declared.section.Scope.{Scope}
use Rattle.inf_docs.specs.Depex.{block_parts, last_section}
use Rattle.inf_docs.specs.Modules.{no_tables, with_rows}

-- what the rows come to, the section at hand, and the parts of the sections above it
pub record Holds (above : List (Read Scope Row)) (format : ModuleFormat) : Type 0 where
  pub tables : format.tables ≡ with_rows no_tables (rows_of above)
  pub section : format.section ≡ last_section (last_block are_heads above)
  pub parts : format.parts ≡ flat_map block_parts (ended_blocks are_heads above)
