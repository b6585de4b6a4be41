-- The components of the lines: each line that names some, and the lines down to the next such line.
use Rattle.std.specs.Prelude.{◌≡◌, Bool, true, false, if◌then◌else◌, List, [], ◌∷◌, ◌++◌}
use Rattle.std.specs.List.{flat_map, list_any}
use Rattle.build_base.specs.declared.guid.Guid.{Guid as GuidBytes}
use Rattle.doc_reading.specs.Grammar.{Read, entered, gave}
use Rattle.doc_reading.specs.Blocks.{Block, blocks}
use Rattle.doc_reading.specs.Reading.{last_of}
use Rattle.doc_types.specs.declared.arch.Arch.{Arch}
use Rattle.doc_types.specs.declared.platform.Component.{Component}
use Rattle.doc_types.specs.declared.platform.LibraryLine.{LibraryLine}
use Rattle.doc_types.specs.declared.platform.PcdLine.{PcdLine}
use Rattle.dsc_lines.specs.declared.rows.Begun.{Begun}
use Rattle.dsc_lines.specs.declared.rows.Part.{Part}
use Rattle.dsc_lines.specs.declared.rows.Part.TheVariants.{Library, Begins, Tagged, Pcd, FileGuid, Closes}
use Rattle.dsc_lines.specs.declared.rows.DscRow.{DscRow}
use Rattle.dsc_lines.specs.declared.section.Scope.{Scope}
use Rattle.dsc_lines.specs.Standing.{parts_in}
unfoldable pub use Rattle.doc_types.specs.Arches.{same_arch}

abbrev pub is_begun : Part → Bool
is_begun (Begins begun) = true
is_begun (Library library) = false
is_begun (Tagged tag) = false
is_begun (Pcd pcd) = false
is_begun (FileGuid arch guid) = false
is_begun Closes = false

abbrev pub begins : List Part → Bool
begins parts = list_any is_begun parts

-- what a line inside gives to the component of its head
abbrev pub library_for : Arch → Part → List LibraryLine
library_for arch (Library library) = if same_arch library.arch arch then library ∷ [] else []
library_for arch (Pcd pcd) = []
library_for arch (FileGuid own guid) = []
library_for arch (Begins begun) = []
library_for arch (Tagged tag) = []
library_for arch Closes = []

abbrev pub pcd_for : Arch → Part → List PcdLine
pcd_for arch (Pcd pcd) = if same_arch pcd.arch arch then pcd ∷ [] else []
pcd_for arch (Library library) = []
pcd_for arch (FileGuid own guid) = []
pcd_for arch (Begins begun) = []
pcd_for arch (Tagged tag) = []
pcd_for arch Closes = []

abbrev pub guid_for : Arch → Part → List GuidBytes
guid_for arch (FileGuid own guid) = if same_arch own arch then guid ∷ [] else []
guid_for arch (Library library) = []
guid_for arch (Pcd pcd) = []
guid_for arch (Begins begun) = []
guid_for arch (Tagged tag) = []
guid_for arch Closes = []

-- the last FILE_GUID holds
abbrev pub made_component : List Part → Begun → Component
made_component rest begun =
    record {
      at = begun.at;
      arch = begun.arch;
      inf = begun.inf;
      file_guid = last_of (flat_map (guid_for begun.arch) rest);
      libraries = flat_map (library_for begun.arch) rest;
      pcds = flat_map (pcd_for begun.arch) rest;
    }

abbrev pub component_of : List Part → Part → List Component
component_of rest (Begins begun) = made_component rest begun ∷ []
component_of rest (Library library) = []
component_of rest (Tagged tag) = []
component_of rest (Pcd pcd) = []
component_of rest (FileGuid arch guid) = []
component_of rest Closes = []

abbrev pub built : List Part → List Part → List Component
built first rest = flat_map (component_of rest) first

abbrev pub all_parts : List (List Part) → List Part
all_parts lines = flat_map (λ parts. parts) lines

abbrev pub block_components : Block (List Part) → List Component
block_components block = built block.first (all_parts block.rest)

abbrev pub line_in : Read Scope DscRow → List (List Part)
line_in (entered at scopes) = []
line_in (gave rows) = flat_map parts_in rows ∷ []

abbrev pub lines_of : List (Read Scope DscRow) → List (List Part)
lines_of reads = flat_map line_in reads

abbrev pub components_of : List (Read Scope DscRow) → List Component
components_of reads = flat_map block_components (blocks begins (lines_of reads))

-- the components of all blocks but the last, and the parts of that
pub data BlocksHeld (lines : List (List Part)) (done : List Component) (first rest : List Part)
    : Type 0 where
  none : blocks begins lines ≡ [] → done ≡ [] → first ≡ [] → BlocksHeld lines done first rest
  some : (front : List (Block (List Part))) (block : Block (List Part))
      → blocks begins lines ≡ front ++ block ∷ [] → done ≡ flat_map block_components front
      → first ≡ block.first → rest ≡ all_parts block.rest → BlocksHeld lines done first rest
