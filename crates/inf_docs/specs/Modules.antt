-- A module's document, or its first fault.
use Rattle.std.specs.Prelude.{ℕ, ◌++◌, List, [], ◌∷◌, Option, Some, None, unwrap_or, Result, Ok, Err, codes}
use Rattle.std.specs.List.{flat_map}
use Rattle.build_base.specs.declared.guid.Guid.{Guid as GuidBytes}
use Rattle.build_base.specs.declared.fault.Fault.{Fault}
use Rattle.build_base.specs.declared.lines.Lines.{Lines}
use Rattle.doc_reading.specs.Grammar.{Grammar, Read, whole_read, rows_of}
use Rattle.doc_reading.specs.Meanings.{meaning_faults, meaning_scope}
use Rattle.doc_reading.specs.Missing.{missing_key}
use Rattle.doc_reading.specs.Reading.{last_or}
use Rattle.doc_types.specs.declared.depex.DepexPart.{DepexPart}
use Rattle.doc_types.specs.declared.module.InfDoc.{InfDoc}
use Rattle.doc_types.specs.declared.module.Named.{Named}
use Rattle.doc_types.specs.declared.module.Served.{Served}
use Rattle.doc_types.specs.declared.module.UsedPcd.{UsedPcd}
use Rattle.doc_types.specs.declared.module_type.ModuleType.{ModuleType}
use Rattle.inf_docs.specs.declared.row.Row.{Row}
use Rattle.inf_docs.specs.declared.row.Row.TheVariants.{BaseName, FileGuid, Kind, Version, EntryPoint, Constructor, Destructor, Serves, Package, Class, GuidName, Pcd}
use Rattle.inf_docs.specs.declared.section.Scope.{Scope}
use Rattle.inf_docs.specs.declared.tables.ModuleTables.{ModuleTables}
use Rattle.inf_docs.specs.Depex.{all_parts}
use Rattle.inf_docs.specs.Rows.{line_faults, line_row}
use Rattle.inf_docs.specs.Sections.{head_meaning}
use Rattle.build_base.specs.FaultCodes.{INF_MISSING_KEY, INF_UNKNOWN_SECTION}

-- nothing is ever open
abbrev pub inf_grammar : Grammar Scope Row
inf_grammar =
    record {
      head_faults = λ line head. meaning_faults INF_UNKNOWN_SECTION line head (head_meaning head);
      scope_of = λ head. meaning_scope (head_meaning head);
      stray_code = INF_UNKNOWN_SECTION;
      faults = λ above line scope. line_faults line scope;
      row_of = λ above line scope. line_row line scope;
      at_heads = λ above line heads. None;
      left_open = λ above line. None;
    }

-- what a row is
abbrev pub base_name_in : Row → List (List ℕ)
base_name_in (BaseName name) = name ∷ []
base_name_in _ = []

abbrev pub file_guid_in : Row → List GuidBytes
file_guid_in (FileGuid guid) = guid ∷ []
file_guid_in _ = []

abbrev pub kind_in : Row → List ModuleType
kind_in (Kind kind) = kind ∷ []
kind_in _ = []

abbrev pub version_in : Row → List (List ℕ)
version_in (Version text) = text ∷ []
version_in _ = []

abbrev pub entry_point_in : Row → List Named
entry_point_in (EntryPoint named) = named ∷ []
entry_point_in _ = []

abbrev pub constructor_in : Row → List Named
constructor_in (Constructor named) = named ∷ []
constructor_in _ = []

abbrev pub destructor_in : Row → List Named
destructor_in (Destructor named) = named ∷ []
destructor_in _ = []

abbrev pub served_in : Row → List Served
served_in (Serves served) = served ∷ []
served_in _ = []

abbrev pub package_in : Row → List Named
package_in (Package named) = named ∷ []
package_in _ = []

abbrev pub class_in : Row → List Named
class_in (Class named) = named ∷ []
class_in _ = []

abbrev pub guid_in : Row → List Named
guid_in (GuidName named) = named ∷ []
guid_in _ = []

abbrev pub pcd_in : Row → List UsedPcd
pcd_in (Pcd used) = used ∷ []
pcd_in _ = []

abbrev pub no_tables : ModuleTables
no_tables =
    record {
      base_name = None;
      file_guid = None;
      kind = None;
      version = None;
      entry_points = [];
      constructors = [];
      destructors = [];
      serves = [];
      packages = [];
      classes = [];
      guids = [];
      pcds = [];
    }

-- some tables with more rows: of the first four keys the last holds, the others are listed
unfoldable pub with_rows : ModuleTables → List Row → ModuleTables
with_rows tables rows =
    record {
      base_name = last_or tables.base_name (flat_map base_name_in rows);
      file_guid = last_or tables.file_guid (flat_map file_guid_in rows);
      kind = last_or tables.kind (flat_map kind_in rows);
      version = last_or tables.version (flat_map version_in rows);
      entry_points = tables.entry_points ++ flat_map entry_point_in rows;
      constructors = tables.constructors ++ flat_map constructor_in rows;
      destructors = tables.destructors ++ flat_map destructor_in rows;
      serves = tables.serves ++ flat_map served_in rows;
      packages = tables.packages ++ flat_map package_in rows;
      classes = tables.classes ++ flat_map class_in rows;
      guids = tables.guids ++ flat_map guid_in rows;
      pcds = tables.pcds ++ flat_map pcd_in rows;
    }

-- what the rows of the lines come to
abbrev pub tables_of : List (Read Scope Row) → ModuleTables
tables_of reads = with_rows no_tables (rows_of reads)

abbrev pub with_required : List ℕ → ModuleTables → List DepexPart → List ℕ → GuidBytes → ModuleType
    → InfDoc
with_required root tables parts name guid kind =
    record {
      at = record { path = root; line = 0 };
      base_name = name;
      file_guid = guid;
      module_type = kind;
      version = unwrap_or tables.version [];
      entry_points = tables.entry_points;
      constructors = tables.constructors;
      destructors = tables.destructors;
      serves = tables.serves;
      packages = tables.packages;
      classes = tables.classes;
      guids = tables.guids;
      pcds = tables.pcds;
      depex = parts;
    }

abbrev pub required : List ℕ → ModuleTables → List DepexPart → Option (List ℕ) → Option GuidBytes
    → Option ModuleType → Result InfDoc Fault
required root tables parts None guid kind =
    Err (missing_key INF_MISSING_KEY root (codes "BASE_NAME"))
required root tables parts (Some name) None kind =
    Err (missing_key INF_MISSING_KEY root (codes "FILE_GUID"))
required root tables parts (Some name) (Some guid) None =
    Err (missing_key INF_MISSING_KEY root (codes "MODULE_TYPE"))
required root tables parts (Some name) (Some guid) (Some kind) =
    Ok (with_required root tables parts name guid kind)

-- the document, where each required key is stated
unfoldable pub document_of : List ℕ → ModuleTables → List DepexPart → Result InfDoc Fault
document_of root tables parts =
    required root tables parts tables.base_name tables.file_guid tables.kind

-- what lines that come to this make: the document, where it is whole
unfoldable pub module_made : Lines → List (Read Scope Row) → Result InfDoc Fault
module_made lines reads = document_of lines.root (tables_of reads) (all_parts reads)

-- the fault of the first line that has one, else the document, where it is whole
unfoldable pub module_of : Lines → Result InfDoc Fault
module_of lines = whole_read inf_grammar (module_made lines) lines.rows
