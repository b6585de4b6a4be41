-- A package's declarations, or their first fault.
use Rattle.std.specs.Prelude.{ℕ, List, [], ◌∷◌, ◌++◌, Option, Some, None, Result, Err, codes}
use Rattle.std.specs.List.{flat_map}
use Rattle.build_base.specs.First.{unless}
use Rattle.build_base.specs.declared.guid.Guid.{Guid as GuidBytes}
use Rattle.build_base.specs.declared.fault.Fault.{Fault}
use Rattle.build_base.specs.declared.lines.Taken.{Taken}
use Rattle.build_base.specs.declared.lines.Lines.{Lines}
use Rattle.doc_reading.specs.Reading.{last_or}
use Rattle.doc_reading.specs.Grammar.{Grammar, Read, whole_read, rows_of}
use Rattle.doc_reading.specs.Meanings.{meaning_faults, meaning_scope}
use Rattle.doc_reading.specs.Missing.{missing_key}
use Rattle.doc_types.specs.declared.arch.Arch.{Arch}
use Rattle.doc_types.specs.declared.depex.NamedGuid.{NamedGuid}
use Rattle.doc_types.specs.declared.package.DecPcd.{DecPcd}
use Rattle.doc_types.specs.declared.package.DecDoc.{DecDoc}
use Rattle.dec_docs.specs.declared.package.Stated.{Stated}
use Rattle.dec_docs.specs.declared.rows.Declared.{Declared}
use Rattle.dec_docs.specs.declared.rows.Declared.TheVariants as row
use Rattle.dec_docs.specs.declared.rows.DecRow.{DecRow}
use Rattle.dec_docs.specs.declared.rows.DecRow.TheVariants.{Name, Guid, Row}
use Rattle.dec_docs.specs.declared.section.DecSection.{DecSection}
use Rattle.dec_docs.specs.declared.section.DecSection.TheVariants.{Defines, Guids, Pcds}
use Rattle.dec_docs.specs.declared.section.Entry.{Entry}
use Rattle.dec_docs.specs.KeyLines.{key_line_faults, key_line_row}
use Rattle.dec_docs.specs.GuidLines.{guid_line_faults, guid_line_row}
use Rattle.dec_docs.specs.PcdLines.{pcd_line_faults, pcd_line_row}
use Rattle.dec_docs.specs.Repeats.{repeats_fault}
use Rattle.dec_docs.specs.Sections.{head_meaning}
use Rattle.build_base.specs.FaultCodes.{DEC_MISSING_KEY, DEC_UNKNOWN_SECTION}

abbrev pub faults_in : Taken → DecSection → List (Option Fault)
faults_in line Defines = key_line_faults line
faults_in line Guids = guid_line_faults line
faults_in line (Pcds kind) = pcd_line_faults line

abbrev pub row_in : Taken → Arch → DecSection → Option DecRow
row_in line arch Defines = key_line_row line
row_in line arch Guids = guid_line_row line arch
row_in line arch (Pcds kind) = pcd_line_row line arch kind

-- the faults of a line below a head, and what it says there
unfoldable pub line_faults : Taken → Entry → List (Option Fault)
line_faults line entry = faults_in line entry.section

unfoldable pub line_row : Taken → Entry → Option DecRow
line_row line entry = row_in line entry.arch entry.section

-- nothing is ever open
abbrev pub dec_grammar : Grammar Entry DecRow
dec_grammar =
    record {
      head_faults = λ line head. meaning_faults DEC_UNKNOWN_SECTION line head (head_meaning head);
      scope_of = λ head. meaning_scope (head_meaning head);
      stray_code = DEC_UNKNOWN_SECTION;
      faults = λ above line entry. line_faults line entry;
      row_of = λ above line entry. line_row line entry;
      at_heads = λ above line heads. None;
      left_open = λ above line. None;
    }

abbrev pub name_in : DecRow → List (List ℕ)
name_in (Name name) = name ∷ []
name_in said = []

abbrev pub guid_in : DecRow → List GuidBytes
guid_in (Guid guid) = guid ∷ []
guid_in said = []

abbrev pub row_said : DecRow → List Declared
row_said (Row row) = row ∷ []
row_said said = []

abbrev pub nothing : Stated
nothing = record { name = None; guid = None; rows = [] }

-- with more that is said: the last value of each key, and all rows
unfoldable pub with_rows : Stated → List DecRow → Stated
with_rows stated said =
    record {
      name = last_or stated.name (flat_map name_in said);
      guid =
          last_or stated.guid (flat_map guid_in said);
      rows = stated.rows ++ flat_map row_said said;
    }

abbrev pub guid_rows : Declared → List NamedGuid
guid_rows (row.Guid guid) = guid ∷ []
guid_rows (row.Pcd pcd) = []

abbrev pub pcd_rows : Declared → List DecPcd
pcd_rows (row.Guid guid) = []
pcd_rows (row.Pcd pcd) = pcd ∷ []

abbrev pub with_required : List ℕ → List ℕ → GuidBytes → List Declared → DecDoc
with_required root name guid rows =
    record {
      at = record { path = root; line = 0 };
      name = name;
      guid = guid;
      guids =
          flat_map guid_rows rows;
      pcds = flat_map pcd_rows rows;
    }

abbrev pub required : List ℕ → List Declared → Option (List ℕ) → Option GuidBytes
    → Result DecDoc Fault
required root rows None guid = Err (missing_key DEC_MISSING_KEY root (codes "PACKAGE_NAME"))
required root rows (Some name) None = Err (missing_key DEC_MISSING_KEY root (codes "PACKAGE_GUID"))
required root rows (Some name) (Some guid) =
    unless (repeats_fault rows) (with_required root name guid rows)

-- the document, where each key is stated and no row may not stand below another
unfoldable pub document_of : List ℕ → Stated → Result DecDoc Fault
document_of root stated = required root stated.rows stated.name stated.guid

-- what lines that come to this make: the document, where it is whole
abbrev pub package_made : Lines → List (Read Entry DecRow) → Result DecDoc Fault
package_made lines reads = document_of lines.root (with_rows nothing (rows_of reads))

-- the fault of the first line that has one, else the document, where it is whole
unfoldable pub package_of : Lines → Result DecDoc Fault
package_of lines = whole_read dec_grammar (package_made lines) lines.rows

-- every section but [Defines] lists what its lines declare
abbrev pub Lists : DecSection → Type 0
Lists Defines = ⊥
Lists section = Unit {0}
