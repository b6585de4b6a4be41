-- A platform's document, or its first fault (EDK II DSC specification, chapter 3).
use Rattle.std.specs.Prelude.{ℕ, ◌++◌, if◌then◌else◌, List, [], ◌∷◌, map, Option, Some, None, unwrap_or, Result, Err, codes}
use Rattle.std.specs.List.{list_any}
use Rattle.build_base.specs.First.{unless, first_of}
use Rattle.build_base.specs.FaultText.{fault_of}
use Rattle.build_base.specs.declared.guid.Guid.{Guid as GuidBytes}
use Rattle.build_base.specs.declared.fault.Fault.{Fault}
use Rattle.build_base.specs.declared.lines.Taken.{Taken}
use Rattle.build_base.specs.declared.lines.Lines.{Lines}
use Rattle.doc_reading.specs.Grammar.{Grammar, Read, whole_read, rows_of}
use Rattle.doc_reading.specs.Missing.{missing_key}
use Rattle.doc_types.specs.declared.arch.Arch.{Arch}
use Rattle.doc_types.specs.declared.platform.Component.{Component}
use Rattle.doc_types.specs.declared.platform.LibraryLine.{LibraryLine}
use Rattle.doc_types.specs.declared.platform.PcdLine.{PcdLine}
use Rattle.doc_types.specs.declared.platform.PlatformDoc.{PlatformDoc}
use Rattle.doc_types.specs.declared.platform.Sku as sku_type
use Rattle.dsc_lines.specs.declared.open_mark.Open.{Open}
use Rattle.dsc_lines.specs.declared.open_mark.Open.TheVariants.{Shut, Untagged, Tagged}
use Rattle.dsc_lines.specs.declared.rows.DscRow.{DscRow}
use Rattle.dsc_lines.specs.declared.rows.SkuLine.{SkuLine}
use Rattle.dsc_lines.specs.declared.section.Scope.{Scope}
use Rattle.dsc_platform.specs.declared.sku_uses.SkuUse.{SkuUse}
use Rattle.dsc_platform.specs.declared.stated.Options.{Options}
use Rattle.dsc_platform.specs.declared.stated.Stated.{Stated}
use Rattle.dsc_platform.specs.Cutting.{components_of}
use Rattle.dsc_platform.specs.Repeats.{repeats_fault}
use Rattle.dsc_lines.specs.Sections.{head_faults, scope_of}
use Rattle.dsc_lines.specs.Lines.{line_faults, line_row}
use Rattle.dsc_lines.specs.SkuLines.{is_default}
use Rattle.dsc_platform.specs.SkuUses.{uses_of, uses_fault}
use Rattle.dsc_platform.specs.SkuWalks.{loops_fault}
use Rattle.dsc_lines.specs.Standing.{open_below}
use Rattle.dsc_platform.specs.Stating.{nothing, with_rows, names_of, names_in}
use Rattle.build_base.specs.FaultCodes.{BAD_COMPONENT, DSC_MISSING_KEY, DSC_UNKNOWN_SECTION}

-- an open brace, at a head or at the end
abbrev pub open_fault : Taken → Open → Option Fault
open_fault line Shut = None
open_fault line Untagged = Some (fault_of BAD_COMPONENT line.at (codes "{"))
open_fault line (Tagged tag) = Some (fault_of BAD_COMPONENT line.at (codes "{"))

abbrev pub dsc_grammar : Grammar Scope DscRow
dsc_grammar =
    record {
      head_faults = λ line head. head_faults line head;
      scope_of = λ head. scope_of head;
      stray_code = DSC_UNKNOWN_SECTION;
      faults = λ above line scope. line_faults (names_in (rows_of above))
          (open_below (rows_of above)) line scope;
      row_of = λ above line scope. line_row (open_below (rows_of above)) line scope;
      at_heads = λ above line heads. open_fault line (open_below (rows_of above));
      left_open = λ above line. open_fault line (open_below (rows_of above));
    }

abbrev pub default_sku : sku_type.Sku
default_sku = record { id = 0; name = codes "DEFAULT"; parent = [] }

-- DEFAULT stands first where no line states it
abbrev pub front_of : List SkuLine → List sku_type.Sku
front_of lines = if list_any (λ line. is_default line.sku.name) lines then [] else default_sku ∷ []

abbrev pub skus_of : List SkuLine → List sku_type.Sku
skus_of lines = front_of lines ++ map (λ line. line.sku) lines

-- the folder of outputs is the stated one, or `Build/` and the platform's name
abbrev pub with_required : Lines → Options → List SkuLine → List LibraryLine → List PcdLine
    → List Component → List ℕ → GuidBytes → List Arch → PlatformDoc
with_required lines options skus libraries pcds components name guid arches =
    record {
      at = record { path = lines.root; line = 0 };
      name = name;
      guid = guid;
      output = unwrap_or options.output (codes "Build/" ++ name);
      arches = arches;
      sku_choice = unwrap_or options.sku_choice (codes "DEFAULT");
      flash = options.flash;
      skus = skus_of skus;
      libraries = libraries;
      components = components;
      pcds = pcds;
      macros = lines.macros;
    }

-- the faults of the whole, in the order of their codes
abbrev pub whole_fault : List SkuLine → List Component → List SkuUse → Option Fault
whole_fault skus components uses =
    first_of (repeats_fault components ∷ uses_fault (names_of skus) uses ∷ loops_fault skus ∷ [])

abbrev pub required : Lines → Stated → List Component → List SkuUse → Option (List ℕ)
    → Option GuidBytes → Option (List Arch) → Result PlatformDoc Fault
required lines stated components uses None guid arches =
    Err (missing_key DSC_MISSING_KEY lines.root (codes "PLATFORM_NAME"))
required lines stated components uses (Some name) None arches =
    Err (missing_key DSC_MISSING_KEY lines.root (codes "PLATFORM_GUID"))
required lines stated components uses (Some name) (Some guid) None =
    Err (missing_key DSC_MISSING_KEY lines.root (codes "SUPPORTED_ARCHITECTURES"))
required lines stated components uses (Some name) (Some guid) (Some arches) =
    unless (whole_fault stated.skus components uses)
    (with_required lines stated.keys.options stated.skus stated.libraries stated.pcds components
    name guid arches)

-- the document, where each required key is stated and nothing is at fault in the whole
unfoldable pub document_of : Lines → Stated → List Component → List SkuUse
    → Result PlatformDoc Fault
document_of lines stated components uses =
    required lines stated components uses stated.keys.name stated.keys.guid stated.keys.arches

-- what lines that come to this make
unfoldable pub platform_made : Lines → List (Read Scope DscRow) → Result PlatformDoc Fault
platform_made lines reads = document_of lines (with_rows nothing (rows_of reads))
    (components_of reads) (uses_of reads)

-- the fault of the first line that has one, else the document, where it is whole
unfoldable pub platform_of : Lines → Result PlatformDoc Fault
platform_of lines = whole_read dsc_grammar (platform_made lines) lines.rows
