-- The GUIDs that the names of a module's INF files stand for (EDK II INF specification, [Guids],
-- [Protocols] and [Ppis]). Which of several lines counts, and the order of the names, are this
-- project's own rules.
use Rattle.std.specs.Prelude.{ℕ, Bool, ◌&&◌, if◌then◌else◌, List, [], ◌∷◌, map, filter, Option, Some, None, Result, Ok, Err}
use Rattle.std.specs.BTreeMap.{insert_entry}
use Rattle.std.specs.Cmp.Lexicographic.{slice_cmp}
use Rattle.std.specs.List.{flat_map}
use Rattle.std.specs.Ordering.{nat_cmp}
use Rattle.std.specs.Str.{bytes_eq}
use Rattle.build_base.specs.First.{first_of, first_holding, and_then, with_front}
use Rattle.build_base.specs.FaultText.{fault_of}
use Rattle.build_base.specs.declared.fault.Fault.{Fault}
use Rattle.build_base.specs.declared.guid.Guid.{Guid}
use Rattle.doc_types.specs.declared.arch.Arch.{Arch}
use Rattle.doc_types.specs.declared.depex.NamedGuid.{NamedGuid}
use Rattle.doc_types.specs.declared.module.InfDoc.{InfDoc}
use Rattle.doc_types.specs.declared.module.Named.{Named}
use Rattle.doc_types.specs.declared.parts.ModuleParts.{ModuleParts}
use Rattle.doc_types.specs.declared.parts.Package.{Package}
use Rattle.pcd_resolve.specs.Listing.{packages_of}
use Rattle.pcd_resolve.specs.NameFilter.{with_marks}
use Rattle.pcd_resolve.specs.Names.{covers}
use Rattle.build_base.specs.FaultCodes.{AUTOGEN_GUID_UNKNOWN}

-- A line of the package of a path.
pub record Declared : Type 0 where
  pub from : List ℕ
  pub line : NamedGuid

abbrev pub line_from : List ℕ → NamedGuid → Declared
line_from path line = record { from = path; line = line }

-- the lines of all packages, package by package
unfoldable pub package_lines : List Package → List Declared
package_lines decs = flat_map (λ held. map (line_from held.path) held.doc.guids) decs

abbrev pub declared_name : Declared → List ℕ
declared_name d = d.line.name

abbrev pub lines_of : List ℕ → List Declared → List Declared
lines_of name lines = filter (λ d. bytes_eq (declared_name d) name) lines

-- a line of the package of a path that counts for an architecture
unfoldable pub is_from : Arch → List ℕ → Declared → Bool
is_from arch path d = bytes_eq d.from path && covers d.line.arch arch

-- what the first line of a package says
abbrev pub guid_from : Arch → List Declared → List ℕ → Option Guid
guid_from arch lines path = first_holding (map (λ d. (is_from arch path d, d.line.guid)) lines)

-- of some lines the first one, by packages in order and then by lines
unfoldable pub first_guid : Arch → List Declared → List (List ℕ) → Option Guid
first_guid arch lines paths = first_of (map (guid_from arch lines) paths)

-- A name and its GUID.
abbrev pub Found : Type 0
Found = List ℕ × Guid

-- 511: no package of the INF declares the name for the architecture
abbrev pub found_guid : Named → Option Guid → Result (List Found) Fault
found_guid named None = Err (fault_of AUTOGEN_GUID_UNKNOWN named.at named.name)
found_guid named (Some guid) = Ok ((named.name, guid) ∷ [])

-- what a line of an INF with these packages names; a line of another architecture names nothing
unfoldable pub line_guids : Arch → List Declared → List (List ℕ) → Named → Result (List Found) Fault
line_guids arch lines paths named =
    if covers named.arch arch then found_guid named (first_guid arch (lines_of named.name lines) paths)
    else Ok []

-- what all give, or the first fault
abbrev pub all_of : List (Result (List Found) Fault) → Result (List Found) Fault
all_of [] = Ok []
all_of (outcome ∷ outcomes) = and_then outcome (λ front. with_front front (all_of outcomes))

unfoldable pub inf_guids : Arch → List Declared → InfDoc → Result (List Found) Fault
inf_guids arch lines inf = all_of (map (line_guids arch lines (packages_of arch inf)) inf.guids)

-- what the INF files of a module name, file by file and line by line, or the first fault
unfoldable pub module_guids : ModuleParts → Result (List Found) Fault
module_guids parts =
    all_of (map (inf_guids parts.«module».arch (package_lines parts.decs)) parts.infs)

-- names in ascending order of their bytes, each once, with the GUID of the first of its lines
unfoldable pub by_name : List Found → List Found
by_name [] = []
by_name (line ∷ lines) = insert_entry (slice_cmp nat_cmp) (by_name lines) line.0 line.1

-- marks with the names of an INF's lines
abbrev pub with_guids : List Bool → InfDoc → List Bool
with_guids marks inf = with_marks marks (map (λ named. named.name) inf.guids)
