-- The faults of a line of a DSC file below a head, and what it says there (EDK II DSC
-- specification, chapter 3).
use Rattle.std.specs.Prelude.{ℕ, List, Option}
use Rattle.std.specs.Option.{option_map}
use Rattle.build_base.specs.declared.fault.Fault.{Fault}
use Rattle.build_base.specs.declared.lines.Taken.{Taken}
use Rattle.dsc_lines.specs.declared.open_mark.Open.{Open}
use Rattle.dsc_lines.specs.declared.rows.DscRow.{DscRow}
use Rattle.dsc_lines.specs.declared.rows.DscRow.TheVariants.{Sku, Library, Pcd, Part}
use Rattle.dsc_lines.specs.declared.section.Scope.{Scope}
use Rattle.dsc_lines.specs.declared.section.Scope.TheVariants.{Defines, SkuIds, Libraries, Components, Pcds}
use Rattle.dsc_lines.specs.ComponentLines.{component_faults, component_part}
use Rattle.dsc_lines.specs.KeyLines.{key_line_faults, key_line_row}
use Rattle.dsc_lines.specs.LibraryLines.{library_faults, library_of}
use Rattle.dsc_lines.specs.PcdLines.{pcd_faults, pcd_of}
use Rattle.dsc_lines.specs.SkuLines.{sku_faults, sku_of}

-- the faults of a line below a head, one for each code, where SKUs of these names stand above and
-- this is open
abbrev pub scope_faults : List (List ℕ) → Open → Taken → Scope → List (Option Fault)
scope_faults names standing line Defines = key_line_faults line
scope_faults names standing line SkuIds = sku_faults names line
scope_faults names standing line (Libraries arch kind) = library_faults line
scope_faults names standing line (Components arch) = component_faults line standing
scope_faults names standing line (Pcds p) = pcd_faults line p.store

-- what it says there
abbrev pub scope_row : Open → Taken → Scope → Option DscRow
scope_row standing line Defines = key_line_row line
scope_row standing line SkuIds = option_map Sku (sku_of line)
scope_row standing line (Libraries arch kind) = option_map Library (library_of line arch kind)
scope_row standing line (Components arch) = option_map Part (component_part line arch standing)
scope_row standing line (Pcds p) = option_map Pcd (pcd_of line p.kind p.store p.arch p.sku)

unfoldable pub line_faults : List (List ℕ) → Open → Taken → Scope → List (Option Fault)
line_faults names standing line scope = scope_faults names standing line scope

unfoldable pub line_row : Open → Taken → Scope → Option DscRow
line_row standing line scope = scope_row standing line scope

-- a section of which each line that is read gives a row
abbrev pub Lists : Scope → Type 0
Lists Defines = ⊥
Lists (Components arch) = ⊥
Lists scope = Unit {0}
