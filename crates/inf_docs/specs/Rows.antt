-- The faults of a line below a head, and what it says there.
use Rattle.std.specs.Prelude.{List, Option, Some}
use Rattle.std.specs.Option.{option_map}
use Rattle.build_base.specs.declared.fault.Fault.{Fault}
use Rattle.build_base.specs.declared.lines.Taken.{Taken}
use Rattle.doc_types.specs.declared.arch.Arch.{Arch}
use Rattle.inf_docs.specs.declared.row.Row.{Row}
use Rattle.inf_docs.specs.declared.row.Row.TheVariants as row
use Rattle.inf_docs.specs.declared.section.Scope.{Scope}
use Rattle.inf_docs.specs.declared.section.SectionKind.{SectionKind}
use Rattle.inf_docs.specs.declared.section.SectionKind.TheVariants.{Defines, Packages, Classes, GuidNames, Pcds, Depex}
use Rattle.inf_docs.specs.Depex.{terms_faults, terms_of}
use Rattle.inf_docs.specs.Keys.{key_line_faults, key_line_row}
use Rattle.inf_docs.specs.Names.{name_line_faults, name_line, package_faults, package_row}
use Rattle.inf_docs.specs.Pcds.{pcd_faults, pcd_used}

abbrev pub faults_in : Taken → SectionKind → List (Option Fault)
faults_in line Defines = key_line_faults line
faults_in line Packages = package_faults line
faults_in line Classes = name_line_faults line
faults_in line GuidNames = name_line_faults line
faults_in line (Pcds asked) = pcd_faults line
faults_in line Depex = terms_faults line

abbrev pub row_in : Taken → Arch → SectionKind → Option Row
row_in line arch Defines = key_line_row line
row_in line arch Packages = package_row line arch
row_in line arch Classes = Some (row.Class (name_line line arch))
row_in line arch GuidNames = Some (row.GuidName (name_line line arch))
row_in line arch (Pcds asked) = option_map row.Pcd (pcd_used line arch asked)
row_in line arch Depex = Some (row.Terms (terms_of line.text))

unfoldable pub line_faults : Taken → Scope → List (Option Fault)
line_faults line scope = faults_in line scope.kind

unfoldable pub line_row : Taken → Scope → Option Row
line_row line scope = row_in line scope.arch scope.kind

-- every section but [Defines] lists what its lines state
abbrev pub Lists : SectionKind → Type 0
Lists Defines = ⊥
Lists kind = Unit {0}
