-- The names of the lines of tables, and what the tables of a module hold.
use Rattle.std.specs.Prelude.{◌≡◌, ℕ, Bool, true, List, Option, Some, map}
use Rattle.std.specs.List.{All}
use Rattle.doc_types.specs.declared.pcd.PcdSet.{PcdSet}
use Rattle.doc_types.specs.declared.platform.Component.{Component}
use Rattle.doc_types.specs.declared.platform.PcdLine.{PcdLine}
use Rattle.doc_types.specs.declared.values.PcdRow.{PcdRow}
use Rattle.pcd_resolve.specs.declared.packages.ModuleTables.{ModuleTables}
use Rattle.pcd_resolve.specs.Groups.{GroupedAt}
use Rattle.pcd_resolve.specs.NameFilter.{is_kept}
use Rattle.doc_types.specs.Pcds.{full_name}
use Rattle.pcd_ranks.specs.Listing.{Declared, Use, Stated, arch_of, package_lines, packages_in}
use Rattle.pcd_ranks.specs.Views.{declared_view}

abbrev pub stated_name : Stated → List ℕ
stated_name stated = full_name stated.line.pcd

abbrev pub use_name : Use → List ℕ
use_name used = full_name used.line.pcd

abbrev pub set_name : PcdSet → List ℕ
set_name set = full_name set.pcd

abbrev pub row_name : PcdRow → List ℕ
row_name row = full_name row.pcd

abbrev pub declared_name : Declared → List ℕ
declared_name d = full_name d.line.pcd

abbrev pub at_home : Option Component → PcdLine → Stated
at_home home line = record { home = home; line = line }

-- the lines of a component
abbrev pub lines_at : Component → List Stated
lines_at home = map (at_home (Some home)) home.pcds

-- the tables of a module hold what its parts say of marked names
pub record IsTabled (tables : ModuleTables) : Type 0 where
  pub packages : map (λ p. p.now) tables.packages.items
      ≡ packages_in (arch_of tables.parts.now) tables.parts.now.infs
  pub declared : GroupedAt tables.marks.items declared_view declared_name
      (package_lines tables.parts.now.decs) tables.declared

-- all names are marked
abbrev pub AllKept : List Bool → List (List ℕ) → Type 0
AllKept marks names = All (λ n. is_kept marks n ≡ true) names
