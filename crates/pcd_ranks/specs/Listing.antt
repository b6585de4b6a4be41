-- The lines that name a PCD, in the order that counts: in modules, in packages and in the platform
-- (EDK II INF, DEC and DSC specifications, PCD sections).
use Rattle.std.specs.Prelude.{ℕ, Bool, ◌&&◌, if◌then◌else◌, List, [], ◌∷◌, ◌++◌, map, filter, fold, Option, Some, None}
use Rattle.std.specs.List.{flat_map, list_any}
use Rattle.std.specs.Str.{bytes_eq}
use Rattle.doc_types.specs.declared.arch.Arch.{Arch}
use Rattle.doc_types.specs.declared.choice.Module.{Module}
use Rattle.doc_types.specs.declared.module.InfDoc.{InfDoc}
use Rattle.doc_types.specs.declared.module.UsedPcd.{UsedPcd}
use Rattle.doc_types.specs.declared.package.DecPcd.{DecPcd}
use Rattle.doc_types.specs.declared.parts.ModuleParts.{ModuleParts}
use Rattle.doc_types.specs.declared.parts.Package.{Package}
use Rattle.doc_types.specs.declared.platform.Component.{Component}
use Rattle.doc_types.specs.declared.platform.PcdLine.{PcdLine}
use Rattle.doc_types.specs.declared.platform.PlatformDoc.{PlatformDoc}
use Rattle.doc_types.specs.Pcds.{full_name}
use Rattle.pcd_ranks.specs.Names.{covers}

-- A line of the package of a path.
pub record Declared : Type 0 where
  pub from : List ℕ
  pub line : DecPcd

abbrev pub line_from : List ℕ → DecPcd → Declared
line_from path line = record { from = path; line = line }

-- the lines of all packages, package by package
unfoldable pub package_lines : List Package → List Declared
package_lines decs = flat_map (λ held. map (line_from held.path) held.doc.pcds) decs

abbrev pub declared_of : List ℕ → List Declared → List Declared
declared_of pcd lines = filter (λ d. bytes_eq (full_name d.line.pcd) pcd) lines

-- a line of the package of a path that counts for an architecture
unfoldable pub is_from : Arch → List ℕ → Declared → Bool
is_from arch path d = bytes_eq d.from path && covers d.line.arch arch

abbrev pub of_package : Arch → List Declared → List ℕ → List DecPcd
of_package arch lines path = map (λ d. d.line) (filter (is_from arch path) lines)

-- of some lines those of some packages, package by package
unfoldable pub by_packages : Arch → List Declared → List (List ℕ) → List DecPcd
by_packages arch lines paths = flat_map (of_package arch lines) paths

-- the packages that an INF names for an architecture
unfoldable pub packages_of : Arch → InfDoc → List (List ℕ)
packages_of arch inf = map (λ named. named.name)
    (filter (λ named. covers named.arch arch) inf.packages)

-- names with one more, where it isn't there
abbrev pub put_once : List (List ℕ) → List ℕ → List (List ℕ)
put_once names name = if list_any (λ other. bytes_eq other name) names then names
    else names ++ name ∷ []

-- the packages that some INFs name, in their order, each at its first place
unfoldable pub packages_in : Arch → List InfDoc → List (List ℕ)
packages_in arch infs = fold put_once [] (flat_map (packages_of arch) infs)

abbrev pub arch_of : ModuleParts → Arch
arch_of parts = parts.«module».arch

-- the lines by which the packages of a module's INFs declare a PCD for its architecture
unfoldable pub declared_in : ModuleParts → List ℕ → List DecPcd
declared_in parts pcd =
    by_packages (arch_of parts) (declared_of pcd (package_lines parts.decs))
    (packages_in (arch_of parts) parts.infs)

-- the lines by which the packages of one INF do
unfoldable pub declared_for : ModuleParts → InfDoc → List ℕ → List DecPcd
declared_for parts inf pcd =
    by_packages (arch_of parts) (declared_of pcd (package_lines parts.decs))
    (packages_of (arch_of parts) inf)

-- A line of an INF that names a PCD, for the module `user` that has the INF. `own` are the lines by
-- which the INF's packages declare the PCD, `all` those by which the packages of all INFs of the
-- module do.
pub record Use : Type 0 where
  pub user : Module
  pub line : UsedPcd
  pub own : List DecPcd
  pub all : List DecPcd

unfoldable pub use_of : ModuleParts → InfDoc → UsedPcd → Use
use_of parts inf line = record {
  user = parts.«module»;
  line = line;
  own = declared_for parts inf (full_name line.pcd);
  all = declared_in parts (full_name line.pcd);
}

-- the uses by an INF of a module: its lines that count for the module's architecture
unfoldable pub uses_by : ModuleParts → InfDoc → List Use
uses_by parts inf = map (use_of parts inf)
    (filter (λ line. covers line.arch (arch_of parts)) inf.pcds)

-- the uses by a module, INF by INF
unfoldable pub uses_of_module : ModuleParts → List Use
uses_of_module parts = flat_map (uses_by parts) parts.infs

-- the uses by modules, module by module
unfoldable pub uses_in : List ModuleParts → List Use
uses_in modules = flat_map uses_of_module modules

abbrev pub uses_of : List ℕ → List Use → List Use
uses_of pcd uses = filter (λ used. bytes_eq (full_name used.line.pcd) pcd) uses

-- A line of the platform, and the component in which it stands, if it stands in one.
pub record Stated : Type 0 where
  pub home : Option Component
  pub line : PcdLine

-- the platform's lines: those of its sections, then those of its components
unfoldable pub stated_in : PlatformDoc → List Stated
stated_in platform =
    map (λ line. record { home = None; line = line }) platform.pcds
    ++ flat_map (λ home. map (λ line. record { home = Some home; line = line }) home.pcds)
    platform.components

abbrev pub stated_for : List ℕ → List Stated → List Stated
stated_for pcd lines = filter (λ stated. bytes_eq (full_name stated.line.pcd) pcd) lines

-- a line of a section applies to the modules of its architecture, one of a component to the
-- component's module
abbrev pub applies_at : Module → PcdLine → Option Component → Bool
applies_at user line None = covers line.arch user.arch
applies_at user line (Some home) = bytes_eq home.inf user.inf && covers home.arch user.arch

unfoldable pub applies : Module → Stated → Bool
applies user stated = applies_at user stated.line stated.home
