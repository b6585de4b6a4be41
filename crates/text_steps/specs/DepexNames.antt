-- What the code hands on of a module's expression: of the names that its sections may use those
-- that one of their terms may be. The rules are this project's own.
use Rattle.std.specs.Prelude.{ℕ, Bool, ◌==◌, ◌&&◌, if◌then◌else◌, List, [], length, map, filter, fold}
use Rattle.std.specs.List.{flat_map}
use Rattle.std.specs.Str.{bytes_eq}
use Rattle.doc_types.specs.declared.arch.Arch.{Arch}
use Rattle.doc_types.specs.declared.depex.DepexGroup.{DepexGroup}
use Rattle.doc_types.specs.declared.depex.DepexPart.{DepexPart}
use Rattle.doc_types.specs.declared.depex.NamedGuid.{NamedGuid}
use Rattle.doc_types.specs.declared.module.InfDoc.{InfDoc}
use Rattle.doc_types.specs.declared.module.Named.{Named}
use Rattle.doc_types.specs.declared.module_type.ModuleType.{ModuleType}
use Rattle.doc_types.specs.declared.parts.ModuleParts.{ModuleParts}
use Rattle.doc_types.specs.declared.parts.Package.{Package}
use Rattle.pcd_resolve.specs.NameFilter.{is_kept, no_marks, with_marks}
use Rattle.pcd_resolve.specs.Names.{covers}
use Rattle.text_steps.specs.Depex.{applies, counts}

abbrev pub with_terms : List Bool → DepexPart → List Bool
with_terms marks part = with_marks marks part.terms

-- the marks of the terms of some sections
abbrev pub marks_of : List DepexPart → List Bool
marks_of parts = fold with_terms no_marks parts

-- a line that counts for an architecture, and whose name is marked
abbrev pub is_used : List Bool → Arch → NamedGuid → Bool
is_used marks arch line = counts arch line && is_kept marks line.name

abbrev pub used_at : List Bool → Arch → List ℕ → Package → List NamedGuid
used_at marks arch path held = if bytes_eq held.path path then filter (is_used marks arch) held.doc.guids
    else []

abbrev pub used_by : List Bool → Arch → List Package → Named → List NamedGuid
used_by marks arch decs named =
    if covers named.arch arch then flat_map (used_at marks arch named.name) decs else []

unfoldable pub used_of : List Bool → Arch → List Package → List Named → List NamedGuid
used_of marks arch decs packages = flat_map (used_by marks arch decs) packages

abbrev pub used_names : Arch → List Package → InfDoc → List DepexPart → List NamedGuid
used_names arch decs inf parts =
    if length parts == 0 then [] else used_of (marks_of parts) arch decs inf.packages

abbrev pub lean_by : Arch → List Package → InfDoc → List DepexPart → DepexGroup
lean_by arch decs inf parts = record { parts = parts; guids = used_names arch decs inf parts }

-- what an INF file adds, without the names that no term may be
unfoldable pub lean_group : Arch → ModuleType → List Package → InfDoc → DepexGroup
lean_group arch kind decs inf = lean_by arch decs inf (filter (applies arch kind) inf.depex)

unfoldable pub lean_groups : ModuleType → ModuleParts → List DepexGroup
lean_groups kind parts = map (lean_group parts.«module».arch kind parts.decs) parts.infs
