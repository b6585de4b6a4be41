-- What the step of a module's dependency expression gives, once all that it asks is answered (UEFI
-- PI specification, volumes 1 and 2; EDK II INF specification, [Depex]).
use Rattle.std.specs.Prelude.{ℕ, ◌==◌, Bool, ◌&&◌, if◌then◌else◌, List, [], ◌∷◌, length, map, filter, Result, Ok, Err}
use Rattle.std.specs.List.{flat_map}
use Rattle.std.specs.Str.{bytes_eq}
use Rattle.build_base.specs.First.{and_then}
use Rattle.build_base.specs.declared.fault.Fault.{Fault}
use Rattle.build_stages.specs.Stages.{impossible_answer}
use Rattle.depex_code.specs.Compiled.{compiled, joined_code}
use Rattle.doc_types.specs.declared.arch.Arch.{Arch}
use Rattle.doc_types.specs.declared.choice.Choice.{Choice}
use Rattle.doc_types.specs.declared.depex.DepexGroup.{DepexGroup}
use Rattle.doc_types.specs.declared.depex.DepexPart.{DepexPart}
use Rattle.doc_types.specs.declared.depex.NamedGuid.{NamedGuid}
use Rattle.doc_types.specs.declared.module.InfDoc.{InfDoc}
use Rattle.doc_types.specs.declared.module.Named.{Named}
use Rattle.doc_types.specs.declared.module_type.ModuleType.{ModuleType}
use Rattle.doc_types.specs.declared.parts.ModuleParts.{ModuleParts}
use Rattle.doc_types.specs.declared.parts.Package.{Package}
use Rattle.library_choice.specs.Lines.{type_covers}
use Rattle.pcd_resolve.specs.Names.{covers}

-- a section applies where it is for the module's architecture or for all, and for its type or for
-- all
unfoldable pub applies : Arch → ModuleType → DepexPart → Bool
applies arch kind part = covers part.arch arch && type_covers part.kind kind

abbrev pub counts : Arch → NamedGuid → Bool
counts arch line = covers line.arch arch

-- the lines of a package that count for an architecture, where it is the package of this path
abbrev pub names_at : Arch → List ℕ → Package → List NamedGuid
names_at arch path held = if bytes_eq held.path path then filter (counts arch) held.doc.guids
    else []

-- those of the package that a line of an INF file names, where that line counts
abbrev pub names_by : Arch → List Package → Named → List NamedGuid
names_by arch decs named =
    if covers named.arch arch then flat_map (names_at arch named.name) decs else []

-- those of its packages in order
unfoldable pub names_of : Arch → List Package → List Named → List NamedGuid
names_of arch decs packages = flat_map (names_by arch decs) packages

-- an INF file without a section that applies has no term that a name could stand in
abbrev pub wanted_names : Arch → List Package → InfDoc → List DepexPart → List NamedGuid
wanted_names arch decs inf parts =
    if length parts == 0 then [] else names_of arch decs inf.packages

abbrev pub group_by : Arch → List Package → InfDoc → List DepexPart → DepexGroup
group_by arch decs inf parts =
    record { parts = parts; guids = wanted_names arch decs inf parts }

-- what an INF file adds: its sections that apply, and the names that they may use
unfoldable pub group_of : Arch → ModuleType → List Package → InfDoc → DepexGroup
group_of arch kind decs inf = group_by arch decs inf (filter (applies arch kind) inf.depex)

-- one group for each INF file, the module's own first
unfoldable pub groups_of : ModuleType → ModuleParts → List DepexGroup
groups_of kind parts = map (group_of parts.«module».arch kind parts.decs) parts.infs

-- the first description is the module's own
abbrev pub own_type : List InfDoc → Result ModuleType Fault
own_type [] = Err impossible_answer
own_type (inf ∷ infs) = Ok inf.module_type

-- the bytes of a module's expression; a library has none
unfoldable pub depex_given : Choice → ModuleParts → Result (List ℕ) Fault
depex_given choice parts =
    if choice.library then Ok []
    else and_then (own_type parts.infs) (λ kind. compiled kind (groups_of kind parts))

-- the bytes before conjunctions were simplified
unfoldable pub older_depex_given : Choice → ModuleParts → Result (List ℕ) Fault
older_depex_given choice parts =
    if choice.library then Ok []
    else and_then (own_type parts.infs) (λ kind. joined_code kind (groups_of kind parts))
