-- The library instances of a module (EDK II Build specification, library instances): the ends of
-- all walks by library classes, in the order in which they are found.
use Rattle.std.specs.Prelude.{ℕ, Bool, ◌&&◌, ◌==◌, not, nat_eq, nat_le, if◌then◌else◌, List, [], ◌++◌, length, filter, find, Option, Some, None, codes}
use Rattle.std.specs.List.{filter_map}
use Rattle.std.specs.Option.{option_map, is_none, is_some}
use Rattle.std.specs.Cmp.Lexicographic.{pointwise}
use Rattle.doc_types.specs.declared.choice.Module.{Module}
use Rattle.doc_types.specs.declared.module.InfDoc.{InfDoc}
use Rattle.doc_types.specs.declared.module.Named.{Named}
use Rattle.doc_types.specs.declared.platform.Component.{Component}
use Rattle.doc_types.specs.declared.platform.LibraryLine.{LibraryLine}
use Rattle.doc_types.specs.declared.platform.PlatformDoc.{PlatformDoc}
use Rattle.doc_types.specs.Components.{is_component}
use Rattle.line_ranks.specs.declared.user.Consumer.{Consumer}
use Rattle.library_choice.specs.Found.{found_in}
use Rattle.library_choice.specs.Lines.{covers, applies, chosen_line, Setting}

abbrev pub same_path : List ℕ → List ℕ → Bool
same_path x y = pointwise nat_eq y x

unfoldable pub known : List InfDoc → List ℕ → Option InfDoc
known infs path = find (λ (inf : InfDoc). pointwise nat_eq inf.at.path path) infs

-- the instance for a line of [LibraryClasses] in an INF file
unfoldable pub instance_of : Setting → Named → Option (List ℕ)
instance_of s class =
    if covers class.arch s.user.arch
    then option_map (λ (line : LibraryLine). line.instance) (chosen_line s class.name) else None

-- an unknown INF file has no classes
abbrev pub classes_of : Option InfDoc → List Named
classes_of None = []
classes_of (Some inf) = inf.classes

-- one step on from an instance: the instances for its classes, in file order
unfoldable pub next : Setting → List ℕ → List (List ℕ)
next s path = filter_map (instance_of s) (classes_of (known s.infs path))

-- a line that links its instance without a class
unfoldable pub null_of : Consumer → LibraryLine → Option (List ℕ)
null_of user line =
    if pointwise nat_eq line.class (codes "NULL") && applies user line then Some line.instance
    else None

-- those of the sections, then those of the module's own braces
abbrev pub nulls : Setting → List (List ℕ)
nulls s = filter_map (null_of s.user) s.sections ++ filter_map (null_of s.user) s.own

-- the instances of a module, where they are at most 1,024: a walk to one of them needs no more
-- steps
unfoldable pub instances : Setting → InfDoc → List (List ℕ)
instances s inf = found_in same_path (next s) (filter_map (instance_of s) inf.classes) (nulls s)
    1025

abbrev pub are_few : Setting → InfDoc → Bool
are_few s inf = nat_le (length (instances s inf)) 1024

unfoldable pub is_unknown : List InfDoc → List ℕ → Bool
is_unknown infs path = is_none (known infs path)

unfoldable pub is_known : List InfDoc → List ℕ → Bool
is_known infs path = is_some (known infs path)

abbrev pub libraries_of : Option Component → List LibraryLine
libraries_of None = []
libraries_of (Some component) = component.libraries

-- those in the braces of the module's own component
unfoldable pub own_lines : Module → List Component → List LibraryLine
own_lines user components = libraries_of (find (is_component user.inf user.arch) components)

unfoldable pub setting_of : Module → PlatformDoc → List InfDoc → InfDoc → Setting
setting_of user platform infs inf =
    record {
      user = record { arch = user.arch; kind = inf.module_type };
      sections = platform.libraries;
      own = own_lines user platform.components;
      infs = infs;
    }

-- a library has a LIBRARY_CLASS
abbrev pub is_library : InfDoc → Bool
is_library inf = not (length inf.serves == 0)

-- the instances whose INF file isn't known; none of a library, and none where there are too many
unfoldable pub wanted_by : Setting → InfDoc → List (List ℕ)
wanted_by s inf = if are_few s inf then filter (is_unknown s.infs) (instances s inf) else []

abbrev pub wanted_for : Module → PlatformDoc → List InfDoc → Option InfDoc → List (List ℕ)
wanted_for user platform infs None = []
wanted_for user platform infs (Some inf) =
    if is_library inf then [] else wanted_by (setting_of user platform infs inf) inf

unfoldable pub wanted : Module → PlatformDoc → List InfDoc → List (List ℕ)
wanted user platform infs = wanted_for user platform infs (known infs user.inf)
