-- The modules of a build, and what the words say of its PCDs (EDK II Build specification, options
-- -a, -x and --pcd; EDK II DSC specification, SUPPORTED_ARCHITECTURES and [Components]).
use Rattle.job_fields.specs.Fields.{ARCHES}
use Rattle.job_fields.specs.Readings.{arches_in, name_in, sets_in, texts_in}
use Rattle.std.specs.Prelude.{find, ℕ, ◌==◌, Bool, false, List, [], ◌∷◌, ◌++◌, length, fold, Option, Some, None, Result, Ok, if◌then◌else◌}
use Rattle.step_answers.specs.Readers.{or_impossible}
use Rattle.std.specs.List.{flat_map, list_any}
use Rattle.build_base.specs.declared.fault.Fault.{Fault}
use Rattle.build_base.specs.declared.fault.Place.{Place}
use Rattle.build_base.specs.declared.guid.Guid.{Guid}
use Rattle.build_base.specs.FaultText.{fault_of}
use Rattle.build_base.specs.First.{and_then, or_else, or_fault}
use Rattle.meta_lexer.specs.Faults.{first_fault}
use Rattle.doc_types.specs.Arches.{arch_named}
use Rattle.doc_types.specs.declared.arch.Arch.{Arch}
use Rattle.doc_types.specs.declared.choice.Module.{Module}
use Rattle.doc_types.specs.declared.pcd.PcdSet.{PcdSet}
use Rattle.doc_types.specs.declared.platform.Component.{Component}
use Rattle.doc_types.specs.declared.platform.PlatformDoc.{PlatformDoc}
use Rattle.pcd_resolve.specs.Names.{covers}
use Rattle.pcd_resolve.specs.Platform.{is_all, sku_unknown}
use Rattle.build_stages.specs.Writing.{given_field}
use Rattle.step_engine.specs.declared.talk.Pair.{Pair}
use Rattle.step_pack.specs.declared.key.Key.{Key}
use Rattle.step_pack.specs.declared.out.Out.{Out}
use Rattle.doc_types.specs.Components.{is_component}
use Rattle.step_answers.specs.declared.settings.Setting.{Setting}
use Rattle.build_base.specs.FaultCodes.{ARCH_UNSUPPORTED}
unfoldable pub use Rattle.doc_types.specs.Arches.{same_arch}

abbrev pub has_arch : List Arch → Arch → Bool
has_arch arches arch = list_any (λ other. same_arch other arch) arches

-- architectures with one more, where it isn't there
abbrev pub put_arch : List Arch → Arch → List Arch
put_arch arches arch = if has_arch arches arch then arches else arches ++ arch ∷ []

abbrev pub each_once : List Arch → List Arch
each_once arches = fold put_arch [] arches

-- those of the words, else those that the platform supports, each at its first place
unfoldable pub built_arches : List Arch → List Arch → List Arch
built_arches named supported =
    if length named == 0 then each_once supported else each_once named

abbrev pub module_of : Arch → Component → Module
module_of arch component = record { arch = arch; inf = component.inf }

-- a component is built for an architecture where it is its own, or where it is for all
abbrev pub module_where : Arch → Component → List Module
module_where arch component =
    if covers component.arch arch then module_of arch component ∷ [] else []

abbrev pub modules_for : List Component → Arch → List Module
modules_for components arch = flat_map (module_where arch) components

-- for each architecture in order, its components in the order of their lines
unfoldable pub modules_of : List Arch → List Component → List Module
modules_of arches components = flat_map (modules_for components) arches

abbrev pub is_supported : List Arch → Option Arch → Bool
is_supported supported None = false
is_supported supported (Some arch) = has_arch supported arch

-- ArchUnsupported: the words name an architecture that the platform doesn't support
unfoldable pub arch_unsupported : PlatformDoc → List ℕ → Option Fault
arch_unsupported platform text =
    if is_supported platform.arches (arch_named text) then None
    else Some (fault_of ARCH_UNSUPPORTED platform.at text)

-- SkuUnknown: the words choose a SKU that the platform doesn't have
abbrev pub skus_fault : PlatformDoc → List (List ℕ) → Option Fault
skus_fault platform names =
    if is_all names then None else first_fault (sku_unknown platform) names

-- both checks of the words, that of the SKU before that of the architectures
abbrev pub words_checked : PlatformDoc → List (List ℕ) → List (List ℕ) → Option Fault
words_checked platform skus arches =
    or_else (skus_fault platform skus) (first_fault (arch_unsupported platform) arches)

abbrev pub setting_by : PlatformDoc → List (List ℕ) → List PcdSet → List Arch → Setting
setting_by platform skus commands arches = record {
  commands = commands;
  skus = skus;
  arches = arches;
  modules = modules_of arches platform.components;
}

-- the architectures that a field names
abbrev pub named_arches : List ℕ → Result (List Arch) Fault
named_arches text = or_impossible (arches_in text)

-- the values that the words give PCDs; they stand at the platform
abbrev pub command_line_pcds : Place → List ℕ → Result (List PcdSet) Fault
command_line_pcds at text = or_impossible (sets_in at text)

-- the architectures that are built, by those of the words
unfoldable pub arches_built : PlatformDoc → List ℕ → Result (List Arch) Fault
arches_built platform arches =
    and_then (named_arches arches) (λ named. Ok (built_arches named platform.arches))

-- by the answers of a step
abbrev pub arches_built_in : PlatformDoc → List (Pair Key Out) → Result (List Arch) Fault
arches_built_in platform given = and_then (given_field given ARCHES) (arches_built platform)

-- the modules of a build, by the words' architectures
unfoldable pub built_modules : PlatformDoc → List ℕ → Result (List Module) Fault
built_modules platform arches =
    and_then (arches_built platform arches) (λ built. Ok (modules_of built platform.components))

abbrev pub skus_named : Option (List ℕ) → List (List ℕ)
skus_named None = []
skus_named (Some name) = name ∷ []

-- the SKU of the words, where they name one
abbrev pub named_skus : List ℕ → List (List ℕ)
named_skus text = skus_named (name_in text)

-- what the words settle, by their architectures, their SKU and the values that they give PCDs
unfoldable pub setting_of : PlatformDoc → List ℕ → List ℕ → List ℕ → Result Setting Fault
setting_of platform arches sku pcds =
    and_then (named_arches arches) (λ named.
    and_then (command_line_pcds platform.at pcds) (λ commands.
    or_fault (words_checked platform (named_skus sku) (texts_in arches))
    (Ok (setting_by platform (named_skus sku) commands (built_arches named platform.arches)))))

abbrev pub guid_in : Option Component → Option Guid
guid_in None = None
guid_in (Some component) = component.file_guid

-- the GUID that the module's component states, if it states one; a platform has one component at most
-- of an INF file for an architecture
unfoldable pub stated_guid : PlatformDoc → Module → Option Guid
stated_guid platform m = guid_in (find (is_component m.inf m.arch) platform.components)
