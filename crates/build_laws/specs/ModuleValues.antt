-- The values of the steps of libraries and PCDs in a world: the instances of modules and what they
-- have called (EDK II DSC, INF and Build specifications, library classes), and the values of PCDs
-- (EDK II Build specification, PCD values), from the documents of the world.
use Rattle.std.specs.Prelude.{◌≡◌, ℕ, zero, suc, List, [], ◌∷◌, map, Result}
use Rattle.build_base.specs.First.{and_then, all_ok}
use Rattle.build_base.specs.World.{World, field}
use Rattle.build_base.specs.declared.fault.Fault.{Fault}
use Rattle.doc_types.specs.declared.choice.Choice.{Choice}
use Rattle.doc_types.specs.declared.choice.Module.{Module}
use Rattle.doc_types.specs.declared.module.InfDoc.{InfDoc}
use Rattle.doc_types.specs.declared.parts.ModuleParts.{ModuleParts}
use Rattle.doc_types.specs.declared.parts.Package.{Package}
use Rattle.doc_types.specs.declared.platform.PlatformDoc.{PlatformDoc}
use Rattle.doc_types.specs.declared.values.Values.{Values}
use Rattle.library_choice.specs.Choices.{choice}
use Rattle.library_choice.specs.Closure.{wanted}
use Rattle.build_stages.specs.Stages.{outcome_of}
use Rattle.step_pack.specs.declared.key.Key.TheVariants as key
use Rattle.step_pack.specs.declared.out.Out.TheVariants as out
use Rattle.library_steps.specs.declared.parts.Described.{Described}
use Rattle.library_steps.specs.declared.parts.Linked.{Linked}
use Rattle.library_steps.specs.Choices.{alone, behind}
use Rattle.library_steps.specs.Parts.{held_package, linked, linked_module, described, parts}
use Rattle.library_steps.specs.Pcds.{pcds_given, values_given}
use Rattle.step_answers.specs.Settings.{command_line_pcds, setting_of}
use Rattle.library_steps.specs.ModuleTrees.{most_rounds}
use Rattle.build_rules.specs.Rules.{value_in}
use Rattle.step_answers.specs.Readers.{given_as}
use Rattle.build_rules.specs.Values.{dec_value, inf_value, platform_value, flash_value}
use Rattle.job_fields.specs.Fields.{ARCHES, SKU, PCDS}

-- the descriptions of some modules, or the first fault
abbrev pub infs_value : World → List (List ℕ) → Result (List InfDoc) Fault
infs_value w paths = all_ok (map (inf_value w) paths)

-- where all that is wanted is known the libraries are chosen, else once more is known
abbrev pub chosen_by : World → Module → PlatformDoc → List InfDoc → List (List ℕ)
    → (List InfDoc → Result Choice Fault) → Result Choice Fault
chosen_by w m platform infs [] next = choice m platform infs
chosen_by w m platform infs (path ∷ paths) next =
    and_then (and_then (infs_value w (path ∷ paths)) (behind infs)) next

unfoldable pub chosen_after : World → ℕ → Module → PlatformDoc → List InfDoc → Result Choice Fault
chosen_after w zero m platform infs = choice m platform infs
chosen_after w (suc n) m platform infs =
    chosen_by w m platform infs (wanted m platform infs) (chosen_after w n m platform)

-- the libraries of a module: what is wanted is made known until nothing is
unfoldable pub choice_value : World → Module → Result Choice Fault
choice_value w m =
    and_then (platform_value w) (λ platform.
    and_then (and_then (inf_value w m.inf) alone)
    (λ infs. chosen_after w most_rounds m platform infs))

abbrev pub linked_value : World → Module → Result Linked Fault
linked_value w m = and_then (choice_value w m) (linked m)

abbrev pub described_value : World → Linked → Result Described Fault
described_value w held = and_then (infs_value w held.paths) (described held)

abbrev pub package_value : World → List ℕ → Result Package Fault
package_value w path = and_then (dec_value w path) (held_package path)

abbrev pub packages_value : World → List (List ℕ) → Result (List Package) Fault
packages_value w paths = all_ok (map (package_value w) paths)

abbrev pub parts_value : World → Described → Result ModuleParts Fault
parts_value w held = and_then (packages_value w held.packages) (parts held)

-- some modules: the libraries of all come before their descriptions, and these before their
-- packages
unfoldable pub modules_value : World → List Module → Result (List ModuleParts) Fault
modules_value w modules =
    and_then (all_ok (map (linked_value w) modules)) (λ linked.
    and_then (all_ok (map (described_value w) linked))
    (λ described. all_ok (map (parts_value w) described)))

-- the rows of dynamic PCDs, once both checks of the words hold
unfoldable pub pcds_value : World → Result Values Fault
pcds_value w =
    and_then (platform_value w) (λ platform.
    and_then (flash_value w) (λ flash.
    and_then (setting_of platform (field w ARCHES) (field w SKU) (field w PCDS)) (λ setting.
    and_then (modules_value w setting.modules) (pcds_given platform flash setting))))

unfoldable pub module_value : World → Module → Choice → Result ModuleParts Fault
module_value w m choice = and_then (described_value w (linked_module m choice)) (parts_value w)

-- the values of a module
unfoldable pub values_value : World → Module → Result Values Fault
values_value w m =
    and_then (platform_value w) (λ platform.
    and_then (flash_value w) (λ flash.
    and_then (pcds_value w) (λ dynamic.
    and_then (choice_value w m) (λ choice.
    and_then (command_line_pcds platform.at (field w PCDS)) (λ commands.
    and_then (module_value w m choice) (values_given platform flash commands dynamic))))))

-- the steps give these
abbrev pub GivesChoice : World → Module → Type 0
GivesChoice w m =
    value_in w (key.Choice m) ≡ outcome_of (given_as out.Choice (choice_value w m))

abbrev pub GivesPcds : World → Type 0
GivesPcds w = value_in w key.PlatformPcds ≡ outcome_of (given_as out.Values (pcds_value w))

abbrev pub GivesValues : World → Module → Type 0
GivesValues w m =
    value_in w (key.Values m) ≡ outcome_of (given_as out.Values (values_value w m))
