-- The descriptions of modules and their libraries, and the packages that they name, by the answers
-- of a step; the rule is this project's own.
use Rattle.step_answers.specs.Readers.{choice_in, inf_in}
use Rattle.std.specs.Prelude.{ℕ, List, ◌∷◌, map, Result, Ok, Err}
use Rattle.std.specs.List.{filter_map}
use Rattle.build_base.specs.declared.fault.Fault.{Fault}
use Rattle.build_base.specs.First.{and_then, all_ok}
use Rattle.build_base.specs.Path.{path_field}
use Rattle.build_stages.specs.Stages.{impossible_answer}
use Rattle.build_stages.specs.Writing.{given_part}
use Rattle.step_engine.specs.declared.talk.Pair.{Pair}
use Rattle.doc_types.specs.declared.arch.Arch.{Arch}
use Rattle.doc_types.specs.declared.choice.Choice.{Choice}
use Rattle.doc_types.specs.declared.choice.Module.{Module}
use Rattle.doc_types.specs.declared.module.InfDoc.{InfDoc}
use Rattle.doc_types.specs.declared.package.DecDoc.{DecDoc}
use Rattle.doc_types.specs.declared.parts.ModuleParts.{ModuleParts}
use Rattle.doc_types.specs.declared.parts.Package.{Package}
use Rattle.pcd_resolve.specs.Listing.{packages_in}
use Rattle.step_pack.specs.Keys.{key_cmp}
use Rattle.step_pack.specs.declared.key.Key.{Key}
use Rattle.step_pack.specs.declared.key.Key.TheVariants as key
use Rattle.step_pack.specs.declared.out.Out.{Out}
use Rattle.step_pack.specs.declared.out.Out.TheVariants as out
use Rattle.library_steps.specs.declared.parts.Linked.{Linked}
use Rattle.library_steps.specs.declared.parts.Described.{Described}

abbrev pub dec_of_out : Out → Result DecDoc Fault
dec_of_out (out.Dec dec) = Ok dec
dec_of_out _ = Err impossible_answer

abbrev pub held_package : List ℕ → DecDoc → Result Package Fault
held_package path dec = Ok (record { path = path; doc = dec })

abbrev pub dec_in : List (Pair Key Out) → List ℕ → Result DecDoc Fault
dec_in given path = and_then (given_part key_cmp given (key.Dec path)) dec_of_out

unfoldable pub package_in : List (Pair Key Out) → List ℕ → Result Package Fault
package_in given path = and_then (dec_in given path) (held_package path)

-- the descriptions and the packages of some paths, in their order
abbrev pub infs_from : List (Pair Key Out) → List (List ℕ) → Result (List InfDoc) Fault
infs_from given paths = all_ok (map (inf_in given) paths)

abbrev pub packages_from : List (Pair Key Out) → List (List ℕ) → Result (List Package) Fault
packages_from given paths = all_ok (map (package_in given) paths)

-- the module itself, and its instances in first-found order
abbrev pub linked_module : Module → Choice → Linked
linked_module m choice = record { «module» = m; paths = m.inf ∷ choice.instances }

abbrev pub linked : Module → Choice → Result Linked Fault
linked m choice = Ok (linked_module m choice)

unfoldable pub linked_in : List (Pair Key Out) → Module → Result Linked Fault
linked_in given m = and_then (choice_in given m) (linked m)

abbrev pub linked_from : List (Pair Key Out) → List Module → Result (List Linked) Fault
linked_from given modules = all_ok (map (linked_in given) modules)

-- the packages that some descriptions name for an architecture, in their order, each at its first
-- place; in a world each name is a path
unfoldable pub package_paths : Arch → List InfDoc → List (List ℕ)
package_paths arch infs = filter_map path_field (packages_in arch infs)

abbrev pub described : Linked → List InfDoc → Result Described Fault
described held infs =
    Ok
    (record {
      «module» = held.«module»;
      infs = infs;
      packages =
          package_paths held.«module».arch infs;
    })

-- a module with its descriptions
unfoldable pub described_in : List (Pair Key Out) → Linked → Result Described Fault
described_in given held = and_then (infs_from given held.paths) (described held)

abbrev pub described_from : List (Pair Key Out) → List Linked → Result (List Described) Fault
described_from given modules = all_ok (map (described_in given) modules)

abbrev pub parts : Described → List Package → Result ModuleParts Fault
parts held packages =
    Ok (record { «module» = held.«module»; infs = held.infs; decs = packages })

-- and with its packages
unfoldable pub parts_in : List (Pair Key Out) → Described → Result ModuleParts Fault
parts_in given held = and_then (packages_from given held.packages) (parts held)

abbrev pub parts_from : List (Pair Key Out) → List Described → Result (List ModuleParts) Fault
parts_from given modules = all_ok (map (parts_in given) modules)
