-- Where a step of a document, of libraries, of PCDs or of texts fails in a world, the fault has a name.
use Rattle.std.proofs.Common.{◌≡◌, ◌≤◌, arith, codes, ℕ, zero, suc, Bool, true, false, List, [], ◌∷◌, length, map, Option, Some, None, Result, Ok, Err}
use Rattle.build_base.specs.First.{and_then, all_ok}
use Rattle.build_base.specs.World.{World, got, field}
use Rattle.build_base.specs.declared.fault.Fault.{Fault}
use Rattle.build_base.specs.declared.lines.Lines.{Lines}
use Rattle.build_base.specs.declared.lines.Macro.{Macro}
use Rattle.macro_conditions.specs.Expansion.{Stop, bad, need, expansion}
use Rattle.macro_conditions.specs.Worlds.{told}
use Rattle.dec_docs.specs.Package.{package_of}
use Rattle.inf_docs.specs.Modules.{module_of}
use Rattle.dsc_platform.specs.Platform.{platform_of}
use Rattle.flash_document.specs.Flash.{flash_of}
use Rattle.doc_types.specs.declared.choice.Choice.{Choice}
use Rattle.doc_types.specs.declared.choice.Module.{Module}
use Rattle.doc_types.specs.declared.module.InfDoc.{InfDoc}
use Rattle.doc_types.specs.declared.platform.PlatformDoc.{PlatformDoc}
use Rattle.step_answers.specs.VpdLines.{has_vpd}
use Rattle.step_answers.specs.Folders.{path_below, output_folder}
use Rattle.document_stages.specs.Worlds.{world_lines}
use Rattle.library_choice.specs.Choices.{choice}
use Rattle.library_choice.specs.Closure.{wanted}
use Rattle.library_steps.specs.ModuleTrees.{most_rounds}
use Rattle.library_steps.specs.Choices.{alone, behind}
use Rattle.library_steps.specs.Parts.{held_package, linked, linked_module, described, parts}
use Rattle.library_steps.specs.Pcds.{platform_ask, module_ask, pcds_given, values_given}
use Rattle.step_answers.specs.Settings.{arches_built, command_line_pcds, setting_of}
use Rattle.library_steps.specs.declared.parts.Described.{Described}
use Rattle.library_steps.specs.declared.parts.Linked.{Linked}
use Rattle.volume_steps.specs.VolumeTrees.{vpd_where, vpd_path}
use Rattle.volume_steps.specs.VpdTree.{placed_vpd}
use Rattle.text_steps.specs.Code.{code_given}
use Rattle.text_steps.specs.Depex.{depex_given}
use Rattle.text_steps.specs.Report.{module_report, report_modules, text_of}
use Rattle.text_steps.specs.declared.report.Heading.{Heading}
use Rattle.named_faults.specs.Named.{FailsByName}
use Rattle.named_faults.proofs.NamedLemmas.{then_fails, all_fails, mapped_fails}
use Rattle.text_faults.proofs.ExpansionFaults.{StopsByName, expansion_stops}
use Rattle.text_faults.proofs.PackageFaults.{package_fails}
use Rattle.text_faults.proofs.ModuleFaults.{module_fails}
use Rattle.platform_faults.proofs.PlatformFaults.{platform_fails}
use Rattle.platform_faults.proofs.FlashFaults.{flash_fails}
use Rattle.module_faults.specs.Folders.{folder_limit}
use Rattle.module_faults.proofs.FolderLemmas.{below_fails, folder_fails, folder_short}
use Rattle.module_faults.proofs.LibraryLemmas.{choice_fails}
use Rattle.module_faults.proofs.OutputLemmas.{bin_field}
use Rattle.module_faults.proofs.PcdLemmas as pcds
use Rattle.module_faults.proofs.PlatformLemmas.{PlatformFits, platform_fits}
use Rattle.module_faults.proofs.SettingLemmas.{built_fails, commands_fail, setting_fails, report_fails}
use Rattle.module_faults.proofs.TextLemmas.{texts_fail, depex_fails, module_own}
use Rattle.module_faults.proofs.VpdLemmas.{vpd_fails}
use Rattle.build_faults.specs.NamedFaults.{IsSpoken}
use Rattle.build_rules.specs.Values.{lines_in, dec_value, inf_value, job_macros, platform_value, flash_file, flash_of_file, flash_value}
use Rattle.build_laws.specs.ModuleValues.{infs_value, chosen_by, chosen_after, choice_value, linked_value, described_value, package_value, packages_value, parts_value, modules_value, pcds_value, module_value, values_value}
use Rattle.build_laws.specs.TextValues.{code_value, depex_value, told_value, told_text, heading_value, report_value}
use Rattle.build_laws.specs.VpdValues.{vpd_value}

-- Documents.

lines_fail : (w : World) (path : List ℕ) (macros fixed : List Macro) → FailsByName (lines_in w path macros fixed)
lines_fail w path macros fixed = by (expansion (told (got w)) path macros fixed) (expansion_stops (got w) path macros fixed)
  where
    by : (r : Result Lines Stop) → StopsByName r → FailsByName (world_lines r)
    by (Ok lines) n = tt
    by (Err (bad fault)) n = n
    by (Err (need path)) n = absurd n

pub dec_fails : (w : World) (path : List ℕ) → FailsByName (dec_value w path)
dec_fails w path = then_fails (lines_in w path [] []) package_of (lines_fail w path [] []) (λ lines e. package_fails lines)

pub inf_fails : (w : World) (path : List ℕ) → FailsByName (inf_value w path)
inf_fails w path = then_fails (lines_in w path [] []) module_of (lines_fail w path [] []) (λ lines e. module_fails lines)

pub platform_value_fails : (w : World) → FailsByName (platform_value w)
platform_value_fails w = then_fails (lines_in w (field w 0) [] (job_macros w)) platform_of (lines_fail w (field w 0) [] (job_macros w)) (λ lines e. platform_fails lines)

flash_file_fails : (w : World) (platform : PlatformDoc) (path : Option (List ℕ)) → FailsByName (flash_of_file w platform path)
flash_file_fails w platform None = tt
flash_file_fails w platform (Some path) =
    then_fails (lines_in w path platform.macros (job_macros w)) flash_of (lines_fail w path platform.macros (job_macros w)) (λ lines e. flash_fails lines)

pub flash_value_fails : (w : World) → FailsByName (flash_value w)
unfolding flash_value
flash_value_fails w =
    then_fails (platform_value w) (λ platform. flash_of_file w platform (flash_file platform.flash (field w 7))) (platform_value_fails w)
    (λ platform e. flash_file_fails w platform (flash_file platform.flash (field w 7)))

lines_fit : (lines : Result Lines Fault) (platform : PlatformDoc) → and_then lines platform_of ≡ Ok platform → PlatformFits platform
lines_fit (Ok lines) platform e = platform_fits lines platform e
lines_fit (Err fault) platform e = absurd cc

-- the platform of a world has paths where its lines state them
pub platform_value_fits : (w : World) (platform : PlatformDoc) → platform_value w ≡ Ok platform → PlatformFits platform
platform_value_fits w platform e = lines_fit (lines_in w (field w 0) [] (job_macros w)) platform e

-- Libraries.

infs_fail : (w : World) (paths : List (List ℕ)) → FailsByName (infs_value w paths)
infs_fail w paths = all_fails (map (inf_value w) paths) (mapped_fails (inf_value w) paths (inf_fails w))

chosen_by_fails : (w : World) (m : Module) (platform : PlatformDoc) (infs : List InfDoc) (paths : List (List ℕ)) (next : List InfDoc → Result Choice Fault)
    → ((known : List InfDoc) → FailsByName (next known)) → FailsByName (chosen_by w m platform infs paths next)
chosen_by_fails w m platform infs [] next n = choice_fails m platform infs
chosen_by_fails w m platform infs (path ∷ paths) next n =
    then_fails (and_then (infs_value w (path ∷ paths)) (behind infs)) next
    (then_fails (infs_value w (path ∷ paths)) (behind infs) (infs_fail w (path ∷ paths)) (λ more e. tt)) (λ known e. n known)

chosen_fails : (w : World) (n : ℕ) (m : Module) (platform : PlatformDoc) (infs : List InfDoc) → FailsByName (chosen_after w n m platform infs)
unfolding chosen_after
chosen_fails w zero m platform infs = choice_fails m platform infs
chosen_fails w (suc n) m platform infs = chosen_by_fails w m platform infs (wanted m platform infs) (chosen_after w n m platform) (chosen_fails w n m platform)

pub choice_value_fails : (w : World) (m : Module) → FailsByName (choice_value w m)
unfolding choice_value
choice_value_fails w m =
    then_fails (platform_value w) (λ platform. and_then (and_then (inf_value w m.inf) alone) (λ infs. chosen_after w most_rounds m platform infs)) (platform_value_fails w)
    (λ platform e.
    then_fails (and_then (inf_value w m.inf) alone) (λ infs. chosen_after w most_rounds m platform infs)
    (then_fails (inf_value w m.inf) alone (inf_fails w m.inf) (λ inf f. tt)) (λ infs f. chosen_fails w most_rounds m platform infs))

-- Descriptions and packages.

linked_fails : (w : World) (m : Module) → FailsByName (linked_value w m)
linked_fails w m = then_fails (choice_value w m) (linked m) (choice_value_fails w m) (λ choice e. tt)

described_fails : (w : World) (held : Linked) → FailsByName (described_value w held)
described_fails w held = then_fails (infs_value w held.paths) (described held) (infs_fail w held.paths) (λ infs e. tt)

package_value_fails : (w : World) (path : List ℕ) → FailsByName (package_value w path)
package_value_fails w path = then_fails (dec_value w path) (held_package path) (dec_fails w path) (λ dec e. tt)

packages_fail : (w : World) (paths : List (List ℕ)) → FailsByName (packages_value w paths)
packages_fail w paths = all_fails (map (package_value w) paths) (mapped_fails (package_value w) paths (package_value_fails w))

parts_fail : (w : World) (held : Described) → FailsByName (parts_value w held)
parts_fail w held = then_fails (packages_value w held.packages) (parts held) (packages_fail w held.packages) (λ packages e. tt)

modules_value_fail : (w : World) (modules : List Module) → FailsByName (modules_value w modules)
unfolding modules_value
modules_value_fail w modules =
    then_fails (all_ok (map (linked_value w) modules)) (λ linked. and_then (all_ok (map (described_value w) linked)) (λ described. all_ok (map (parts_value w) described)))
    (all_fails (map (linked_value w) modules) (mapped_fails (linked_value w) modules (linked_fails w)))
    (λ linked e.
    then_fails (all_ok (map (described_value w) linked)) (λ described. all_ok (map (parts_value w) described))
    (all_fails (map (described_value w) linked) (mapped_fails (described_value w) linked (described_fails w)))
    (λ described f. all_fails (map (parts_value w) described) (mapped_fails (parts_value w) described (parts_fail w))))

module_value_fails : (w : World) (m : Module) (choice : Choice) → FailsByName (module_value w m choice)
unfolding module_value
module_value_fails w m choice =
    then_fails (described_value w (linked_module m choice)) (parts_value w) (described_fails w (linked_module m choice)) (λ held e. parts_fail w held)

-- PCDs.

pub pcds_value_fail : (w : World) → IsSpoken w → FailsByName (pcds_value w)
unfolding pcds_value
pcds_value_fail w s =
    then_fails (platform_value w) _ (platform_value_fails w)
    (λ platform e.
    then_fails (flash_value w) _ (flash_value_fails w)
    (λ flash f.
    then_fails (setting_of platform (field w 1) (field w 4) (field w 6)) _ (setting_fails platform (field w 1) (field w 4) (field w 6) s.arches s.sets)
    (λ setting g.
    then_fails (modules_value w setting.modules) (pcds_given platform flash setting) (modules_value_fail w setting.modules)
    (λ modules h. pcds.platform_fails (platform_ask platform flash setting modules)))))

pub values_value_fail : (w : World) (m : Module) → IsSpoken w → FailsByName (values_value w m)
unfolding values_value
values_value_fail w m s =
    then_fails (platform_value w) _ (platform_value_fails w)
    (λ platform e.
    then_fails (flash_value w) _ (flash_value_fails w)
    (λ flash f.
    then_fails (pcds_value w) _ (pcds_value_fail w s)
    (λ dynamic g.
    then_fails (choice_value w m) _ (choice_value_fails w m)
    (λ choice h.
    then_fails (command_line_pcds platform.at (field w 6)) _ (commands_fail platform.at (field w 6) s.sets)
    (λ commands i.
    then_fails (module_value w m choice) (values_given platform flash commands dynamic) (module_value_fails w m choice)
    (λ held j. pcds.module_fails (module_ask platform flash commands dynamic held)))))))

-- Texts, expressions and the report.

pub code_value_fails : (w : World) (m : Module) → IsSpoken w → FailsByName (code_value w m)
unfolding code_value module_value
code_value_fails w m s =
    then_fails (platform_value w) _ (platform_value_fails w)
    (λ platform e.
    then_fails (choice_value w m) _ (choice_value_fails w m)
    (λ choice f.
    then_fails (values_value w m) _ (values_value_fail w m s)
    (λ values g.
    then_fails (module_value w m choice) (code_given platform choice values) (module_value_fails w m choice)
    (λ held h. texts_fail platform choice values held (module_own m choice (inf_value w) (packages_value w) held h)))))

pub depex_value_fails : (w : World) (m : Module) → FailsByName (depex_value w m)
unfolding depex_value module_value
depex_value_fails w m =
    then_fails (choice_value w m) _ (choice_value_fails w m)
    (λ choice e.
    then_fails (module_value w m choice) (depex_given choice) (module_value_fails w m choice)
    (λ held f. depex_fails choice held (module_own m choice (inf_value w) (packages_value w) held f)))

told_value_fails : (w : World) (m : Module) → IsSpoken w → FailsByName (told_value w m)
told_value_fails w m s =
    then_fails (choice_value w m) _ (choice_value_fails w m) (λ choice e. then_fails (values_value w m) (module_report m choice) (values_value_fail w m s) (λ values f. tt))

told_text_fails : (w : World) (platform : PlatformDoc) (heading : Heading) (modules : List Module) → IsSpoken w → FailsByName (told_text w platform heading modules)
told_text_fails w platform heading modules s =
    then_fails (pcds_value w) _ (pcds_value_fail w s)
    (λ dynamic e.
    then_fails (all_ok (map (told_value w) modules)) (text_of platform heading dynamic)
    (all_fails (map (told_value w) modules) (mapped_fails (told_value w) modules (λ m. told_value_fails w m s))) (λ reports f. tt))

pub report_value_fails : (w : World) → IsSpoken w → FailsByName (report_value w)
unfolding report_value
report_value_fails w s =
    then_fails (platform_value w) _ (platform_value_fails w)
    (λ platform e.
    then_fails (report_modules platform (field w 1)) (told_text w platform (heading_value w platform)) (report_fails platform (field w 1) s.arches)
    (λ modules f. told_text_fails w platform (heading_value w platform) modules s))

-- Vital product data.

pub vpd_value_fails : (w : World) → IsSpoken w → FailsByName (vpd_value w)
unfolding vpd_value
vpd_value_fails w s =
    then_fails (platform_value w) _ (platform_value_fails w)
    (λ platform e.
    then_fails (pcds_value w) _ (pcds_value_fail w s)
    (λ values f.
    then_fails (arches_built platform (field w 1)) (placed_vpd platform values) (built_fails platform (field w 1) s.arches)
    (λ arches g. vpd_fails (record { platform = platform; values = values; arches = arches }))))

where_fails : (is : Bool) (folder : Result (List ℕ) Fault) → FailsByName folder → ((below : List ℕ) → folder ≡ Ok below → FailsByName (path_below below (codes "FV/VPD.bin")))
    → FailsByName (vpd_where is folder)
where_fails false folder n m = tt
where_fails true folder n m =
    then_fails folder _ n (λ below e. then_fails (path_below below (codes "FV/VPD.bin")) (λ path. Ok (Some path)) (m below e) (λ path f. tt))

pub vpd_path_fails : (w : World) (platform : PlatformDoc) → IsSpoken w → PlatformFits platform → FailsByName (vpd_path platform (field w 2) (field w 3))
vpd_path_fails w platform s p =
    where_fails (has_vpd platform) (output_folder platform.output (field w 2) (field w 3)) (folder_fails platform.output (field w 2) (field w 3) p.output s.target s.tag)
    (λ below e.
    let short : length below ≤ folder_limit = folder_short platform.output (field w 2) (field w 3) below p.output s.target s.tag e in
    below_fails below (codes "FV/VPD.bin") bin_field (omega (arith, short)))
