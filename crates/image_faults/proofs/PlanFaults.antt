-- Faults of the plan of a module's file have names. What its sections hold are files and texts.
use Rattle.std.proofs.Common.{All, List, None, Ok, Option, Result, Some, [], arith, length, map, refl, slice_get, subst, suc, zero, ℕ, ◌<◌, ◌∷◌, ◌≡◌}
use Rattle.std.proofs.lemmas.List.Elements.{All-head, All-tail}
use Rattle.build_base.specs.First.{and_then, or_else}
use Rattle.build_base.specs.Path.{path_field}
use Rattle.build_base.specs.declared.fault.Fault.{Fault}
use Rattle.build_base.specs.declared.fault.Place.{Place}
use Rattle.build_base.specs.declared.guid.Guid.{Guid}
use Rattle.build_base.specs.declared.lines.Macro.{Macro}
use Rattle.meta_lexer.specs.Faults.{first_fault}
use Rattle.named_faults.proofs.NamedLemmas.{AllFailByName, all_fails, or_else_named, or_fault_fails, then_fails}
use Rattle.named_faults.specs.Named.{FailsByName, IsNamed}
use Rattle.named_faults.proofs.CodeLemmas.{bad_path_named, rule_line_refused_named}
use Rattle.doc_types.specs.declared.arch.Arch.{Arch}
use Rattle.doc_types.specs.declared.flash.FlashDoc.{FlashDoc}
use Rattle.doc_types.specs.declared.module.InfDoc.{InfDoc}
use Rattle.doc_types.specs.declared.module_type.ModuleType.{ModuleType}
use Rattle.doc_types.specs.declared.platform.PlatformDoc.{PlatformDoc}
use Rattle.doc_types.specs.declared.volume.FilePlan.{FilePlan}
use Rattle.doc_types.specs.declared.volume.InfLine.{InfLine}
use Rattle.doc_types.specs.declared.volume.RuleDoc.{RuleDoc}
use Rattle.doc_types.specs.declared.volume.SectionPlan.{SectionPlan}
use Rattle.doc_types.specs.declared.volume.SectionSource.{SectionSource}
use Rattle.doc_types.specs.declared.volume.SectionSource.TheVariants as source
use Rattle.rule_choice.specs.Modules.{inf_arch}
use Rattle.rule_choice.specs.Rules.{rule_of}
use Rattle.image_rebase.proofs.SameLemmas.{past, through}
use Rattle.doc_types.specs.declared.choice.Module.{Module}
use Rattle.file_steps.specs.Names.{fill_names, module_folder, module_guid, own_depex, rule_names}
use Rattle.file_steps.specs.Plans.{file_by, module_of, module_plan, path_filled, plan_by, plan_named, plan_with, refused_section, refused_source, rule_for, rule_found, section_filled, sections_filled, source_filled, stated_text, with_source}
use Rattle.file_steps.specs.declared.plans.ModulePlan.{ModulePlan}
use Rattle.image_faults.proofs.PartLemmas.{all_kept}
use Rattle.image_faults.proofs.RuleFaults.{arch_fails, rule_below, rule_fails}
use Rattle.image_faults.specs.Served.{GuidStands, IsPlanned, IsPlannedFrom, ServesRule, ServesRuleFrom, Serves}

-- The rule of a number.

found_fails : (rules : List RuleDoc) (n : ℕ) → n < length rules → FailsByName (rule_found (slice_get rules n))
found_fails [] n h = absurd (omega (arith, h))
found_fails (rule ∷ rules) zero h = tt
found_fails (rule ∷ rules) (suc n) h = found_fails rules n (omega (arith, h))

rule_for_fails : (flash : FlashDoc) (line : InfLine) (arch : Arch) (kind : ModuleType) → FailsByName (rule_for flash line arch kind)
unfolding rule_for
rule_for_fails flash line arch kind =
    then_fails (rule_of flash.rule_list line arch kind) (λ n. rule_found (slice_get flash.rule_list n)) (rule_fails flash.rule_list line arch kind)
    (λ n e. found_fails flash.rule_list n (rule_below flash.rule_list line arch kind n e))

found_serves : (rules : List RuleDoc) (n : ℕ) (rule : RuleDoc) → All Serves rules → rule_found (slice_get rules n) ≡ Ok rule → Serves rule
found_serves [] n rule a e = absurd cc
found_serves (first ∷ rules) zero rule a e = let k : first ≡ rule = cc in subst Serves k (All-head Serves first rules a)
found_serves (first ∷ rules) (suc n) rule a e = found_serves rules n rule (All-tail Serves first rules a) e

rule_serves : (flash : FlashDoc) (line : InfLine) (arch : Arch) (kind : ModuleType) (rule : RuleDoc) → All Serves flash.rule_list → rule_for flash line arch kind ≡ Ok rule → Serves rule
unfolding rule_for
rule_serves flash line arch kind rule a e =
    through (rule_of flash.rule_list line arch kind) (λ n. rule_found (slice_get flash.rule_list n)) rule e (λ n b c. found_serves flash.rule_list n rule a c)

-- Lines that may not be used.

source_named : (at : Place) (from : SectionSource) → IsNamed (refused_source at from)
source_named at (source.Tree path) = tt
source_named at (source.Template text) = tt
source_named at (source.Volume n) = tt
source_named at (source.Words text) = tt
source_named at (source.Refused text) = rule_line_refused_named

refused_named : (sections : List SectionPlan) → IsNamed (first_fault refused_section sections)
refused_named [] = tt
refused_named (section ∷ sections) =
    or_else_named (refused_section section) (first_fault refused_section sections) (source_named section.at section.source) (refused_named sections)

neither : (a b : Option Fault) → or_else a b ≡ None → (a ≡ None) × (b ≡ None)
neither None b e = (refl, e)
neither (Some fault) b e = absurd cc

-- A section whose names are filled in.

path_fails : (at : Place) (text : List ℕ) (path : Option (List ℕ)) → FailsByName (path_filled at text path)
path_fails at text (Some path) = tt
path_fails at text None = bad_path_named

source_fails : (line : InfLine) (names : List Macro) (section : SectionPlan) (from : SectionSource) → ServesRuleFrom section from → refused_source section.at from ≡ None → FailsByName (source_filled line names section from)
source_fails line names section (source.Tree path) r e = absurd r
source_fails line names section (source.Template text) r e = path_fails section.at (fill_names names text) (path_field (fill_names names text))
source_fails line names section (source.Volume n) r e = absurd r
source_fails line names section (source.Words text) r e = tt
source_fails line names section (source.Refused text) r e = absurd cc

section_fails : (line : InfLine) (names : List Macro) (section : SectionPlan) → ServesRule section → refused_section section ≡ None → FailsByName (section_filled line names section)
section_fails line names section r e =
    then_fails (source_filled line names section section.source) (with_source section) (source_fails line names section section.source r e) (λ from k. tt)

each_fails : (line : InfLine) (names : List Macro) (sections : List SectionPlan) → All ServesRule sections → first_fault refused_section sections ≡ None
    → AllFailByName (map (section_filled line names) sections)
each_fails line names [] a e = tt
each_fails line names (section ∷ sections) a e =
    let n = neither (refused_section section) (first_fault refused_section sections) e in
    (section_fails line names section (All-head ServesRule section sections a) n.0, each_fails line names sections (All-tail ServesRule section sections a) n.1)

sections_fail : (line : InfLine) (names : List Macro) (sections : List SectionPlan) → All ServesRule sections → first_fault refused_section sections ≡ None
    → FailsByName (sections_filled line names sections)
sections_fail line names sections a e = all_fails (map (section_filled line names) sections) (each_fails line names sections a e)

path_planned : (section : SectionPlan) (text : List ℕ) (path : Option (List ℕ)) (from : SectionSource) → GuidStands section → path_filled section.at text path ≡ Ok from → IsPlannedFrom section from
path_planned section text (Some path) from g e = let k : source.Tree path ≡ from = cc in subst (IsPlannedFrom section) k g
path_planned section text None from g e = absurd cc

source_planned : (line : InfLine) (names : List Macro) (section : SectionPlan) (ruled from : SectionSource) → ServesRuleFrom section ruled → source_filled line names section ruled ≡ Ok from → IsPlannedFrom section from
source_planned line names section (source.Tree path) from r e = absurd r
source_planned line names section (source.Template text) from r e = path_planned section (fill_names names text) (path_field (fill_names names text)) from r e
source_planned line names section (source.Volume n) from r e = absurd r
source_planned line names section (source.Words text) from r e =
    let k : source.Words (fill_names names (stated_text line section.kind text)) ≡ from = cc in subst (IsPlannedFrom section) k r
source_planned line names section (source.Refused text) from r e = absurd cc

same_planned : (section : SectionPlan) (from other : SectionSource) → IsPlannedFrom section from → IsPlannedFrom (record section { source = other }) from
same_planned section (source.Tree path) other g = g
same_planned section (source.Template text) other g = g
same_planned section (source.Volume n) other g = g
same_planned section (source.Words text) other g = g
same_planned section (source.Refused text) other g = g

section_planned : (line : InfLine) (names : List Macro) (section filled : SectionPlan) → ServesRule section → section_filled line names section ≡ Ok filled → IsPlanned filled
section_planned line names section filled r e =
    through (source_filled line names section section.source) (with_source section) filled e
    (λ from b c.
    let new : SectionPlan = record section { source = from } in
    let k : new ≡ filled = cc in subst IsPlanned k (same_planned section from from (source_planned line names section section.source from r b)))

-- The plan.

named_fails : (line : InfLine) (m : Module) (guid : Guid) (folder : List ℕ) (inf : InfDoc) (file : FilePlan) → All ServesRule file.sections → first_fault refused_section file.sections ≡ None
    → FailsByName (plan_named line m guid folder inf file)
unfolding plan_named
named_fails line m guid folder inf file a e =
    then_fails (sections_filled line (rule_names guid folder inf) file.sections) (plan_with line m guid (own_depex folder inf) file) (sections_fail line (rule_names guid folder inf) file.sections a e) (λ sections k. tt)

by_fails : (line : InfLine) (platform : PlatformDoc) (m : Module) (folder : List ℕ) (inf : InfDoc) (file : FilePlan) → All ServesRule file.sections → FailsByName (plan_by line platform m folder inf file)
unfolding plan_by
by_fails line platform m folder inf file a =
    let named : Result ModulePlan Fault = plan_named line m (module_guid platform m inf) (module_folder folder m) inf file in
    or_fault_fails (first_fault refused_section file.sections) named (refused_named file.sections) (λ e. named_fails line m (module_guid platform m inf) (module_folder folder m) inf file a e)

pub plan_fails : (flash : FlashDoc) (line : InfLine) (platform : PlatformDoc) (arches : List Arch) (inf : InfDoc) (folder : List ℕ) → All Serves flash.rule_list
    → FailsByName (module_plan flash line platform arches inf folder)
unfolding module_plan
plan_fails flash line platform arches inf folder a =
    let by : Arch → RuleDoc → Result ModulePlan Fault = λ arch rule. plan_by line platform (module_of line arch) folder inf rule.file in
    then_fails (inf_arch line platform.components arches) (λ arch. and_then (rule_for flash line arch inf.module_type) (by arch)) (arch_fails line platform.components arches)
    (λ arch b.
    then_fails (rule_for flash line arch inf.module_type) (by arch) (rule_for_fails flash line arch inf.module_type)
    (λ rule c. by_fails line platform (module_of line arch) folder inf rule.file (rule_serves flash line arch inf.module_type rule a c)))

-- What the sections of a plan hold.

named_planned : (line : InfLine) (m : Module) (guid : Guid) (folder : List ℕ) (inf : InfDoc) (file : FilePlan) (plan : ModulePlan) → All ServesRule file.sections
    → plan_named line m guid folder inf file ≡ Ok plan → All IsPlanned plan.file.sections
unfolding plan_named
named_planned line m guid folder inf file plan a e =
    let names : List Macro = rule_names guid folder inf in
    through (sections_filled line names file.sections) (plan_with line m guid (own_depex folder inf) file) plan e
    (λ sections b c.
    let new : ModulePlan = record { «module» = m; name = guid; depex = own_depex folder inf; file = file_by line file sections } in
    let k : new ≡ plan = cc in
    subst (λ p. All IsPlanned p.file.sections) k (all_kept ServesRule IsPlanned (section_filled line names) file.sections sections (section_planned line names) a b))

pub plan_planned : (flash : FlashDoc) (line : InfLine) (platform : PlatformDoc) (arches : List Arch) (inf : InfDoc) (folder : List ℕ) (plan : ModulePlan) → All Serves flash.rule_list
    → module_plan flash line platform arches inf folder ≡ Ok plan → All IsPlanned plan.file.sections
unfolding module_plan plan_by
plan_planned flash line platform arches inf folder plan a e =
    let by : Arch → RuleDoc → Result ModulePlan Fault = λ arch rule. plan_by line platform (module_of line arch) folder inf rule.file in
    through (inf_arch line platform.components arches) (λ arch. and_then (rule_for flash line arch inf.module_type) (by arch)) plan e
    (λ arch b c.
    through (rule_for flash line arch inf.module_type) (by arch) plan c
    (λ rule d f.
    let m : Module = module_of line arch in
    named_planned line m (module_guid platform m inf) (module_folder folder m) inf rule.file plan (rule_serves flash line arch inf.module_type rule a d)
    (past (first_fault refused_section rule.file.sections) (plan_named line m (module_guid platform m inf) (module_folder folder m) inf rule.file) plan f)))
