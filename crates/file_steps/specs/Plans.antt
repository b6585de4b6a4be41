-- The file of a module by its rule (EDK II FDF specification, INF statements and [Rule] sections).
use Rattle.std.specs.Prelude.{ℕ, ◌==◌, if◌then◌else◌, List, map, Option, Some, None, unwrap_or, slice_get, Result, Ok, Err}
use Rattle.build_base.specs.declared.fault.Fault.{Fault}
use Rattle.build_base.specs.declared.fault.Place.{Place}
use Rattle.build_base.specs.declared.guid.Guid.{Guid}
use Rattle.build_base.specs.declared.lines.Macro.{Macro}
use Rattle.build_base.specs.FaultText.{fault_of}
use Rattle.build_base.specs.First.{and_then, or_fault, all_ok}
use Rattle.build_base.specs.Path.{path_field}
use Rattle.build_stages.specs.Stages.{impossible_answer}
use Rattle.meta_lexer.specs.Faults.{first_fault}
use Rattle.doc_types.specs.Standard.{EFI_SECTION_VERSION, EFI_SECTION_USER_INTERFACE}
use Rattle.doc_types.specs.declared.arch.Arch.{Arch}
use Rattle.doc_types.specs.declared.choice.Module.{Module}
use Rattle.doc_types.specs.declared.flash.FlashDoc.{FlashDoc}
use Rattle.doc_types.specs.declared.module.InfDoc.{InfDoc}
use Rattle.doc_types.specs.declared.module_type.ModuleType.{ModuleType}
use Rattle.doc_types.specs.declared.platform.PlatformDoc.{PlatformDoc}
use Rattle.doc_types.specs.declared.volume.FilePlan.{FilePlan}
use Rattle.doc_types.specs.declared.volume.InfLine.{InfLine}
use Rattle.doc_types.specs.declared.volume.RuleDoc.{RuleDoc}
use Rattle.doc_types.specs.declared.volume.SectionPlan.{SectionPlan}
use Rattle.doc_types.specs.declared.volume.SectionSource.{SectionSource}
use Rattle.doc_types.specs.declared.volume.SectionSource.TheVariants as source
use Rattle.rule_choice.specs.Modules.{inf_arch}
use Rattle.rule_choice.specs.Rules.{rule_of}
use Rattle.file_steps.specs.declared.plans.ModulePlan.{ModulePlan}
use Rattle.file_steps.specs.Names.{module_folder, module_guid, rule_names, fill_names, own_depex}
use Rattle.build_base.specs.FaultCodes.{BAD_PATH, RULE_LINE_REFUSED}

abbrev pub rule_found : Option RuleDoc → Result RuleDoc Fault
rule_found (Some rule) = Ok rule
rule_found None = Err impossible_answer

-- the rule for the module of a statement, or the fault that there is none
unfoldable pub rule_for : FlashDoc → InfLine → Arch → ModuleType → Result RuleDoc Fault
rule_for flash line arch kind =
    and_then (rule_of flash.rule_list line arch kind)
    (λ n. rule_found (slice_get flash.rule_list n))

-- a line that may stand but not be used
abbrev pub refused_source : Place → SectionSource → Option Fault
refused_source at (source.Tree path) = None
refused_source at (source.Template text) = None
refused_source at (source.Volume n) = None
refused_source at (source.Words text) = None
refused_source at (source.Refused text) = Some (fault_of RULE_LINE_REFUSED at text)

abbrev pub refused_section : SectionPlan → Option Fault
refused_section section = refused_source section.at section.source

-- what the statement gives in place of the text of a version or a user interface section
abbrev pub stated_text : InfLine → ℕ → List ℕ → List ℕ
stated_text line kind text =
    if kind == EFI_SECTION_VERSION then unwrap_or line.version text
    else if kind == EFI_SECTION_USER_INTERFACE then unwrap_or line.ui text
    else text

abbrev pub path_filled : Place → List ℕ → Option (List ℕ) → Result SectionSource Fault
path_filled at text (Some path) = Ok (source.Tree path)
path_filled at text None = Err (fault_of BAD_PATH at text)

-- a path in which the names are filled in has to be one
abbrev pub template_filled : Place → List ℕ → Result SectionSource Fault
template_filled at text = path_filled at text (path_field text)

-- what a section of the rule holds for a module; other forms aren't a rule's, or are refused before
abbrev pub source_filled : InfLine → List Macro → SectionPlan → SectionSource
    → Result SectionSource Fault
source_filled line names section (source.Tree path) = Err impossible_answer
source_filled line names section (source.Template text) =
    template_filled section.at (fill_names names text)
source_filled line names section (source.Volume n) = Err impossible_answer
source_filled line names section (source.Words text) =
    Ok (source.Words (fill_names names (stated_text line section.kind text)))
source_filled line names section (source.Refused text) = Err impossible_answer

abbrev pub with_source : SectionPlan → SectionSource → Result SectionPlan Fault
with_source section filled_source = Ok (record section { source = filled_source })

abbrev pub section_filled : InfLine → List Macro → SectionPlan → Result SectionPlan Fault
section_filled line names section =
    and_then (source_filled line names section section.source) (with_source section)

-- the sections of the rule for a module, or the first filled path that is none
abbrev pub sections_filled : InfLine → List Macro → List SectionPlan
    → Result (List SectionPlan) Fault
sections_filled line names sections = all_ok (map (section_filled line names) sections)

-- the rule's file, which stands at the statement
abbrev pub file_by : InfLine → FilePlan → List SectionPlan → FilePlan
file_by line file sections = record file { at = line.at; sections = sections }

abbrev pub plan_with : InfLine → Module → Guid → List ℕ → FilePlan → List SectionPlan
    → Result ModulePlan Fault
plan_with line m guid depex file sections =
    Ok (record { «module» = m; name = guid; depex = depex; file = file_by line file sections })

-- the file by the rule's file, of a module of this GUID whose outputs stand in this folder
unfoldable pub plan_named : InfLine → Module → Guid → List ℕ → InfDoc → FilePlan
    → Result ModulePlan Fault
plan_named line m guid folder inf file =
    and_then (sections_filled line (rule_names guid folder inf) file.sections)
    (plan_with line m guid (own_depex folder inf) file)

-- where no line of the rule is refused
unfoldable pub plan_by : InfLine → PlatformDoc → Module → List ℕ → InfDoc → FilePlan
    → Result ModulePlan Fault
plan_by line platform m folder inf file =
    or_fault (first_fault refused_section file.sections)
    (plan_named line m (module_guid platform m inf) (module_folder folder m) inf file)

abbrev pub module_of : InfLine → Arch → Module
module_of line arch = record { arch = arch; inf = line.inf }

-- The file of the module that a statement names, by the built architectures, the module's
-- description and the folder of all outputs. The first fault is that of the architecture, that
-- there is no rule, that of a line of the rule that may not be used, or that of a path.
unfoldable pub module_plan : FlashDoc → InfLine → PlatformDoc → List Arch → InfDoc → List ℕ
    → Result ModulePlan Fault
module_plan flash line platform arches inf folder =
    and_then (inf_arch line platform.components arches) (λ arch.
    and_then (rule_for flash line arch inf.module_type)
    (λ rule. plan_by line platform (module_of line arch) folder inf rule.file))
