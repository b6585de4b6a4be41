-- What the steps of modules in volumes ask; the rule is this project's own.
use Rattle.std.specs.Prelude.{ℕ, Bool, false, nat_eq, if◌then◌else◌, List, [], ◌∷◌, ◌++◌}
use Rattle.std.specs.Cmp.Lexicographic.{pointwise}
use Rattle.std.specs.List.{flat_map, list_any}
use Rattle.step_engine.specs.declared.talk.Ask.{Ask}
use Rattle.step_engine.specs.declared.talk.Ask.TheVariants as ask
use Rattle.doc_types.specs.declared.volume.InfLine.{InfLine}
use Rattle.doc_types.specs.declared.volume.Member.{Member}
use Rattle.doc_types.specs.declared.volume.Member.TheVariants as member
use Rattle.doc_types.specs.declared.volume.SectionPlan.{SectionPlan}
use Rattle.doc_types.specs.declared.volume.SectionSource.{SectionSource}
use Rattle.doc_types.specs.declared.volume.SectionSource.TheVariants as source
use Rattle.job_fields.specs.Fields.{ARCHES, TARGET, TAG}
use Rattle.step_pack.specs.declared.key.Key.{Key}
use Rattle.step_pack.specs.declared.key.Key.TheVariants as key
use Rattle.file_steps.specs.declared.plans.ModulePlan.{ModulePlan}

-- of the module that a statement names: the platform, the module's description, the architectures,
-- the target and the tag
abbrev pub line_asks : InfLine → List (Ask Key)
line_asks line =
    ask.Part key.Platform ∷ ask.Part (key.Inf line.inf) ∷ ask.Field ARCHES ∷ ask.Field TARGET ∷ ask.Field TAG
    ∷ []

abbrev pub member_asks : Member → List (Ask Key)
member_asks (member.Inf line) = line_asks line
member_asks (member.File name) = []

-- of the members of an a priori file, in their order
abbrev pub members_asks : List Member → List (Ask Key)
members_asks members = flat_map member_asks members

-- a path is that of the module's own expression
abbrev pub is_path_of : List ℕ → List ℕ → Bool
is_path_of depex path = pointwise nat_eq path depex

-- the file that a section asks for: its own, but for the module's expression
abbrev pub source_file : List ℕ → SectionSource → List (Ask Key)
source_file depex (source.Tree path) = if is_path_of depex path then [] else ask.File path ∷ []
source_file depex (source.Template text) = []
source_file depex (source.Volume n) = []
source_file depex (source.Words text) = []
source_file depex (source.Refused text) = []

abbrev pub section_files : List ℕ → List SectionPlan → List (Ask Key)
section_files depex sections = flat_map (λ section. source_file depex section.source) sections

abbrev pub is_source_of : List ℕ → SectionSource → Bool
is_source_of path (source.Tree other) = is_path_of path other
is_source_of path (source.Template text) = false
is_source_of path (source.Volume n) = false
is_source_of path (source.Words text) = false
is_source_of path (source.Refused text) = false

-- some section holds the module's own expression
abbrev pub takes_depex : List ℕ → List SectionPlan → Bool
takes_depex depex sections = list_any (λ section. is_source_of depex section.source) sections

-- the files of the sections in their order, and then the module's expression where a section holds
-- it
abbrev pub plan_asks : ModulePlan → List (Ask Key)
plan_asks plan =
    section_files plan.depex plan.file.sections
    ++ (if takes_depex plan.depex plan.file.sections then ask.Part (key.Depex plan.«module») ∷ []
    else [])
