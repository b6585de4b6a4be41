-- What the step of a FILE statement asks, once the flash description is known; the rule is this
-- project's own. What its statements mean is told by the EDK II FDF specification.
use Rattle.step_answers.specs.Volumes.{volume_step}
use Rattle.std.specs.Prelude.{ℕ, Bool, true, nat_lt, List, [], ◌∷◌, ◌++◌, Option, Some, None}
use Rattle.std.specs.List.{flat_map, list_all}
use Rattle.step_engine.specs.declared.talk.Ask.{Ask}
use Rattle.step_engine.specs.declared.talk.Ask.TheVariants as ask
use Rattle.doc_types.specs.declared.volume.FilePlan.{FilePlan}
use Rattle.doc_types.specs.declared.volume.SectionPlan.{SectionPlan}
use Rattle.doc_types.specs.declared.volume.SectionSource.{SectionSource}
use Rattle.doc_types.specs.declared.volume.SectionSource.TheVariants as source
use Rattle.doc_types.specs.declared.volume.VolumePlan.{VolumePlan}
use Rattle.step_pack.specs.declared.key.Key.{Key}

-- the file that a section asks for
abbrev pub source_file : SectionSource → List (Ask Key)
source_file (source.Tree path) = ask.File path ∷ []
source_file (source.Template text) = []
source_file (source.Volume n) = []
source_file (source.Words text) = []
source_file (source.Refused text) = []

-- the volume that it asks for
abbrev pub source_volume : List VolumePlan → SectionSource → List (Ask Key)
source_volume volumes (source.Tree path) = []
source_volume volumes (source.Template text) = []
source_volume volumes (source.Volume n) = ask.Part (volume_step volumes n) ∷ []
source_volume volumes (source.Words text) = []
source_volume volumes (source.Refused text) = []

abbrev pub section_files : List SectionPlan → List (Ask Key)
section_files sections = flat_map (λ section. source_file section.source) sections

abbrev pub section_volumes : List VolumePlan → List SectionPlan → List (Ask Key)
section_volumes volumes sections =
    flat_map (λ section. source_volume volumes section.source) sections

-- the file that is the whole body, or else the files of the sections in their order, and then the
-- volumes
abbrev pub body_asks : List VolumePlan → List SectionPlan → Option (List ℕ) → List (Ask Key)
body_asks volumes sections (Some path) = ask.File path ∷ []
body_asks volumes sections None = section_files sections ++ section_volumes volumes sections

abbrev pub file_asks : List VolumePlan → FilePlan → List (Ask Key)
file_asks volumes plan = body_asks volumes plan.sections plan.whole

-- a section of a volume names volumes below it alone
abbrev pub source_below : ℕ → SectionSource → Bool
source_below volume (source.Tree path) = true
source_below volume (source.Template text) = true
source_below volume (source.Volume n) = nat_lt n volume
source_below volume (source.Words text) = true
source_below volume (source.Refused text) = true

abbrev pub sections_below : ℕ → List SectionPlan → Bool
sections_below volume sections = list_all (λ section. source_below volume section.source) sections
