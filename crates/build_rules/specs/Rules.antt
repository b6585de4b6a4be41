-- The steps of a build as rules: what each key asks and gives, and its rank. The rule is this
-- project's own.
use Rattle.std.specs.Prelude.{ℕ, ◌+◌, ◌*◌, true, false}
use Rattle.build_base.specs.World.{World}
use Rattle.step_engine.specs.declared.talk.Outcome.{Outcome}
use Rattle.build_stages.specs.Stages.{Staged, meaning_of}
use Rattle.document_stages.specs.Documents.{most_files}
use Rattle.step_pack.specs.Keys.{key_cmp}
use Rattle.step_pack.specs.declared.key.Key.{Key}
use Rattle.step_pack.specs.declared.key.Key.TheVariants as key
use Rattle.step_pack.specs.declared.out.Out.{Out}
use Rattle.job_fields.specs.Readings.{is_job}
use Rattle.step_answers.specs.Fits.{fits}
use Rattle.output_steps.specs.AllTree.{all_stages}
use Rattle.file_steps.specs.FileTrees.{file_stages}
use Rattle.volume_steps.specs.VolumeTrees.{volume_stages, device_stages}
use Rattle.library_steps.specs.ModuleTrees.{most_rounds, choice_stages, pcds_stages, values_stages}
use Rattle.text_steps.specs.TextTrees.{code_stages, depex_stages, report_stages}
use Rattle.volume_steps.specs.VpdTree.{vpd_stages}
pub use Rattle.step_answers.specs.Readers.{AdvancesTo}
use Rattle.step_answers.specs.Readers.{EdkStages}
use Rattle.document_steps.specs.Trees.{dec_stages, inf_stages, platform_stages, flash_stages}

abbrev pub stages_of : Key → EdkStages
stages_of (key.Dec path) = dec_stages path
stages_of (key.Inf path) = inf_stages path
stages_of key.Platform = platform_stages
stages_of key.Flash = flash_stages
stages_of (key.Choice m) = choice_stages m
stages_of key.PlatformPcds = pcds_stages
stages_of (key.Values m) = values_stages m
stages_of (key.Code m) = code_stages m
stages_of (key.Depex m) = depex_stages m
stages_of (key.File v i) = file_stages v i
stages_of (key.Volume v) = volume_stages false v
stages_of (key.Device d) = device_stages d
stages_of key.Report = report_stages
stages_of key.All = all_stages
stages_of key.Vpd = vpd_stages
stages_of (key.Based v) = volume_stages true v

-- a volume's number is below 2^32, so that a device's rank is above those of all volumes
abbrev pub rank_of : Key → ℕ
rank_of (key.Dec path) = 1
rank_of (key.Inf path) = 1
rank_of key.Platform = 2
rank_of key.Flash = 3
rank_of (key.Choice m) = 4
rank_of key.PlatformPcds = 5
rank_of (key.Values m) = 6
rank_of (key.Code m) = 7
rank_of (key.Depex m) = 7
rank_of (key.File v i) = 8 + 2 * v
rank_of (key.Volume v) = 9 + 2 * v
rank_of (key.Device d) = 0x400000000
rank_of key.Report = 0x400000001
rank_of key.All = 0x400000002
rank_of key.Vpd = 6
rank_of (key.Based v) = 9 + 2 * v

-- how many batches each asks at most
abbrev pub most_of : Key → ℕ
most_of (key.Dec path) = most_files
most_of (key.Inf path) = most_files
most_of key.Platform = 1 + most_files
most_of key.Flash = 1 + most_files
most_of (key.Choice m) = 1 + most_rounds
most_of key.PlatformPcds = 4
most_of (key.Values m) = 3
most_of (key.Code m) = 3
most_of (key.Depex m) = 3
most_of (key.File v i) = 3
most_of (key.Volume v) = 2
most_of (key.Device d) = 2
most_of key.Report = 2
most_of key.All = 2
most_of key.Vpd = 1
most_of (key.Based v) = 2

abbrev pub edk : Staged Key Out
edk = record { stages = stages_of; rank = rank_of; most = most_of; fits = fits; is_job = is_job }

-- the value of a step in a world
abbrev pub value_in : World → Key → Outcome Out
value_in w k = (meaning_of key_cmp edk).value k w
