-- What a run of the words `build ..` does.
use Rattle.std.specs.Prelude.{◌≡◌, ◌⊎◌, None, false, IsOk}
use Rattle.build_base.specs.Outside.{Files}
use Rattle.build_base.specs.World.{World}
use Rattle.edk_build.specs.Outcome.{outcome}
use Rattle.job_fields.specs.Fields.{job_fields}
use Rattle.job_fields.specs.declared.job.Job.{Job}
use Rattle.edk_build.specs.declared.label.Label.{Label}
use Rattle.edk_build.specs.declared.status.Status.{Status}
use Rattle.edk_build.specs.declared.status.Status.TheVariants.{Done, WantOfMemory}

-- what the job's files and fields are in a workspace
abbrev pub world_of : Files → Job → World
world_of files job = record { files = files; fields = job_fields job }

-- outputs go where they are named, and the summary tells no status
abbrev pub plain : Label
plain = record { folder = None; tells_status = false }

-- Where there is no fault and no object failed, the build is done or memory was wanting.
abbrev pub IsComplete : World → Type 0 → Type 0 → Status → Type 0
IsComplete w tree_failed sink_failed status =
    IsOk (outcome w) → (tree_failed → ⊥) → (sink_failed → ⊥) → (status ≡ Done)
    ⊎ (status ≡ WantOfMemory)
