-- Values that are all there.
use Rattle.std.specs.Prelude.{ℕ, List, Option, Some, None}
use Rattle.std.specs.Option.{option_map}
use Rattle.job_fields.specs.declared.job.Files.{Files}
use Rattle.job_fields.specs.declared.job.Images.{Images}
use Rattle.job_fields.specs.declared.job.Job.{Job}
use Rattle.job_fields.specs.declared.job.Names.{Names}
use Rattle.job_fields.specs.declared.job.Settings.{Settings}

abbrev pub both : {A B : Type 0} → Option A → Option B → Option (A × B)
both (Some a) (Some b) = Some (a, b)
both (Some a) None = None
both None second = None

abbrev pub Parts : Type 0
Parts = ((Files × Names) × List (List ℕ)) × ((Settings × Images) × ℕ)

abbrev pub job_with : Parts → Job
job_with parts =
    record {
      files = parts.0.0.0;
      names = parts.0.0.1;
      arches = parts.0.1;
      settings = parts.1.0.0;
      images = parts.1.0.1;
      workers = parts.1.1;
    }

abbrev pub job_by : Option (Files × Names) → Option (List (List ℕ)) → Option (Settings × Images)
    → Option ℕ → Option Job
job_by named arches wished workers =
    option_map job_with (both (both named arches) (both wished workers))
