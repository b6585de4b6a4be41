-- The ten fields of a job: the platform's file, architectures, target, tag, SKU, macros, PCDs, the
-- flash description's file, the images wanted, and the report's file. What is left out is empty,
-- and line feeds join what is repeated. The rule is this project's own.
use Rattle.std.specs.Prelude.{ℕ, List, [], ◌∷◌, ◌++◌, map, Option, codes, unwrap_or, slice_index_or}
use Rattle.std.specs.List.{join_with_byte}
use Rattle.job_fields.specs.declared.job.Images.{Images}
use Rattle.job_fields.specs.declared.job.Job.{Job}

-- their numbers
abbrev pub PLATFORM : ℕ
PLATFORM = 0

abbrev pub ARCHES : ℕ
ARCHES = 1

abbrev pub TARGET : ℕ
TARGET = 2

abbrev pub TAG : ℕ
TAG = 3

abbrev pub SKU : ℕ
SKU = 4

abbrev pub DEFINES : ℕ
DEFINES = 5

abbrev pub PCDS : ℕ
PCDS = 6

abbrev pub FLASH : ℕ
FLASH = 7

abbrev pub IMAGES : ℕ
IMAGES = 8

abbrev pub REPORT : ℕ
REPORT = 9

abbrev pub or_empty : Option (List ℕ) → List ℕ
or_empty text = unwrap_or text []

-- a line `fd NAME` for each device, and then a line `fv NAME` for each volume
unfoldable pub image_lines : Images → List (List ℕ)
image_lines images = map (λ name. codes "fd " ++ name) images.devices
    ++ map (λ name. codes "fv " ++ name) images.volumes

abbrev pub fields_of : Job → List (List ℕ)
fields_of job =
    job.files.platform ∷ join_with_byte 10 job.arches ∷ or_empty job.names.target
    ∷ or_empty job.names.tag ∷ or_empty job.names.sku
    ∷ join_with_byte 10 job.settings.defines ∷ join_with_byte 10 job.settings.pcds
    ∷ or_empty job.files.flash ∷ join_with_byte 10 (image_lines job.images)
    ∷ or_empty job.files.report ∷ []

-- how many workers a job has is no field
unfoldable pub job_fields : Job → List (List ℕ)
job_fields job = fields_of job

-- a field of a job, by its number
abbrev pub field_of : Job → ℕ → List ℕ
field_of job number = slice_index_or (job_fields job) number []
