-- The job of a build's words.
use Rattle.std.specs.Prelude.{ℕ, Bool, List, [], ◌∷◌, ◌++◌, map, fold, Option, Some, None, codes, nat_eq, if◌then◌else◌, unwrap_or}
use Rattle.std.specs.Char.{to_ascii_uppercase}
use Rattle.std.specs.Cmp.Lexicographic.{pointwise}
use Rattle.std.specs.List.{list_all, list_any}
use Rattle.std.specs.Option.{option_map}
use Rattle.build_base.specs.Path.{path_field}
use Rattle.clap.specs.Words.{Row, all_of, first_of}
use Rattle.build_words.specs.Command.{is_taken, rows_in}
use Rattle.job_fields.specs.Values.{is_name, is_define, is_setting, is_arch, workers_of}
use Rattle.job_fields.specs.declared.job.Files.{Files}
use Rattle.job_fields.specs.declared.job.Images.{Images}
use Rattle.job_fields.specs.declared.job.Job.{Job}
use Rattle.job_fields.specs.declared.job.Names.{Names}
use Rattle.job_fields.specs.declared.job.Settings.{Settings}

-- the values of an option that may be repeated, in the order of the words
abbrev pub values_of : List ℕ → List Row → List (List ℕ)
values_of name rows = unwrap_or (all_of name rows) []

-- values that all pass a test
abbrev pub each_of : (List ℕ → Bool) → List (List ℕ) → Option (List (List ℕ))
each_of test values = if list_all test values then Some values else None

-- a path that has to be there
abbrev pub needed_path : Option (List ℕ) → Option (List ℕ)
needed_path None = None
needed_path (Some text) = path_field text

-- a path that may be left out
abbrev pub optional_path : Option (List ℕ) → Option (Option (List ℕ))
optional_path None = Some None
optional_path (Some text) = option_map Some (path_field text)

-- a name that may be left out
abbrev pub optional_name : Option (List ℕ) → Option (Option (List ℕ))
optional_name None = Some None
optional_name (Some text) = if is_name text then Some (Some text) else None

abbrev pub files_of : Option (List ℕ) → Option (Option (List ℕ)) → Option (Option (List ℕ))
    → Option Files
files_of (Some platform) (Some flash) (Some report) =
    Some (record { platform = platform; flash = flash; report = report })
files_of _ _ _ = None

unfoldable pub files_in : List Row → Option Files
files_in rows =
    files_of (needed_path (first_of (codes "platform") rows))
    (optional_path (first_of (codes "fdf") rows))
    (optional_path (first_of (codes "report-file") rows))

abbrev pub names_of : Option (Option (List ℕ)) → Option (Option (List ℕ)) → Option (Option (List ℕ))
    → Option Names
names_of (Some target) (Some tag) (Some sku) =
    Some (record { target = target; tag = tag; sku = sku })
names_of _ _ _ = None

unfoldable pub names_in : List Row → Option Names
names_in rows =
    names_of (optional_name (first_of (codes "buildtarget") rows))
    (optional_name (first_of (codes "tagname") rows))
    (optional_name (first_of (codes "sku-id") rows))

abbrev pub has_text : List (List ℕ) → List ℕ → Bool
has_text texts text = list_any (λ other. pointwise nat_eq other text) texts

abbrev pub put_text : List (List ℕ) → List ℕ → List (List ℕ)
put_text texts text = if has_text texts text then texts else texts ++ text ∷ []

abbrev pub put_arch : List (List ℕ) → List ℕ → List (List ℕ)
put_arch arches value = put_text arches (map to_ascii_uppercase value)

-- in upper case, each at its first place
abbrev pub arches_of : List (List ℕ) → List (List ℕ)
arches_of values = fold put_arch [] values

unfoldable pub arches_in : List Row → Option (List (List ℕ))
arches_in rows = option_map arches_of (each_of is_arch (values_of (codes "arch") rows))

abbrev pub settings_of : Option (List (List ℕ)) → Option (List (List ℕ)) → Option Settings
settings_of (Some defines) (Some pcds) = Some (record { defines = defines; pcds = pcds })
settings_of _ _ = None

unfoldable pub settings_in : List Row → Option Settings
settings_in rows =
    settings_of (each_of is_define (values_of (codes "define") rows))
    (each_of is_setting (values_of (codes "pcd") rows))

abbrev pub images_of : Option (List (List ℕ)) → Option (List (List ℕ)) → Option Images
images_of (Some devices) (Some volumes) = Some (record { devices = devices; volumes = volumes })
images_of _ _ = None

unfoldable pub images_in : List Row → Option Images
images_in rows =
    images_of (each_of is_name (values_of (codes "rom-image") rows))
    (each_of is_name (values_of (codes "fv-image") rows))

-- one worker where the words name no number
abbrev pub workers_by : Option (List ℕ) → Option ℕ
workers_by None = Some 1
workers_by (Some text) = workers_of text

abbrev pub job_of : Option Files → Option Names → Option (List (List ℕ)) → Option Settings
    → Option Images → Option ℕ → Option Job
job_of (Some files) (Some names) (Some arches) (Some settings) (Some images) (Some workers) =
    Some
    (record {
      files = files;
      names = names;
      arches = arches;
      settings = settings;
      images =
          images;
      workers = workers;
    })
job_of _ _ _ _ _ _ = None

-- what the command finds is a job where each value passes its check
unfoldable pub job_in : List Row → Option Job
job_in rows =
    job_of (files_in rows) (names_in rows) (arches_in rows) (settings_in rows) (images_in rows)
    (workers_by (first_of (codes "workers") rows))

abbrev pub taken_job : List (List ℕ) → Option Job
taken_job words = if is_taken words then job_in (rows_in words) else None

-- the job of the words `build ..`, or nothing where they aren't in the grammar
unfoldable pub words_job : List (List ℕ) → Option Job
words_job [] = None
words_job (command ∷ options) = if pointwise nat_eq command (codes "build")
    then taken_job (command ∷ options) else None
