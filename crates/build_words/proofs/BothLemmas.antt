-- What needs all of its values is made of all, two by two.
use Rattle.std.proofs.Common.{◌≡◌, refl, ℕ, List, Option, Some, None}
use Rattle.std.specs.Option.{option_map}
use Rattle.job_fields.specs.declared.job.Files.{Files}
use Rattle.job_fields.specs.declared.job.Images.{Images}
use Rattle.job_fields.specs.declared.job.Names.{Names}
use Rattle.job_fields.specs.declared.job.Settings.{Settings}
use Rattle.build_words.specs.Both.{both, job_by}
use Rattle.build_words.specs.Jobs.{files_of, names_of, settings_of, images_of, job_of}

abbrev files_with : (List ℕ × Option (List ℕ)) × Option (List ℕ) → Files
files_with x = record { platform = x.0.0; flash = x.0.1; report = x.1 }

pub files_of_both : (platform : Option (List ℕ)) (flash report : Option (Option (List ℕ))) → files_of platform flash report ≡ option_map files_with (both (both platform flash) report)
files_of_both None flash report = refl
files_of_both (Some p) None report = refl
files_of_both (Some p) (Some f) None = refl
files_of_both (Some p) (Some f) (Some r) = refl

abbrev names_with : (Option (List ℕ) × Option (List ℕ)) × Option (List ℕ) → Names
names_with x = record { target = x.0.0; tag = x.0.1; sku = x.1 }

pub names_of_both : (target tag sku : Option (Option (List ℕ))) → names_of target tag sku ≡ option_map names_with (both (both target tag) sku)
names_of_both None tag sku = refl
names_of_both (Some t) None sku = refl
names_of_both (Some t) (Some g) None = refl
names_of_both (Some t) (Some g) (Some s) = refl

abbrev settings_with : List (List ℕ) × List (List ℕ) → Settings
settings_with x = record { defines = x.0; pcds = x.1 }

pub settings_of_both : (defines pcds : Option (List (List ℕ))) → settings_of defines pcds ≡ option_map settings_with (both defines pcds)
settings_of_both None pcds = refl
settings_of_both (Some d) None = refl
settings_of_both (Some d) (Some p) = refl

abbrev images_with : List (List ℕ) × List (List ℕ) → Images
images_with x = record { devices = x.0; volumes = x.1 }

pub images_of_both : (devices volumes : Option (List (List ℕ))) → images_of devices volumes ≡ option_map images_with (both devices volumes)
images_of_both None volumes = refl
images_of_both (Some d) None = refl
images_of_both (Some d) (Some v) = refl

pub job_of_both : (files : Option Files) (names : Option Names) (arches : Option (List (List ℕ))) (settings : Option Settings) (images : Option Images) (workers : Option ℕ)
    → job_of files names arches settings images workers ≡ job_by (both files names) arches (both settings images) workers
job_of_both None names arches settings images workers = refl
job_of_both (Some f) None arches settings images workers = refl
job_of_both (Some f) (Some n) None settings images workers = refl
job_of_both (Some f) (Some n) (Some a) None images workers = refl
job_of_both (Some f) (Some n) (Some a) (Some s) None workers = refl
job_of_both (Some f) (Some n) (Some a) (Some s) (Some i) None = refl
job_of_both (Some f) (Some n) (Some a) (Some s) (Some i) (Some w) = refl
