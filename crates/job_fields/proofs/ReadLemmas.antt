-- What is read from the fields of a job that words give is the job.
use Rattle.std.specs.Prelude.{◌&&◌}
use Rattle.std.specs.List.{AllByRecursion, filter_map, join_with_byte, list_all, position_or_len}
use Rattle.std.specs.Option.{is_some, option_map}
use Rattle.std.proofs.Common.{◌≡◌, ◌∙◌, ℕ, ◌+◌, ◌<◌, ◌==◌, nat_le, nat_lt, Bool, true, false, cond, if◌then◌else◌, List, [], ◌∷◌, ◌++◌, length, take, drop, get_or, map, codes, Option, Some, None, refl, sym, ap, arith, append_assoc}
use Rattle.std.proofs.lemmas.Bool.{and_from}
use Rattle.std.proofs.lemmas.Bool.Decides.{nat_tests}
use Rattle.std.proofs.lemmas.List.Elements.{filter_map-append}
use Rattle.std.proofs.lemmas.List.Folds.{list_all-append}
use Rattle.std.proofs.lemmas.List.Sums.{split_at_first, passes_at_first}
use Rattle.build_base.specs.Path.{is_path, is_segment, is_dots, path_field}
use Rattle.build_base.specs.declared.fault.Place.{Place}
use Rattle.doc_types.specs.Arches.{arch_named}
use Rattle.doc_types.specs.Pcds.{parted_at, pcd_name_of}
use Rattle.doc_types.specs.declared.arch.Arch.{Arch}
use Rattle.doc_types.specs.declared.arch.Arch.TheVariants.{Common, Ia32, X64, Arm, Aarch64, Riscv64, Loongarch64, Ebc}
use Rattle.doc_types.specs.declared.pcd.PcdSet.{PcdSet}
use Rattle.job_fields.specs.Fields.{PLATFORM, ARCHES, TARGET, TAG, SKU, DEFINES, PCDS, FLASH, IMAGES, REPORT, or_empty, image_lines, job_fields, field_of}
use Rattle.job_fields.specs.HasWords.{EachPasses, HasWords, IsFile, IsFileIfGiven, IsNameIfGiven}
use Rattle.job_fields.specs.Readings.{arch_in, arches_in, behind, built_arch, each_there, file_in, images_in, images_of, is_image_line, is_job, name_in, set_by, set_in, set_named, set_text, sets_in, texts_in}
use Rattle.job_fields.specs.Values.{equals_at, is_arch, is_built, is_define, is_name, is_setting}
use Rattle.job_fields.specs.declared.job.Images.{Images}
use Rattle.job_fields.specs.declared.job.Job.{Job}
use Rattle.job_fields.proofs.EachLemmas.{all_there}
use Rattle.job_fields.proofs.LineLemmas.{IsFilled, arch_filled, both_all, define_filled, filled, filled_line, joined_read, name_filled, setting_filled, setting_parts, weakened}

-- Texts that pass a check.

passed_read : (test : List ℕ → Bool) → ((x : List ℕ) → test x ≡ true → IsFilled x) → (texts : List (List ℕ)) → EachPasses test texts → texts_in (join_with_byte 10 texts) ≡ texts
passed_read test n texts h = joined_read texts (weakened (λ text. test text ≡ true) IsFilled n texts h)

pub arches_read : (job : Job) → HasWords job → texts_in (field_of job ARCHES) ≡ job.arches
unfolding job_fields
arches_read job h = passed_read is_arch arch_filled job.arches h.arches

pub defines_read : (job : Job) → HasWords job → texts_in (field_of job DEFINES) ≡ job.settings.defines
unfolding job_fields
defines_read job h = passed_read is_define define_filled job.settings.defines h.defines

pub pcds_read : (job : Job) → HasWords job → texts_in (field_of job PCDS) ≡ job.settings.pcds
unfolding job_fields
pcds_read job h = passed_read is_setting setting_filled job.settings.pcds h.pcds

-- Names.

name_read : (name : Option (List ℕ)) → IsNameIfGiven name → name_in (or_empty name) ≡ name
name_read None h = refl
name_read (Some text) h = ap (λ (b : Bool). if b then None else Some text) (name_filled text h).0

pub target_read : (job : Job) → HasWords job → name_in (field_of job TARGET) ≡ job.names.target
unfolding job_fields
target_read job h = name_read job.names.target h.target

pub tag_read : (job : Job) → HasWords job → name_in (field_of job TAG) ≡ job.names.tag
unfolding job_fields
tag_read job h = name_read job.names.tag h.tag

pub sku_read : (job : Job) → HasWords job → name_in (field_of job SKU) ≡ job.names.sku
unfolding job_fields
sku_read job h = name_read job.names.sku h.sku

-- Files.

pub path_read : (text : List ℕ) → IsFile text → path_field text ≡ Some text
path_read text h = by (is_path text && nat_le (length text) 512) h
  where
    by : (b : Bool) → is_some (if b then Some text else None) ≡ true → (if b then Some text else None) ≡ Some text
    by true e = refl
    by false e = absurd cc

no_file : IsFile [] → ⊥
unfolding is_path is_segment is_dots
no_file h = absurd cc

file_filled : (text : List ℕ) → IsFile text → (length text == 0) ≡ false
file_filled [] h = absurd (no_file h)
file_filled (x ∷ xs) h = filled x xs

file_read : (file : Option (List ℕ)) → IsFileIfGiven file → file_in (or_empty file) ≡ Some file
file_read None h = refl
file_read (Some text) h =
    ap (λ (b : Bool). if b then Some None else option_map Some (path_field text)) (file_filled text h) ∙ ap (option_map Some) (path_read text h)

pub platform_read : (job : Job) → HasWords job → path_field (field_of job PLATFORM) ≡ Some job.files.platform
unfolding job_fields
platform_read job h = path_read job.files.platform h.platform

pub flash_read : (job : Job) → HasWords job → file_in (field_of job FLASH) ≡ Some job.files.flash
unfolding job_fields
flash_read job h = file_read job.files.flash h.flash

pub report_read : (job : Job) → HasWords job → file_in (field_of job REPORT) ≡ Some job.files.report
unfolding job_fields
report_read job h = file_read job.files.report h.report

has_reading : (file : Option (List ℕ)) → IsFileIfGiven file → is_some (file_in (or_empty file)) ≡ true
has_reading file h = ap is_some (file_read file h)

pub job_read : (job : Job) → HasWords job → is_job (job_fields job) ≡ true
unfolding job_fields
job_read job h =
    and_from (is_some (path_field job.files.platform)) (is_some (file_in (or_empty job.files.flash)) && is_some (file_in (or_empty job.files.report))) h.platform
    (and_from (is_some (file_in (or_empty job.files.flash))) (is_some (file_in (or_empty job.files.report))) (has_reading job.files.flash h.flash) (has_reading job.files.report h.report))

-- Images.

abbrev fd : List ℕ
fd = codes "fd "

abbrev fv : List ℕ
fv = codes "fv "

lines_filled : (kind : List ℕ) → IsFilled kind → (names : List (List ℕ)) → EachPasses is_name names → AllByRecursion IsFilled (map (λ name. kind ++ name) names)
lines_filled kind k [] h = tt
lines_filled kind k (x ∷ xs) h = (filled_line kind x k (name_filled x h.0).1, lines_filled kind k xs h.1)

devices_behind : (names : List (List ℕ)) → filter_map (behind fd) (map (λ name. fd ++ name) names) ≡ names
devices_behind [] = refl
devices_behind (x ∷ xs) = ap (λ (ys : List (List ℕ)). x ∷ ys) (devices_behind xs)

no_volumes : (names : List (List ℕ)) → filter_map (behind fv) (map (λ name. fd ++ name) names) ≡ []
no_volumes [] = refl
no_volumes (x ∷ xs) = no_volumes xs

volumes_behind : (names : List (List ℕ)) → filter_map (behind fv) (map (λ name. fv ++ name) names) ≡ names
volumes_behind [] = refl
volumes_behind (x ∷ xs) = ap (λ (ys : List (List ℕ)). x ∷ ys) (volumes_behind xs)

no_devices : (names : List (List ℕ)) → filter_map (behind fd) (map (λ name. fv ++ name) names) ≡ []
no_devices [] = refl
no_devices (x ∷ xs) = no_devices xs

device_lines : (names : List (List ℕ)) → list_all is_image_line (map (λ name. fd ++ name) names) ≡ true
device_lines [] = refl
device_lines (x ∷ xs) = device_lines xs

volume_lines : (names : List (List ℕ)) → list_all is_image_line (map (λ name. fv ++ name) names) ≡ true
volume_lines [] = refl
volume_lines (x ∷ xs) = volume_lines xs

abbrev images_with : List (List ℕ) → List (List ℕ) → Option Images
images_with devices volumes = Some (record { devices = devices; volumes = volumes })

lines_read : (images : Images) → images_of (image_lines images) ≡ Some images
unfolding images_of image_lines
lines_read images =
    ap (λ (b : Bool). if b then images_with (filter_map (behind fd) lines) (filter_map (behind fv) lines) else None) all
    ∙ ap (λ (xs : List (List ℕ)). images_with xs (filter_map (behind fv) lines)) devices
    ∙ ap (λ (xs : List (List ℕ)). images_with images.devices xs) volumes
  where
    first : List (List ℕ)
    first = map (λ name. fd ++ name) images.devices

    second : List (List ℕ)
    second = map (λ name. fv ++ name) images.volumes

    lines : List (List ℕ)
    lines = first ++ second

    all : list_all is_image_line lines ≡ true
    all = list_all-append is_image_line first second
        ∙ and_from (list_all is_image_line first) (list_all is_image_line second) (device_lines images.devices) (volume_lines images.volumes)

    empty_behind : (xs : List (List ℕ)) → xs ++ [] ≡ xs
    empty_behind [] = refl
    empty_behind (x ∷ xs) = ap (λ (ys : List (List ℕ)). x ∷ ys) (empty_behind xs)

    devices : filter_map (behind fd) lines ≡ images.devices
    devices = filter_map-append (behind fd) first second
        ∙ ap (λ (xs : List (List ℕ)). xs ++ filter_map (behind fd) second) (devices_behind images.devices)
        ∙ ap (λ (xs : List (List ℕ)). images.devices ++ xs) (no_devices images.volumes) ∙ empty_behind images.devices

    volumes : filter_map (behind fv) lines ≡ images.volumes
    volumes = filter_map-append (behind fv) first second
        ∙ ap (λ (xs : List (List ℕ)). xs ++ filter_map (behind fv) second) (no_volumes images.devices)
        ∙ volumes_behind images.volumes

image_lines_filled : (images : Images) → EachPasses is_name images.devices → EachPasses is_name images.volumes → AllByRecursion IsFilled (image_lines images)
unfolding image_lines
image_lines_filled images d v =
    both_all IsFilled (map (λ name. fd ++ name) images.devices) (map (λ name. fv ++ name) images.volumes)
    (lines_filled fd (refl, refl) images.devices d) (lines_filled fv (refl, refl) images.volumes v)

pub images_read : (job : Job) → HasWords job → images_in (field_of job IMAGES) ≡ Some job.images
unfolding job_fields images_in
images_read job h =
    ap images_of (joined_read (image_lines job.images) (image_lines_filled job.images h.devices h.volumes)) ∙ lines_read job.images

-- Architectures.

arch_read : (text : List ℕ) → is_arch text ≡ true → is_some (arch_in text) ≡ true
arch_read text e = by (arch_named text) e
  where
    by : (arch : Option Arch) → is_built arch ≡ true → is_some (built_arch arch) ≡ true
    by None f = absurd cc
    by (Some Common) f = absurd cc
    by (Some Ia32) f = refl
    by (Some X64) f = refl
    by (Some Arm) f = refl
    by (Some Aarch64) f = refl
    by (Some Riscv64) f = refl
    by (Some Loongarch64) f = refl
    by (Some Ebc) f = refl

pub arches_there : (job : Job) → HasWords job → is_some (arches_in (field_of job ARCHES)) ≡ true
unfolding arches_in
arches_there job h =
    ap (λ (texts : List (List ℕ)). is_some (each_there (map arch_in texts))) (arches_read job h)
    ∙ all_there arch_in job.arches (weakened (λ text. is_arch text ≡ true) (λ text. is_some (arch_in text) ≡ true) arch_read job.arches h.arches)

-- Values of PCDs.

abbrev is_dot : ℕ → Bool
is_dot byte = byte == 46

abbrev is_equals : ℕ → Bool
is_equals byte = byte == 61

has_dot : (text : List ℕ) → is_some (pcd_name_of text) ≡ true → nat_lt (position_or_len is_dot text) (length text) ≡ true
unfolding pcd_name_of
has_dot text e = by (nat_lt (position_or_len is_dot text) (length text)) e
  where
    by : (b : Bool) → is_some (parted_at text (cond b (Some (position_or_len is_dot text)) None)) ≡ true → b ≡ true
    by true f = refl
    by false f = absurd cc

abbrev front_of : List ℕ → List ℕ
front_of text = take (equals_at text) text

abbrev dot_in : List ℕ → ℕ
dot_in text = position_or_len is_dot (front_of text)

abbrev set_of : Place → List ℕ → PcdSet
set_of at text = record {
  at = at;
  rank = 1;
  pcd =
      record { space = take (dot_in text) (front_of text); name = drop (dot_in text + 1) (front_of text) };
  value = drop (equals_at text + 1) text;
}

set_read : (at : Place) (text : List ℕ) → is_setting text ≡ true → set_in at text ≡ Some (set_of at text)
unfolding set_in
set_read at text e =
    let h = setting_parts text e in
    ap (λ (b : Bool). set_by at text (cond b (Some (equals_at text)) None)) h.equals
    ∙ ap (λ (b : Bool). set_named at (front_of text) (drop (equals_at text + 1) text) (cond b (Some (dot_in text)) None)) (has_dot (front_of text) h.pcd)

-- a text around its first byte that passes a test
parted : (test : ℕ → Bool) (byte : ℕ) → ((x : ℕ) → test x ≡ true → x ≡ byte) → (text : List ℕ) → nat_lt (position_or_len test text) (length text) ≡ true
    → (take (position_or_len test text) text ++ byte ∷ []) ++ drop (position_or_len test text + 1) text ≡ text
parted test byte only text e =
    let low : position_or_len test text < length text = grind (arith, nat_tests, e) in
    append_assoc (take (position_or_len test text) text) (byte ∷ []) (drop (position_or_len test text + 1) text)
    ∙ ap (λ (b : ℕ). take (position_or_len test text) text ++ b ∷ drop (position_or_len test text + 1) text) (sym (only (get_or text (position_or_len test text) 0) (passes_at_first test text 0 low)))
    ∙ sym (split_at_first test text 0 low)

only_dot : (x : ℕ) → is_dot x ≡ true → x ≡ 46
only_dot x e = grind (arith, nat_tests, e)

only_equals : (x : ℕ) → is_equals x ≡ true → x ≡ 61
only_equals x e = grind (arith, nat_tests, e)

pub setting_kept : (at : Place) (text : List ℕ) → is_setting text ≡ true → option_map set_text (set_in at text) ≡ Some text
setting_kept at text e =
    let h = setting_parts text e in
    ap (option_map set_text) (set_read at text e)
    ∙ ap (λ (front : List ℕ). Some ((front ++ 61 ∷ []) ++ drop (equals_at text + 1) text)) (parted is_dot 46 only_dot (front_of text) (has_dot (front_of text) h.pcd))
    ∙ ap Some (parted is_equals 61 only_equals text h.equals)

set_there : (at : Place) (text : List ℕ) → is_setting text ≡ true → is_some (set_in at text) ≡ true
set_there at text e = ap is_some (set_read at text e)

pub sets_there : (job : Job) (at : Place) → HasWords job → is_some (sets_in at (field_of job PCDS)) ≡ true
unfolding sets_in
sets_there job at h =
    ap (λ (texts : List (List ℕ)). is_some (each_there (map (set_in at) texts))) (pcds_read job h)
    ∙ all_there (set_in at) job.settings.pcds (weakened (λ text. is_setting text ≡ true) (λ text. is_some (set_in at text) ≡ true) (set_there at) job.settings.pcds h.pcds)
