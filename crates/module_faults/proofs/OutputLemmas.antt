-- The files of a build have paths.
use Rattle.std.specs.Prelude.{map, ◌&&◌}
use Rattle.std.specs.Char.{to_ascii_uppercase}
use Rattle.std.specs.List.{AllByRecursion, All, list_all}
use Rattle.std.proofs.Common.{◌≡◌, ℕ, ◌+◌, ◌≤◌, ◌==◌, not, nat_lt, nat_le, IsTrue, Bool, true, false, List, [], ◌∷◌, ◌++◌, length, codes, Result, Ok, Err, refl, arith, length-append}
use Rattle.std.proofs.lemmas.Bool.{and_parts}
use Rattle.std.proofs.lemmas.Bool.Decides.{nat_tests}
use Rattle.std.proofs.lemmas.List.{length-map}
use Rattle.std.proofs.lemmas.List.Elements.{All-head, All-tail}
use Rattle.build_base.specs.First.{and_then}
use Rattle.build_base.specs.FaultCodes.{IMAGE_UNKNOWN}
use Rattle.build_base.specs.FaultText.{fault_of}
use Rattle.build_base.specs.Path.{IsPath, IsPathField, is_path, is_segment, is_dots, is_path_byte}
use Rattle.build_base.specs.declared.fault.Fault.{Fault}
use Rattle.build_base.proofs.PathLemmas.{IsPath-join}
use Rattle.build_texts.specs.Words.{arch_word}
use Rattle.job_fields.specs.Values.{is_name_byte}
use Rattle.doc_types.specs.declared.arch.Arch.{Arch}
use Rattle.doc_types.specs.declared.arch.Arch.TheVariants.{Common, Ia32, X64, Arm, Aarch64, Riscv64, Loongarch64, Ebc}
use Rattle.doc_types.specs.declared.choice.Module.{Module}
use Rattle.doc_types.specs.declared.flash.DevicePlan.{DevicePlan}
use Rattle.doc_types.specs.declared.flash.FlashDoc.{FlashDoc}
use Rattle.doc_types.specs.declared.volume.VolumePlan.{VolumePlan}
use Rattle.fdf_lines.specs.Sections.{is_image_name}
use Rattle.fdf_lines.specs.Sections as heads
use Rattle.flash_document.specs.Shape.{NameFits, VolumesFit, HasShape}
use Rattle.meta_lexer.specs.Tokens.{is_word_byte}
use Rattle.meta_lexer.specs.Words.{is_identifier, begins_with_digit}
use Rattle.meta_lexer.specs.Faults.{first_fault}
use Rattle.step_answers.specs.Volumes.{volume_key}
use Rattle.step_pack.specs.declared.key.Key.{Key}
use Rattle.step_pack.specs.declared.key.Key.TheVariants as key
use Rattle.step_answers.specs.Stems.{stem_of}
use Rattle.step_answers.specs.Folders.{path_below}
use Rattle.output_steps.specs.Outputs.{image_output, image_where, volume_outputs, device_outputs, module_folder, file_output, c_output, h_output, code_outputs, depex_outputs, module_outputs, vpd_outputs}
use Rattle.output_steps.specs.Wanted.{device_name, volume_name, is_among, image_unknown, images_unknown, wanted_by, wanted_among, wanted_of, is_marked}
use Rattle.job_fields.specs.Readings.{images_in}
use Rattle.job_fields.specs.declared.job.Images.{Images}
use Rattle.step_answers.specs.Readers.{or_impossible}
use Rattle.module_faults.specs.Words.{AreImages}
use Rattle.module_faults.proofs.SettingLemmas.{read_fails}
use Rattle.named_faults.specs.Named.{IsNamed, FailsByName}
use Rattle.named_faults.proofs.NamedLemmas.{if_fails, then_fails, or_else_named, or_fault_fails, front_fails, fault_unless_named}
use Rattle.named_faults.proofs.CodeLemmas.{image_unknown_named}
use Rattle.text_faults.proofs.PartLemmas.{first_fault_named}
use Rattle.module_faults.specs.Folders.{folder_limit}
use Rattle.module_faults.proofs.FolderLemmas.{below_fails, below_length}
use Rattle.module_faults.proofs.PathLemmas.{word_byte, name_byte, upper_bytes, both_bytes, long_path, stem_field}
use Rattle.job_fields.proofs.LineLemmas.{all_as}

-- The files of a module.

arch_field : (arch : Arch) → IsPathField (arch_word arch)
unfolding is_path is_segment is_dots is_path_byte
arch_field Common = record { segments = refl; short = omega arith }
arch_field Ia32 = record { segments = refl; short = omega arith }
arch_field X64 = record { segments = refl; short = omega arith }
arch_field Arm = record { segments = refl; short = omega arith }
arch_field Aarch64 = record { segments = refl; short = omega arith }
arch_field Riscv64 = record { segments = refl; short = omega arith }
arch_field Loongarch64 = record { segments = refl; short = omega arith }
arch_field Ebc = record { segments = refl; short = omega arith }

arch_short : (arch : Arch) → length (arch_word arch) ≤ 11
arch_short Common = omega arith
arch_short Ia32 = omega arith
arch_short X64 = omega arith
arch_short Arm = omega arith
arch_short Aarch64 = omega arith
arch_short Riscv64 = omega arith
arch_short Loongarch64 = omega arith
arch_short Ebc = omega arith

module_folder_fails : (folder : List ℕ) (m : Module) → length folder ≤ folder_limit → IsPathField m.inf → FailsByName (module_folder folder m)
unfolding module_folder
module_folder_fails folder m l h =
    let few = arch_short m.arch in
    then_fails (path_below folder (arch_word m.arch)) _ (below_fails folder (arch_word m.arch) (arch_field m.arch) (omega arith))
    (λ below e.
    let long = below_length folder (arch_word m.arch) below e in
    let stem = stem_field m.inf h in
    let short = stem.short in
    below_fails below (stem_of m.inf) stem (omega arith))

-- it is longer by an architecture and a path
module_folder_short : (folder : List ℕ) (m : Module) (below : List ℕ) → length folder ≤ folder_limit → IsPathField m.inf → module_folder folder m ≡ Ok below → length below ≤ 1167
unfolding module_folder
module_folder_short folder m below l h e = by (path_below folder (arch_word m.arch)) refl e
  where
    by : (r : Result (List ℕ) Fault) → path_below folder (arch_word m.arch) ≡ r → and_then r (λ arch. path_below arch (stem_of m.inf)) ≡ Ok below → length below ≤ 1167
    by (Ok arch) a f =
        let few = arch_short m.arch in
        let stem = stem_field m.inf h in
        let short = stem.short in
        let first = below_length folder (arch_word m.arch) arch a in
        let second = below_length arch (stem_of m.inf) below f in
        omega arith
    by (Err fault) a f = absurd cc

file_fails : (folder name : List ℕ) (from : Key) (part : ℕ) → IsPathField name → length folder + 1 + length name ≤ 2048 → FailsByName (file_output folder name from part)
file_fails folder name from part h l = then_fails (path_below folder name) _ (below_fails folder name h l) (λ path e. record {})

c_field : IsPathField (codes "DEBUG/AutoGen.c")
unfolding is_path is_segment is_dots is_path_byte
c_field = record { segments = refl; short = omega arith }

h_field : IsPathField (codes "DEBUG/AutoGen.h")
unfolding is_path is_segment is_dots is_path_byte
h_field = record { segments = refl; short = omega arith }

c_fails : (folder : List ℕ) (m : Module) → length folder ≤ 1167 → FailsByName (c_output folder m)
unfolding c_output
c_fails folder m l = file_fails folder (codes "DEBUG/AutoGen.c") (key.Code m) 0 c_field (omega arith)

h_fails : (folder : List ℕ) (m : Module) → length folder ≤ 1167 → FailsByName (h_output folder m)
unfolding h_output
h_fails folder m l = file_fails folder (codes "DEBUG/AutoGen.h") (key.Code m) 1 h_field (omega arith)

code_files_fail : (folder : List ℕ) (m : Module) (texts : Bool) → length folder ≤ 1167 → FailsByName (code_outputs folder m texts)
code_files_fail folder m false l = record {}
code_files_fail folder m true l = then_fails (c_output folder m) _ (c_fails folder m l) (λ c e. then_fails (h_output folder m) _ (h_fails folder m l) (λ h e. record {}))

-- an identifier has bytes of paths, at most 64
identifier_bytes : (name : List ℕ) → is_identifier name ≡ true → (list_all is_path_byte name ≡ true) × (length name ≤ 64)
unfolding is_identifier
identifier_bytes name e = by (nat_lt 0 (length name)) (nat_le (length name) 64) (list_all is_word_byte name) (not (begins_with_digit name)) refl refl e
  where
    by : (a b c d : Bool) → nat_le (length name) 64 ≡ b → list_all is_word_byte name ≡ c → (a && b && c && d) ≡ true → (list_all is_path_byte name ≡ true) × (length name ≤ 64)
    by true true true d f g h = (all_as is_word_byte is_path_byte word_byte name g, grind (arith, nat_tests, f))
    by true true false d f g h = absurd cc
    by true false c d f g h = absurd cc
    by false b c d f g h = absurd cc

output_path : IsPath (codes "OUTPUT")
unfolding is_path is_segment is_dots is_path_byte
output_path = refl

depex_bytes : list_all is_path_byte (codes ".depex") ≡ true
unfolding is_path_byte
depex_bytes = refl

depex_field : (name : List ℕ) → list_all is_path_byte name ≡ true → length name ≤ 64 → IsPathField (codes "OUTPUT/" ++ name ++ codes ".depex")
depex_field name b l =
    let long = length-append name (codes ".depex") in
    record {
      segments = IsPath-join (codes "OUTPUT") (name ++ codes ".depex") output_path (long_path (name ++ codes ".depex") (both_bytes name (codes ".depex") b depex_bytes) (omega arith));
      short = omega arith;
    }

depex_files_fail : (folder : List ℕ) (m : Module) (name : List ℕ) (depex : Bool) → length folder ≤ 1167 → is_identifier name ≡ true → FailsByName (depex_outputs folder m name depex)
depex_files_fail folder m name false l h = record {}
depex_files_fail folder m name true l h =
    let both = identifier_bytes name h in
    let few = both.1 in
    let long = length-append name (codes ".depex") in
    then_fails (file_output folder (codes "OUTPUT/" ++ name ++ codes ".depex") (key.Depex m) 0) _
    (file_fails folder (codes "OUTPUT/" ++ name ++ codes ".depex") (key.Depex m) 0 (depex_field name both.0 few) (omega arith)) (λ output e. record {})

pub module_files_fail : (folder : List ℕ) (m : Module) (name : List ℕ) (texts depex : Bool) → length folder ≤ folder_limit → IsPathField m.inf → is_identifier name ≡ true
    → FailsByName (module_outputs folder m name texts depex)
module_files_fail folder m name texts depex l h i =
    then_fails (module_folder folder m) _ (module_folder_fails folder m l h) (λ below e.
    let short = module_folder_short folder m below l h e in
    then_fails (code_outputs below m texts) _ (code_files_fail below m texts short) (λ code e.
    front_fails code (depex_outputs below m name depex) (depex_files_fail below m name depex short i)))

-- The files of images.

fv_path : IsPath (codes "FV")
unfolding is_path is_segment is_dots is_path_byte
fv_path = refl

-- an image's name has bytes of paths, at most 64
image_bytes : (name : List ℕ) → IsTrue (is_image_name name) → (list_all is_path_byte name ≡ true) × (length name ≤ 64)
unfolding is_image_name is_name_byte
image_bytes name e =
    let all = and_parts (nat_lt 0 (length name) && nat_le (length name) 64) (list_all heads.is_name_byte name) e in
    let low = (and_parts (nat_lt 0 (length name)) (nat_le (length name) 64) all.0).1 in
    (all_as heads.is_name_byte is_path_byte name_byte name all.1, grind (arith, nat_tests, low))

-- an extension has a dot and two bytes more
pub record IsExtension (text : List ℕ) : Type 0 where
  pub bytes : list_all is_path_byte text ≡ true
  pub long : length text ≡ 3

volume_extension : IsExtension (codes ".Fv")
unfolding is_path_byte
volume_extension = record { bytes = refl; long = refl }

device_extension : IsExtension (codes ".fd")
unfolding is_path_byte
device_extension = record { bytes = refl; long = refl }

image_field : (name extension : List ℕ) → IsTrue (is_image_name name) → IsExtension extension → IsPathField (codes "FV/" ++ map to_ascii_uppercase name ++ extension)
image_field name extension h x =
    let both = image_bytes name h in
    let few = both.1 in
    let three = x.long in
    let same = length-map name to_ascii_uppercase in
    let long = length-append (map to_ascii_uppercase name) extension in
    record {
      segments = IsPath-join (codes "FV") (map to_ascii_uppercase name ++ extension) fv_path
          (long_path (map to_ascii_uppercase name ++ extension) (both_bytes (map to_ascii_uppercase name) extension (upper_bytes name both.0) x.bytes) (omega arith));
      short = omega arith;
    }

image_fails : (folder name extension : List ℕ) (from : Key) → length folder ≤ folder_limit → IsTrue (is_image_name name) → IsExtension extension → FailsByName (image_output folder name extension from)
image_fails folder name extension from l h x =
    let field = image_field name extension h x in
    let short = field.short in
    then_fails (path_below folder (codes "FV/" ++ map to_ascii_uppercase name ++ extension)) _ (below_fails folder (codes "FV/" ++ map to_ascii_uppercase name ++ extension) field (omega arith)) (λ path e. record {})

where_fails : (t : Bool) (folder name extension : List ℕ) (from : Key) → length folder ≤ folder_limit → IsTrue (is_image_name name) → IsExtension extension → FailsByName (image_where t folder name extension from)
where_fails true folder name extension from l h x = then_fails (image_output folder name extension from) _ (image_fails folder name extension from l h x) (λ output e. record {})
where_fails false folder name extension from l h x = record {}

abbrev pub IsNamedVolume : VolumePlan → Type 0
IsNamedVolume plan = IsTrue (is_image_name plan.head.name)

pub volumes_fail : (folder : List ℕ) (marks : List Bool) (n : ℕ) (plans : List VolumePlan) → length folder ≤ folder_limit → AllByRecursion IsNamedVolume plans → FailsByName (volume_outputs folder marks n plans)
unfolding volume_outputs
volumes_fail folder marks n [] l h = record {}
volumes_fail folder marks n (plan ∷ plans) l h =
    then_fails (image_where (is_marked marks n) folder plan.head.name (codes ".Fv") (volume_key n plan)) _
    (where_fails (is_marked marks n) folder plan.head.name (codes ".Fv") (volume_key n plan) l h.0 volume_extension)
    (λ outputs e. front_fails outputs (volume_outputs folder marks (n + 1) plans) (volumes_fail folder marks (n + 1) plans l h.1))

pub devices_fail : (folder : List ℕ) (marks : List Bool) (n : ℕ) (plans : List DevicePlan) → length folder ≤ folder_limit → All NameFits plans → FailsByName (device_outputs folder marks n plans)
unfolding device_outputs
devices_fail folder marks n [] l h = record {}
devices_fail folder marks n (plan ∷ plans) l h =
    then_fails (image_where (is_marked marks n) folder plan.name (codes ".fd") (key.Device n)) _
    (where_fails (is_marked marks n) folder plan.name (codes ".fd") (key.Device n) l (All-head NameFits plan plans h) device_extension)
    (λ outputs e. front_fails outputs (device_outputs folder marks (n + 1) plans) (devices_fail folder marks (n + 1) plans l (All-tail NameFits plan plans h)))

volumes_named : (n : ℕ) (plans : List VolumePlan) → VolumesFit n plans → AllByRecursion IsNamedVolume plans
volumes_named n [] fit = tt
volumes_named n (plan ∷ plans) fit = (fit.0.name, volumes_named (n + 1) plans fit.1)

-- those of a flash description that has its shape
pub shaped_volumes_fail : (folder : List ℕ) (marks : List Bool) (flash : FlashDoc) → length folder ≤ folder_limit → HasShape flash → FailsByName (volume_outputs folder marks 0 flash.volumes)
shaped_volumes_fail folder marks flash l shape = volumes_fail folder marks 0 flash.volumes l (volumes_named 0 flash.volumes shape.nested)

pub shaped_devices_fail : (folder : List ℕ) (marks : List Bool) (flash : FlashDoc) → length folder ≤ folder_limit → HasShape flash → FailsByName (device_outputs folder marks 0 flash.devices)
shaped_devices_fail folder marks flash l shape = devices_fail folder marks 0 flash.devices l shape.names

-- The image of vital product data.

pub bin_field : IsPathField (codes "FV/VPD.bin")
unfolding is_path is_segment is_dots is_path_byte
bin_field = record { segments = refl; short = omega arith }

map_field : IsPathField (codes "FV/VPD.map")
unfolding is_path is_segment is_dots is_path_byte
map_field = record { segments = refl; short = omega arith }

pub vpd_files_fail : (vpd : Bool) (folder : List ℕ) → length folder ≤ folder_limit → FailsByName (vpd_outputs vpd folder)
unfolding vpd_outputs
vpd_files_fail false folder l = record {}
vpd_files_fail true folder l =
    then_fails (file_output folder (codes "FV/VPD.bin") key.Vpd 0) _ (file_fails folder (codes "FV/VPD.bin") key.Vpd 0 bin_field (omega arith)) (λ image e.
    then_fails (file_output folder (codes "FV/VPD.map") key.Vpd 1) _ (file_fails folder (codes "FV/VPD.map") key.Vpd 1 map_field (omega arith)) (λ map_ e. record {}))

-- The images that are wanted.

unknown_named : (flash : FlashDoc) (names : List (List ℕ)) (name : List ℕ) → IsNamed (image_unknown flash names name)
unknown_named flash names name = fault_unless_named (is_among names name) (fault_of IMAGE_UNKNOWN flash.at name) image_unknown_named

names_named : (flash : FlashDoc) (there names : List (List ℕ)) → IsNamed (first_fault (image_unknown flash there) names)
names_named flash there names = first_fault_named (image_unknown flash there) names (unknown_named flash there)

images_named : (flash : FlashDoc) (images : Images) → IsNamed (images_unknown flash images)
images_named flash images =
    or_else_named (first_fault (image_unknown flash (map device_name flash.devices)) images.devices) (first_fault (image_unknown flash (map volume_name flash.volumes)) images.volumes)
    (names_named flash (map device_name flash.devices) images.devices) (names_named flash (map volume_name flash.volumes) images.volumes)

among_fails : (flash : FlashDoc) (images : Images) → FailsByName (wanted_among flash images)
among_fails flash images = or_fault_fails (images_unknown flash images) (Ok (wanted_by flash images.devices images.volumes)) (images_named flash images) (λ e. record {})

pub wanted_fails : (flash : FlashDoc) (text : List ℕ) → AreImages text → FailsByName (wanted_of flash text)
unfolding wanted_of
wanted_fails flash text a =
    if_fails (length text == 0) _ _ (record {}) (then_fails (or_impossible (images_in text)) (wanted_among flash) (read_fails (images_in text) a) (λ images e. among_fails flash images))
