-- The files that a build gives, and the steps that give their bytes (EDK II Build specification,
-- build output; that an image's file has the image's name in upper case is this project's own
-- rule).
use Rattle.std.specs.Prelude.{ℕ, ◌+◌, ◌==◌, not, Bool, true, false, List, [], ◌∷◌, ◌++◌, length, map, codes, Option, Some, None, Result, Ok, Err}
use Rattle.std.specs.Char.{to_ascii_uppercase}
use Rattle.std.specs.Option.{is_some}
use Rattle.build_base.specs.First.{and_then, with_front}
use Rattle.build_base.specs.declared.fault.Fault.{Fault}
use Rattle.build_stages.specs.Writing.{given_part}
use Rattle.build_texts.specs.Words.{arch_word}
use Rattle.doc_types.specs.declared.choice.Module.{Module}
use Rattle.doc_types.specs.declared.flash.DevicePlan.{DevicePlan}
use Rattle.doc_types.specs.declared.flash.FlashDoc.{FlashDoc}
use Rattle.doc_types.specs.declared.volume.VolumePlan.{VolumePlan}
use Rattle.build_stages.specs.Stages.{impossible_answer}
use Rattle.step_pack.specs.Keys.{key_cmp}
use Rattle.step_pack.specs.declared.key.Key.{Key}
use Rattle.step_pack.specs.declared.key.Key.TheVariants as key
use Rattle.step_pack.specs.declared.out.Out.{Out}
use Rattle.step_pack.specs.declared.out.Out.TheVariants as out
use Rattle.step_pack.specs.declared.out.Output.{Output}
use Rattle.step_engine.specs.declared.talk.Pair.{Pair}
use Rattle.step_answers.specs.Volumes.{volume_key}
use Rattle.step_answers.specs.Stems.{stem_of}
use Rattle.step_answers.specs.Folders.{path_below}
use Rattle.output_steps.specs.Wanted.{is_marked}
use Rattle.output_steps.specs.declared.wanted.Wanted.{Wanted}

-- the file of an image, whose extension begins with its dot
abbrev pub image_output : List ℕ → List ℕ → List ℕ → Key → Result Output Fault
image_output folder name extension from =
    and_then (path_below folder (codes "FV/" ++ map to_ascii_uppercase name ++ extension))
    (λ path. Ok (record { path = path; from = from; part = 0 }))

abbrev pub image_where : Bool → List ℕ → List ℕ → List ℕ → Key → Result (List Output) Fault
image_where true folder name extension from =
    and_then (image_output folder name extension from) (λ output. Ok (output ∷ []))
image_where false folder name extension from = Ok []

-- the files of the volumes that are marked, whose numbers begin with this one
unfoldable pub volume_outputs : List ℕ → List Bool → ℕ → List VolumePlan
    → Result (List Output) Fault
volume_outputs folder marks n [] = Ok []
volume_outputs folder marks n (plan ∷ plans) =
    and_then
    (image_where (is_marked marks n) folder plan.head.name (codes ".Fv") (volume_key n plan))
    (λ outputs. with_front outputs (volume_outputs folder marks (n + 1) plans))

unfoldable pub device_outputs : List ℕ → List Bool → ℕ → List DevicePlan
    → Result (List Output) Fault
device_outputs folder marks n [] = Ok []
device_outputs folder marks n (plan ∷ plans) =
    and_then (image_where (is_marked marks n) folder plan.name (codes ".fd") (key.Device n))
    (λ outputs. with_front outputs (device_outputs folder marks (n + 1) plans))

-- The files of a module stand below ARCH/<INF file without its extension>.
unfoldable pub module_folder : List ℕ → Module → Result (List ℕ) Fault
module_folder folder m =
    and_then (path_below folder (arch_word m.arch)) (λ below. path_below below (stem_of m.inf))

abbrev pub file_output : List ℕ → List ℕ → Key → ℕ → Result Output Fault
file_output folder name from part =
    and_then (path_below folder name)
    (λ path. Ok (record { path = path; from = from; part = part }))

unfoldable pub c_output : List ℕ → Module → Result Output Fault
c_output folder m = file_output folder (codes "DEBUG/AutoGen.c") (key.Code m) 0

unfoldable pub h_output : List ℕ → Module → Result Output Fault
h_output folder m = file_output folder (codes "DEBUG/AutoGen.h") (key.Code m) 1

-- both texts of a module that has them
abbrev pub code_outputs : List ℕ → Module → Bool → Result (List Output) Fault
code_outputs folder m false = Ok []
code_outputs folder m true =
    and_then (c_output folder m) (λ c. and_then (h_output folder m) (λ h. Ok (c ∷ h ∷ [])))

-- an expression that has bytes
abbrev pub depex_outputs : List ℕ → Module → List ℕ → Bool → Result (List Output) Fault
depex_outputs folder m name false = Ok []
depex_outputs folder m name true =
    and_then (file_output folder (codes "OUTPUT/" ++ name ++ codes ".depex") (key.Depex m) 0)
    (λ output. Ok (output ∷ []))

-- the files of a module, by its BASE_NAME, whether it has texts, and whether its expression has
-- bytes
abbrev pub module_outputs : List ℕ → Module → List ℕ → Bool → Bool → Result (List Output) Fault
module_outputs folder m name texts depex =
    and_then (module_folder folder m) (λ below.
    and_then (code_outputs below m texts)
    (λ code. with_front code (depex_outputs below m name depex)))

abbrev pub base_of_out : Out → Result (List ℕ) Fault
base_of_out (out.Inf inf) = Ok inf.base_name
base_of_out _ = Err impossible_answer

abbrev pub base_in : List (Pair Key Out) → Module → Result (List ℕ) Fault
base_in given m = and_then (given_part key_cmp given (key.Inf m.inf)) base_of_out

abbrev pub has_texts : Out → Result Bool Fault
has_texts (out.Code texts) = Ok (is_some texts)
has_texts _ = Err impossible_answer

abbrev pub texts_in : List (Pair Key Out) → Module → Result Bool Fault
texts_in given m = and_then (given_part key_cmp given (key.Code m)) has_texts

abbrev pub has_bytes : Out → Result Bool Fault
has_bytes (out.Depex bytes) = Ok (not (length bytes == 0))
has_bytes _ = Err impossible_answer

abbrev pub bytes_in : List (Pair Key Out) → Module → Result Bool Fault
bytes_in given m = and_then (given_part key_cmp given (key.Depex m)) has_bytes

abbrev pub named : List ℕ → Bool → Result (List ℕ × Bool) Fault
named name texts = Ok (name, texts)

-- the BASE_NAME of a module, and whether it has texts
unfoldable pub named_in : List (Pair Key Out) → Module → Result (List ℕ × Bool) Fault
named_in given m = and_then (base_in given m) (λ name. and_then (texts_in given m) (named name))

-- a module's files, by its description, its texts and its expression
unfoldable pub outputs_in : List ℕ → List (Pair Key Out) → Module → Result (List Output) Fault
outputs_in folder given m =
    and_then (named_in given m) (λ x.
    and_then (bytes_in given m) (λ depex. module_outputs folder m x.0 x.1 depex))

-- the files of modules
unfoldable pub modules_outputs : List ℕ → List (Pair Key Out) → List Module
    → Result (List Output) Fault
modules_outputs folder given [] = Ok []
modules_outputs folder given (m ∷ modules) =
    and_then (outputs_in folder given m)
    (λ outputs. with_front outputs (modules_outputs folder given modules))

-- the image of vital product data and its map
unfoldable pub vpd_outputs : Bool → List ℕ → Result (List Output) Fault
vpd_outputs false folder = Ok []
vpd_outputs true folder =
    and_then (file_output folder (codes "FV/VPD.bin") key.Vpd 0) (λ image.
    and_then (file_output folder (codes "FV/VPD.map") key.Vpd 1) (λ map_. Ok (image ∷ map_ ∷ [])))

abbrev pub report_output : Option (List ℕ) → List Output
report_output None = []
report_output (Some path) = record { path = path; from = key.Report; part = 0 } ∷ []

-- Module by module its files; of the images that are wanted the volumes by their numbers, and the
-- devices as they stand in the flash description; then the image of vital product data and its map,
-- where there are any; last the report.
unfoldable pub outputs_of : Bool → List ℕ → List Module → FlashDoc → Wanted → Option (List ℕ)
    → List (Pair Key Out) → Result (List Output) Fault
outputs_of vpd folder modules flash wanted report given =
    and_then (modules_outputs folder given modules) (λ texts.
    and_then (with_front texts (volume_outputs folder wanted.volumes 0 flash.volumes)) (λ volumes.
    and_then (with_front volumes (device_outputs folder wanted.devices 0 flash.devices)) (λ images.
    and_then (with_front images (vpd_outputs vpd folder))
    (λ outputs. Ok (outputs ++ report_output report)))))
