-- Where the files of a build stand (EDK II Build specification, build output).
use Rattle.std.specs.Prelude.{ℕ, ◌+◌, ◌&&◌, nat_le, List, ◌++◌, length, codes, Result, Ok, Err, if◌then◌else◌}
use Rattle.std.specs.Option.{is_some}
use Rattle.build_base.specs.Path.{path_field}
use Rattle.build_base.specs.declared.fault.Fault.{Fault}
use Rattle.build_stages.specs.Stages.{impossible_answer}
use Rattle.job_fields.specs.Readings.{target_in, tag_in}

-- the path of a file in a folder; the folders and names of a build can be joined
unfoldable pub path_below : List ℕ → List ℕ → Result (List ℕ) Fault
path_below folder rest =
    if is_some (path_field rest) && nat_le (length folder + 1 + length rest) 2048
    then Ok (folder ++ codes "/" ++ rest) else Err impossible_answer

-- its name in the stated folder: TARGET_TAG
abbrev pub folder_name : List ℕ → List ℕ → List ℕ
folder_name target tag = target_in target ++ codes "_" ++ tag_in tag

-- the folder of all outputs: OUTPUT_DIRECTORY/TARGET_TAG
abbrev pub output_folder : List ℕ → List ℕ → List ℕ → Result (List ℕ) Fault
output_folder output target tag = path_below output (folder_name target tag)

-- the same as a text, whatever its length
unfoldable pub build_folder : List ℕ → List ℕ → List ℕ → List ℕ
build_folder output target tag = output ++ codes "/" ++ folder_name target tag
