-- What is read from the fields of a job (EDK II Build specification, options of `build`). The form
-- of the fields is this project's own. What no words give has no reading.
use Rattle.std.specs.Prelude.{ℕ, ◌+◌, ◌==◌, ◌&&◌, ◌||◌, nat_eq, Bool, List, [], ◌∷◌, ◌++◌, length, take, drop, map, codes, slice_index_or, Option, Some, None, if◌then◌else◌}
use Rattle.std.specs.List.{filter_map, list_all, position, slice_split, starts_with}
use Rattle.std.specs.Option.{is_some, option_map}
use Rattle.build_base.specs.Path.{path_field}
use Rattle.build_base.specs.declared.fault.Place.{Place}
use Rattle.build_base.specs.declared.lines.Macro.{Macro}
use Rattle.doc_types.specs.Arches.{arch_named}
use Rattle.doc_types.specs.declared.arch.Arch.{Arch}
use Rattle.doc_types.specs.declared.arch.Arch.TheVariants.{Common}
use Rattle.doc_types.specs.declared.pcd.PcdSet.{PcdSet}
use Rattle.job_fields.specs.Fields.{PLATFORM, FLASH, REPORT}
use Rattle.job_fields.specs.declared.job.Images.{Images}

-- the texts that line feeds join, none where there is no byte
unfoldable pub texts_in : List ℕ → List (List ℕ)
texts_in text = if length text == 0 then [] else slice_split (λ byte. byte == 10) text

-- a name, where one is given
abbrev pub name_in : List ℕ → Option (List ℕ)
name_in text = if length text == 0 then None else Some text

-- a file, where one is given; a text that is no path has no reading
abbrev pub file_in : List ℕ → Option (Option (List ℕ))
file_in text = if length text == 0 then Some None else option_map Some (path_field text)

abbrev pub cut_at : List ℕ → Option ℕ → Macro
cut_at text None = record { name = text; value = codes "TRUE" }
cut_at text (Some i) = record { name = take i text; value = drop (i + 1) text }

-- the macro of a text `NAME=VALUE`, or `NAME`, whose value is TRUE
unfoldable pub macro_of : List ℕ → Macro
macro_of text = cut_at text (position (λ byte. byte == 61) text)

-- the macros of texts that line feeds join
unfoldable pub macros_in : List ℕ → List Macro
macros_in text = map macro_of (texts_in text)

abbrev pub or_default : List ℕ → List ℕ → List ℕ
or_default text default = if length text == 0 then default else text

-- a target that isn't stated is DEBUG, and a tool chain's tag GCC
abbrev pub target_in : List ℕ → List ℕ
target_in text = or_default text (codes "DEBUG")

abbrev pub tag_in : List ℕ → List ℕ
tag_in text = or_default text (codes "GCC")

abbrev pub target_of : List ℕ → Macro
target_of text = record { name = codes "TARGET"; value = target_in text }

abbrev pub tag_of : List ℕ → Macro
tag_of text = record { name = codes "TOOL_CHAIN_TAG"; value = tag_in text }

-- those of the words in order, and then the target and the tool chain's tag: of one name the last
-- holds
unfoldable pub macros_of_job : List ℕ → List ℕ → List ℕ → List Macro
macros_of_job target tag texts = macros_in texts ++ target_of target ∷ tag_of tag ∷ []

-- a value that is there, as a list
abbrev pub listed : {A : Type 0} → Option A → List A
listed None = []
listed (Some x) = x ∷ []

-- a value before others, where all are there
abbrev pub before : {A : Type 0} → Option A → Option (List A) → Option (List A)
before None rest = None
before (Some x) None = None
before (Some x) (Some xs) = Some (x ∷ xs)

-- all values, where each is there
unfoldable pub each_there : {A : Type 0} → List (Option A) → Option (List A)
each_there [] = Some []
each_there (value ∷ values) = before value (each_there values)

-- `common` is none that is built
abbrev pub built_arch : Option Arch → Option Arch
built_arch None = None
built_arch (Some Common) = None
built_arch (Some arch) = Some arch

-- an architecture that can be built
abbrev pub arch_in : List ℕ → Option Arch
arch_in text = built_arch (arch_named text)

unfoldable pub arches_in : List ℕ → Option (List Arch)
arches_in text = each_there (map arch_in (texts_in text))

-- the value that the words give a PCD, `Space.Name=Value`
abbrev pub set_named : Place → List ℕ → List ℕ → Option ℕ → Option PcdSet
set_named at pcd value None = None
set_named at pcd value (Some dot) =
    Some
    (record {
      at = at;
      rank = 1;
      pcd =
          record { space = take dot pcd; name = drop (dot + 1) pcd };
      value = value;
    })

abbrev pub set_by : Place → List ℕ → Option ℕ → Option PcdSet
set_by at text None = None
set_by at text (Some i) =
    set_named at (take i text) (drop (i + 1) text) (position (λ byte. byte == 46) (take i text))

-- it stands at a place
unfoldable pub set_in : Place → List ℕ → Option PcdSet
set_in at text = set_by at text (position (λ byte. byte == 61) text)

unfoldable pub sets_in : Place → List ℕ → Option (List PcdSet)
sets_in at text = each_there (map (set_in at) (texts_in text))

-- the text of such a value
abbrev pub set_text : PcdSet → List ℕ
set_text set = set.pcd.space ++ codes "." ++ set.pcd.name ++ codes "=" ++ set.value

-- what stands behind a kind at the head of a line
abbrev pub behind : List ℕ → List ℕ → Option (List ℕ)
behind kind line =
    if starts_with nat_eq line kind then Some (drop (length kind) line) else None

abbrev pub is_image_line : List ℕ → Bool
is_image_line line = is_some (behind (codes "fd ") line) || is_some (behind (codes "fv ") line)

-- the names in lines `fd NAME` as devices, those in lines `fv NAME` as volumes
unfoldable pub images_of : List (List ℕ) → Option Images
images_of lines = if list_all is_image_line lines
    then Some
    (record {
      devices = filter_map (behind (codes "fd ")) lines;
      volumes = filter_map (behind (codes "fv ")) lines;
    }) else None

unfoldable pub images_in : List ℕ → Option Images
images_in text = images_of (texts_in text)

-- the platform's field of a job names a file, and those of the flash description and of the report
-- have readings
abbrev pub is_job : List (List ℕ) → Bool
is_job fields =
    is_some (path_field (slice_index_or fields PLATFORM []))
    && (is_some (file_in (slice_index_or fields FLASH []))
    && is_some (file_in (slice_index_or fields REPORT [])))
