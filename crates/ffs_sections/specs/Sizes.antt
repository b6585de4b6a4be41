-- The size of a firmware file, by the lengths and the alignments of its sections alone (UEFI PI
-- specification, volume 3, sections 3.2.3 and 3.2.4).
use Rattle.std.specs.Prelude.{◌≡◌, ℕ, ◌+◌, Bool, if◌then◌else◌, List, [], ◌∷◌, length, unwrap_or, Result, Ok, Err}
use Rattle.build_base.specs.First.{unless, and_then}
use Rattle.build_base.specs.declared.fault.Place.{Place}
use Rattle.build_base.specs.declared.fault.Fault.{Fault}
use Rattle.doc_types.specs.declared.image.Part.{Part}
use Rattle.doc_types.specs.declared.image.Body.{Body}
use Rattle.doc_types.specs.declared.image.Body.TheVariants.{Whole, Sections}
use Rattle.doc_types.specs.declared.image.ImagePlan.{ImagePlan}
use Rattle.ffs_sections.specs.Alignment.{is_section_alignment}
use Rattle.ffs_sections.specs.Sections.{up4, part_pad, part_fault, section_size, fault_with_size}
use Rattle.ffs_sections.specs.File.{file_size, size_fault, file_of}
use Rattle.build_base.specs.FaultCodes.{ALIGNMENT_REFUSED}

-- where a body ends with one section more
abbrev pub part_end : Bool → ℕ → Part → ℕ
part_end ffs3 at part = up4 at + unwrap_or (part_pad ffs3 at part) 0
    + section_size ffs3 part.guid (length part.bytes)

-- where a body ends with these sections more, or the first fault of one
unfoldable pub parts_end : Bool → Place → ℕ → List Part → Result ℕ Fault
parts_end ffs3 place at [] = Ok at
parts_end ffs3 place at (part ∷ parts) =
    and_then (unless (part_fault ffs3 place at part) (part_end ffs3 at part))
    (λ end. parts_end ffs3 place end parts)

abbrev pub body_length : ImagePlan → Body → Result ℕ Fault
body_length plan (Whole bytes) = Ok (length bytes)
body_length plan (Sections parts) = parts_end plan.ffs3 plan.at 0 parts

abbrev pub size_checked : ImagePlan → ℕ → Result ℕ Fault
size_checked plan count = unless (size_fault plan count) (file_size plan.ffs3 count)

-- the size of the file, or its fault
unfoldable pub file_length : ImagePlan → Result ℕ Fault
file_length plan =
    if is_section_alignment plan.align
    then and_then (body_length plan plan.body) (size_checked plan)
    else Err (fault_with_size ALIGNMENT_REFUSED plan.at plan.align)

-- that of the file's own bytes
abbrev pub IsFileLength : ImagePlan → Type 0
IsFileLength plan =
    and_then (file_of plan) (λ file. Ok (length file.bytes)) ≡ file_length plan
