-- Faults of volumes have names.
use Rattle.std.proofs.Common.{Bool, List, None, Option, Some, [], arith, drop, nat_lt, not, refl, true, ℕ, ◌%◌, ◌&&◌, ◌+◌, ◌-◌, ◌==◌, ◌∷◌, ◌≡◌, ◌≤◌}
use Rattle.std.proofs.lemmas.Bool.Decides.{nat_tests}
use Rattle.build_base.specs.FaultCodes.{PAD_TOO_LONG, TOP_FILE_UNALIGNED}
use Rattle.build_base.specs.First.{or_else, unless}
use Rattle.build_base.specs.declared.fault.Fault.{Fault}
use Rattle.named_faults.proofs.NamedLemmas.{if_named, or_else_named, then_fails, unless_fails}
use Rattle.named_faults.specs.Named.{FailsByName, IsNamed}
use Rattle.named_faults.proofs.CodeLemmas.{pad_too_long_named, top_file_twice_named, top_file_unaligned_named, volume_full_named}
use Rattle.doc_types.specs.Volumes.{size_limit}
use Rattle.doc_types.specs.declared.image.FileImage.{FileImage}
use Rattle.doc_types.specs.declared.volume_head.VolumeHead.{VolumeHead}
use Rattle.ffs_sections.specs.File.{header_len}
use Rattle.ffs_sections.specs.Sections.{fault_with_size}
use Rattle.ffs_sections.specs.Standard.{FILE_LIMIT}
use Rattle.fv_compose.specs.Files.{file_end, file_start, pad_fault, pads_fault, plain_files, top_files, top_of, top_pad_fault, top_start}
use Rattle.fv_compose.specs.Header.{header_end}
use Rattle.fv_compose.specs.Place.{align_up}
use Rattle.fv_compose.specs.Places.{places_in, places_of, places_with}
use Rattle.fv_compose.specs.Volume.{HasShape, SizeFits, head_fits, last_end, later_fault, length_of, place_fault, size_fits, top_fault, twice_fault, volume_fault, volume_image, volume_of, with_length}

later_named : (plan : VolumeHead) (files : List FileImage) → IsNamed (later_fault plan files)
later_named plan [] = tt
later_named plan (file ∷ files) = top_file_twice_named

twice_fails : (plan : VolumeHead) (files : List FileImage) → FailsByName (unless (twice_fault plan files) (length_of plan files))
twice_fails plan files = unless_fails (twice_fault plan files) (length_of plan files) (later_named plan (drop 1 (top_files files)))

top_named : (plan : VolumeHead) (top : Option FileImage) (size : ℕ) → IsNamed (top_fault plan top size)
top_named plan None size = tt
top_named plan (Some file) size =
    let start : ℕ = top_start file size in
    if_named (not (start % 8 == 0 && (start + header_len file.bytes) % file.align == 0)) (Some (volume_fault TOP_FILE_UNALIGNED file.at plan)) None top_file_unaligned_named tt

pad_named : (ffs3 : Bool) (at start : ℕ) (file : FileImage) → IsNamed (pad_fault ffs3 at start file)
unfolding pad_fault
pad_named ffs3 at start file =
    let size : ℕ = start - align_up 8 at in
    if_named (not ffs3 && nat_lt FILE_LIMIT size) (Some (fault_with_size PAD_TOO_LONG file.at size)) None pad_too_long_named tt

pads_named : (ffs3 : Bool) (at : ℕ) (files : List FileImage) → IsNamed (pads_fault ffs3 at files)
unfolding pads_fault
pads_named ffs3 at [] = tt
pads_named ffs3 at (file ∷ files) =
    or_else_named (pad_fault ffs3 at (file_start at file) file) (pads_fault ffs3 (file_end at file) files) (pad_named ffs3 at (file_start at file) file) (pads_named ffs3 (file_end at file) files)

top_pad_named : (ffs3 : Bool) (at : ℕ) (top : Option FileImage) (size : ℕ) → IsNamed (top_pad_fault ffs3 at top size)
top_pad_named ffs3 at None size = tt
top_pad_named ffs3 at (Some file) size = pad_named ffs3 at (top_start file size) file

place_named : (plan : VolumeHead) (files : List FileImage) (size : ℕ) → IsNamed (place_fault plan files size)
place_named plan files size =
    let pads : Option Fault = pads_fault plan.ffs3 (header_end plan.name_guid) (plain_files files) in
    let last : Option Fault = top_pad_fault plan.ffs3 (last_end plan files) (top_of files) size in
    or_else_named (top_fault plan (top_of files) size) (or_else pads last) (top_named plan (top_of files) size)
    (or_else_named pads last (pads_named plan.ffs3 (header_end plan.name_guid) (plain_files files)) (top_pad_named plan.ffs3 (last_end plan files) (top_of files) size))

sized_fails : (plan : VolumeHead) (files : List FileImage) (size : Option ℕ) → FailsByName (with_length plan files size)
sized_fails plan files None = volume_full_named
sized_fails plan files (Some size) = unless_fails (place_fault plan files size) (volume_image plan files size) (place_named plan files size)

pub volume_fails : (plan : VolumeHead) (files : List FileImage) → FailsByName (volume_of plan files)
unfolding volume_of
volume_fails plan files = then_fails (unless (twice_fault plan files) (length_of plan files)) (with_length plan files) (twice_fails plan files) (λ size e. sized_fails plan files size)

placed_fails : (plan : VolumeHead) (files : List FileImage) (size : Option ℕ) → FailsByName (places_with plan files size)
placed_fails plan files None = volume_full_named
placed_fails plan files (Some size) = unless_fails (place_fault plan files size) (places_in plan files size) (place_named plan files size)

pub places_fail : (plan : VolumeHead) (files : List FileImage) → FailsByName (places_of plan files)
unfolding places_of
places_fail plan files = then_fails (unless (twice_fault plan files) (length_of plan files)) (places_with plan files) (twice_fails plan files) (λ size e. placed_fails plan files size)

-- A head of a flash description is one that can be made.

size_sure : (block : ℕ) (size : Option ℕ) → SizeFits block size → size_fits block size ≡ true
size_sure block None h = refl
size_sure block (Some size) h =
    let small : size ≤ size_limit = h.0 in
    let whole : size % block ≡ 0 = h.1 in
    grind (arith, nat_tests, small, whole)

pub head_sure : (head : VolumeHead) → HasShape head → head_fits head ≡ true
head_sure head h = size_sure head.block_size head.size h
