-- Faults of volumes whose modules are moved have names.
use Rattle.std.proofs.Common.{Bool, Err, List, None, Ok, Option, Result, Some, [], drop, if◌then◌else◌, length, map, not, suc, take, zero, ℕ, ◌++◌, ◌+◌, ◌-◌, ◌==◌, ◌∷◌}
use Rattle.std.specs.List.{range_with_len}
use Rattle.std.specs.Prelude.{find}
use Rattle.build_base.specs.FaultCodes.{NOT_IN_PLACE, RELOC_BLOCK, RELOC_TYPE}
use Rattle.build_base.specs.First.{and_then, with_front}
use Rattle.build_base.specs.declared.fault.Fault.{Fault}
use Rattle.build_base.specs.declared.fault.Place.{Place}
use Rattle.named_faults.proofs.NamedLemmas.{first_named, front_fails, if_fails, if_named, mapped_named, or_fault_fails, then_fails, mapped_option_named}
use Rattle.named_faults.specs.Named.{FailsByName, IsNamed}
use Rattle.named_faults.proofs.CodeLemmas.{base_range_named, not_in_place_named, reloc_block_named, reloc_outside_named, reloc_type_named}
use Rattle.doc_types.specs.declared.image.FileImage.{FileImage}
use Rattle.doc_types.specs.declared.volume_head.VolumeHead.{VolumeHead}
use Rattle.ffs_sections.specs.File.{header_len}
use Rattle.ffs_sections.specs.Sections.{fault_with_size}
use Rattle.fv_compose.specs.Places.{places_of}
use Rattle.fv_compose.specs.Volume.{volume_of}
use Rattle.volume_reader.specs.Sections.{sections_of}
use Rattle.volume_reader.specs.declared.listed.ListedSection.{ListedSection}
use Rattle.image_rebase.specs.Blocks.{block_at, block_size, blocks_from, blocks_of, directory_in, entries_in, is_end, is_wrong_size, lies_past}
use Rattle.image_rebase.specs.Bytes.{with_number}
use Rattle.image_rebase.specs.Files.{content_in, content_length, file_body, file_head, has_module, has_sections, moved_bytes, moved_file, moved_files, moved_from, moved_sections, with_body, with_file_bytes, with_found}
use Rattle.image_rebase.specs.Module.{module_in}
use Rattle.image_rebase.specs.Moves.{blocks_fault, difference, entry_offset, entry_type, is_misplaced, is_type, lies_outside, misplaced, module_blocks, moved_blocks, moved_by, moved_by_blocks, moved_content, moved_entries, moved_in_range, moved_module, moved_to, moved_with, moved_word, moved_words, new_base, out_of_range, outside_fault, range_fault, sum_at, type_fault, types_fault, width_of, with_base, word_end}
use Rattle.image_rebase.specs.Rebase.{base_of, moved_volume, rebased_bytes}
use Rattle.image_rebase.specs.declared.blocks.Block.{Block}
use Rattle.image_rebase.specs.declared.module.Module.{Module}
use Rattle.image_faults.proofs.VolumeFaults.{places_fail, volume_fails}

-- Blocks and their entries.

blocks_fail : (n : ℕ) (place : Place) (at : ℕ) (left : List ℕ) → FailsByName (blocks_from n place at left)
unfolding blocks_from
blocks_fail zero place at left = tt
blocks_fail (suc n) place at left =
    let rest : Result (List Block) Fault = blocks_from n place (at + block_size left) (drop (block_size left) left) in
    let more : Result (List Block) Fault = with_front (block_at at left ∷ []) rest in
    let wrong : Result (List Block) Fault = Err (fault_with_size RELOC_BLOCK place at) in
    if_fails (is_end left) (Ok []) (if is_wrong_size (block_size left) (length left) then wrong else more) tt
    (if_fails (is_wrong_size (block_size left) (length left)) wrong more reloc_block_named
    (front_fails (block_at at left ∷ []) rest (blocks_fail n place (at + block_size left) (drop (block_size left) left))))

type_named : (place : Place) (entry : ℕ) → IsNamed (type_fault place entry)
unfolding type_fault
type_named place entry = if_named (not (is_type (entry_type entry))) (Some (fault_with_size RELOC_TYPE place (entry_type entry))) None reloc_type_named tt

types_named : (place : Place) (entries : List ℕ) → IsNamed (types_fault place entries)
types_named place entries = first_named (map (type_fault place) entries) (mapped_named (type_fault place) entries (type_named place))

types_of_blocks_named : (place : Place) (directory : List ℕ) (blocks : List Block) → IsNamed (blocks_fault place directory blocks)
types_of_blocks_named place directory blocks =
    let fault : Block → Option Fault = λ block. types_fault place (entries_in directory block) in
    first_named (map fault blocks) (mapped_named fault blocks (λ block. types_named place (entries_in directory block)))

word_fails : (place : Place) (skip by address width : ℕ) (content : List ℕ) → FailsByName (moved_word place skip by address width content)
unfolding moved_word
word_fails place skip by address width content =
    if_fails (lies_outside skip address width (length content)) (Err (outside_fault place (word_end skip address width) (length content)))
    (Ok (with_number width (address - skip) (sum_at width (address - skip) by content) content)) reloc_outside_named tt

entry_fails : (place : Place) (skip by page entry : ℕ) (content : List ℕ) → FailsByName (moved_by place skip by page entry content)
unfolding moved_by
entry_fails place skip by page entry content =
    let address : ℕ = page + entry_offset entry in
    let width : ℕ = width_of (entry_type entry) in
    if_fails (width == 0) (Ok content) (moved_word place skip by address width content) tt (word_fails place skip by address width content)

entries_fail : (place : Place) (skip by page : ℕ) (entries content : List ℕ) → FailsByName (moved_entries place skip by page entries content)
unfolding moved_entries
entries_fail place skip by page [] content = tt
entries_fail place skip by page (entry ∷ entries) content =
    then_fails (moved_by place skip by page entry content) (moved_entries place skip by page entries) (entry_fails place skip by page entry content) (λ moved e. entries_fail place skip by page entries moved)

blocks_moved_fail : (place : Place) (skip by : ℕ) (directory : List ℕ) (blocks : List Block) (content : List ℕ) → FailsByName (moved_blocks place skip by directory blocks content)
unfolding moved_blocks
blocks_moved_fail place skip by directory [] content = tt
blocks_moved_fail place skip by directory (block ∷ blocks) content =
    then_fails (moved_entries place skip by block.page (entries_in directory block) content) (moved_blocks place skip by directory blocks)
    (entries_fail place skip by block.page (entries_in directory block) content) (λ moved e. blocks_moved_fail place skip by directory blocks moved)

-- Modules.

words_fail : (place : Place) (m : Module) (new : ℕ) (content directory : List ℕ) (blocks : List Block) → FailsByName (moved_words place m new content directory blocks)
unfolding moved_words
words_fail place m new content directory blocks =
    then_fails (moved_blocks place m.skip (difference new m.base) directory blocks content) (λ moved. Ok (with_base m new moved))
    (blocks_moved_fail place m.skip (difference new m.base) directory blocks content) (λ moved e. tt)

by_blocks_fail : (place : Place) (m : Module) (new : ℕ) (content : List ℕ) (blocks : List Block) → FailsByName (moved_by_blocks place m new content blocks)
unfolding moved_by_blocks
by_blocks_fail place m new content blocks =
    let directory : List ℕ = directory_in m content in
    or_fault_fails (blocks_fault place directory blocks) (moved_words place m new content directory blocks) (types_of_blocks_named place directory blocks) (λ e. words_fail place m new content directory blocks)

module_blocks_fail : (place : Place) (m : Module) (content : List ℕ) → FailsByName (module_blocks place m content)
unfolding module_blocks
module_blocks_fail place m content =
    let directory : List ℕ = directory_in m content in
    if_fails (lies_past m (length content)) (Err (fault_with_size RELOC_BLOCK place 0)) (blocks_of place directory) reloc_block_named (blocks_fail (length directory + 1) place 0 directory)

to_base_fails : (place : Place) (m : Module) (new : ℕ) (content : List ℕ) → FailsByName (moved_to place m new content)
unfolding moved_to
to_base_fails place m new content =
    then_fails (module_blocks place m content) (moved_by_blocks place m new content) (module_blocks_fail place m content) (λ blocks e. by_blocks_fail place m new content blocks)

in_range_fails : (place : Place) (base address : ℕ) (m : Module) (content : List ℕ) → FailsByName (moved_in_range place base address m content)
unfolding moved_in_range
in_range_fails place base address m content =
    if_fails (out_of_range m address) (Err (range_fault place base)) (moved_to place m (new_base m address) content) base_range_named (to_base_fails place m (new_base m address) content)

module_fails : (place : Place) (base address : ℕ) (m : Module) (content : List ℕ) → FailsByName (moved_module place base address m content)
unfolding moved_module
module_fails place base address m content =
    or_fault_fails (misplaced place m content) (moved_in_range place base address m content)
    (mapped_option_named (λ number. fault_with_size NOT_IN_PLACE place number) (find (is_misplaced m content) (range_with_len 0 m.sections)) (λ number. not_in_place_named))
    (λ e. in_range_fails place base address m content)

with_fails : (place : Place) (base address : ℕ) (found : Option Module) (content : List ℕ) → FailsByName (moved_with place base address found content)
with_fails place base address None content = tt
with_fails place base address (Some m) content = module_fails place base address m content

content_fails : (place : Place) (base address kind : ℕ) (content : List ℕ) → FailsByName (moved_content place base address kind content)
unfolding moved_content
content_fails place base address kind content = with_fails place base address (module_in kind content) content

-- Files.

sections_fail : (place : Place) (base address : ℕ) (body : List ℕ) (at : ℕ) (sections : List ListedSection) → FailsByName (moved_from place base address body at sections)
unfolding moved_from
sections_fail place base address body at [] = tt
sections_fail place base address body at (section ∷ sections) =
    let content : Result (List ℕ) Fault = moved_content place base (address + section.start) section.kind (content_in body section) in
    let rest : Result (List ℕ) Fault = moved_from place base address body (section.start + content_length section) sections in
    let front : List ℕ → List ℕ = λ moved. take (section.start - at) (drop at body) ++ moved in
    if_fails (has_module section) (and_then content (λ moved. with_front (front moved) rest)) (moved_from place base address body at sections)
    (then_fails content (λ moved. with_front (front moved) rest) (content_fails place base (address + section.start) section.kind (content_in body section))
    (λ moved e. front_fails (front moved) rest (sections_fail place base address body (section.start + content_length section) sections)))
    (sections_fail place base address body at sections)

found_fails : (place : Place) (base address : ℕ) (bytes : List ℕ) (found : Option (List ListedSection)) → FailsByName (with_found place base address bytes found)
found_fails place base address bytes None = tt
found_fails place base address bytes (Some sections) =
    then_fails (moved_from place base (address + header_len bytes) (file_body bytes) 0 sections) (λ body. Ok (with_body (file_head bytes) body))
    (sections_fail place base (address + header_len bytes) (file_body bytes) 0 sections) (λ body e. tt)

bytes_fail : (ffs3 : Bool) (place : Place) (base address : ℕ) (bytes : List ℕ) → FailsByName (moved_bytes ffs3 place base address bytes)
unfolding moved_bytes moved_sections
bytes_fail ffs3 place base address bytes =
    let found : Option (List ListedSection) = sections_of ffs3 0 (file_body bytes) in
    if_fails (has_sections bytes) (with_found place base address bytes found) (Ok bytes) (found_fails place base address bytes found) tt

one_fails : (ffs3 : Bool) (base start : ℕ) (file : FileImage) → FailsByName (moved_file ffs3 base start file)
unfolding moved_file
one_fails ffs3 base start file =
    then_fails (moved_bytes ffs3 file.at base (base + start) file.bytes) (λ bytes. Ok (with_file_bytes file bytes)) (bytes_fail ffs3 file.at base (base + start) file.bytes) (λ bytes e. tt)

files_fail : (ffs3 : Bool) (base : ℕ) (files : List FileImage) (starts : List ℕ) → FailsByName (moved_files ffs3 base files starts)
unfolding moved_files
files_fail ffs3 base [] starts = tt
files_fail ffs3 base (file ∷ files) [] = tt
files_fail ffs3 base (file ∷ files) (start ∷ starts) =
    then_fails (moved_file ffs3 base start file) (λ moved. with_front (moved ∷ []) (moved_files ffs3 base files starts)) (one_fails ffs3 base start file)
    (λ moved e. front_fails (moved ∷ []) (moved_files ffs3 base files starts) (files_fail ffs3 base files starts))

-- Volumes.

moved_volume_fails : (head : VolumeHead) (files : List FileImage) (places : List ℕ) → FailsByName (moved_volume head files places)
unfolding moved_volume
moved_volume_fails head files places =
    then_fails (moved_files head.ffs3 (base_of head) files places) (volume_of head) (files_fail head.ffs3 (base_of head) files places) (λ moved e. volume_fails head moved)

pub rebased_fails : (head : VolumeHead) (files : List FileImage) → FailsByName (rebased_bytes head files)
unfolding rebased_bytes
rebased_fails head files = then_fails (places_of head files) (moved_volume head files) (places_fail head files) (λ places e. moved_volume_fails head files places)
