use Rattle.std.proofs.Common.{◌≡◌, ◌+◌, ◌*◌, ◌++◌, length}
use Rattle.std.specs.List.{flat_map}
use Rattle.volume_reader.specs.Listing.{section_text, file_text, content_text}
use Rattle.volume_reader.proofs.nested.+volumes.Given as goal

abbrev pub decreases-put_content : goal.decreases-put_content
decreases-put_content l = 6 * l.depth

abbrev pub decreases-put_section : goal.decreases-put_section
decreases-put_section l = 6 * l.depth + 1

abbrev pub decreases-put_sections : goal.decreases-put_sections
decreases-put_sections l = 6 * l.depth + 2

abbrev pub decreases-put_file : goal.decreases-put_file
decreases-put_file l = 6 * l.depth + 3

abbrev pub decreases-put_files : goal.decreases-put_files
decreases-put_files l = 6 * l.depth + 4

abbrev pub decreases-put_volume : goal.decreases-put_volume
decreases-put_volume l = 6 * l.depth + 5

abbrev pub invariant-put_sections-loop-left : goal.invariant-put_sections-loop-left
invariant-put_sections-loop-left l =
    l.out.items ++ flat_map (section_text (content_text l.depth) l.indent l.bytes) l.left ≡ l.initial.out.items ++ flat_map (section_text (content_text l.depth) l.indent l.bytes) l.sections

abbrev pub decreases-put_sections-loop-left : goal.decreases-put_sections-loop-left
decreases-put_sections-loop-left l = length l.left

abbrev pub invariant-put_files-loop-left : goal.invariant-put_files-loop-left
invariant-put_files-loop-left l =
    l.out.items ++ flat_map (file_text (content_text l.depth) l.indent l.bytes) l.left ≡ l.initial.out.items ++ flat_map (file_text (content_text l.depth) l.indent l.bytes) l.files

abbrev pub decreases-put_files-loop-left : goal.decreases-put_files-loop-left
decreases-put_files-loop-left l = length l.left
