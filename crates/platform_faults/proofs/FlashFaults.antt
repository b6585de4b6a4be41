-- The fault of a flash description has a name.
use Rattle.std.proofs.Common.{ℕ, ◌%◌, ◌-◌, ◌*◌, ◌==◌, Bool, nat_le, List, [], ◌∷◌, map, Option, Some, None}
use Rattle.std.specs.Prelude.{is_some, decimal, slice_get}
use Rattle.build_base.specs.FaultText.{fault_of}
use Rattle.build_base.specs.declared.fault.Fault.{Fault}
use Rattle.build_base.specs.declared.fault.Place.{Place}
use Rattle.build_base.specs.declared.lines.Lines.{Lines}
use Rattle.build_base.specs.declared.lines.Taken.{Taken}
use Rattle.meta_lexer.specs.Faults.{first_fault}
use Rattle.doc_types.specs.Volumes.{size_limit}
use Rattle.fdf_lines.specs.Grammar.{flash_grammar, rows_of_flash}
use Rattle.fdf_words.specs.declared.rows.Content.{Content}
use Rattle.fdf_words.specs.declared.rows.Content.TheVariants as content
use Rattle.fdf_words.specs.declared.rows.LineRead.{LineRead}
use Rattle.fdf_words.specs.declared.rows.LineRead.TheVariants.{Heads, Body}
use Rattle.fdf_words.specs.declared.rows.Row.{Row}
use Rattle.fdf_words.specs.declared.rows.Row.TheVariants as row
use Rattle.fdf_words.specs.declared.rows.SectionBody.{SectionBody}
use Rattle.fdf_words.specs.declared.rows.SectionBody.TheVariants as body
use Rattle.flash_document.specs.Devices.{capped}
use Rattle.flash_document.specs.Document.{document_of, flash_of_lines}
use Rattle.flash_document.specs.Flash.{line_of, flash_of}
use Rattle.flash_document.specs.Names.{place_of}
use Rattle.flash_document.specs.Parts.{all_stated}
use Rattle.flash_document.specs.Whole.{volumes_of, names_of, nests_of, all_held, differing_size, first_size, block_of, size_of, unequal, check_is_stated, part_unstated, size_fault, held_by, held_first, part_too_large, loop_at, loop_named, loop_fault, unknown, content_unknown, body_unknown, row_unknown, line_unknown, device_blocks, check_equal_sizes, whole_blocks, blocks_with, part_blocks, two_sizes, part_sizes, named_twice, twin, twin_marks, first_marked, whole_fault}
use Rattle.flash_document.proofs.SectionCases.{section_cases}
use Rattle.volume_nesting.specs.Numbering.{first_loop}
use Rattle.build_base.specs.FaultCodes.{BLOCKS_DIFFER, SIZE_TOO_LARGE, VOLUME_TWO_SIZES, VOLUME_UNKNOWN}
use Rattle.named_faults.specs.Named.{IsNameCode, IsNamed, FailsByName}
use Rattle.named_faults.proofs.NamedLemmas.{if_named, or_else_named, first_named, then_fails, unless_fails}
use Rattle.named_faults.proofs.CodeLemmas.{blocks_differ_named, fdf_missing_key_named, fdf_repeated_name_named, size_too_large_named, volume_loop_named, volume_two_sizes_named, volume_unknown_named}
use Rattle.text_faults.proofs.PartLemmas.{first_fault_named}
use Rattle.text_faults.proofs.GrammarLemmas.{reading_fails}
use Rattle.platform_faults.proofs.ItemTypes.{ItemOf, ValueOf}
use Rattle.platform_faults.proofs.FdfLineLemmas.{flash_named}

abbrev FdfSection : Type 0
FdfSection = ItemOf (all_stated [])

abbrev StatedVolume : Type 0
StatedVolume = ItemOf (volumes_of [])

abbrev HeldRegion : Type 0
HeldRegion = ItemOf (all_held [])

abbrev HeldSizes : Type 0
HeldSizes = ValueOf (held_by [] [])

-- devices
is_stated_named : (at : Place) (base size : Option ℕ) → IsNamed (check_is_stated at base size)
is_stated_named at None size = fdf_missing_key_named
is_stated_named at (Some base) None = fdf_missing_key_named
is_stated_named at (Some base) (Some size) = tt

unstated_named : (part : FdfSection) → IsNamed (part_unstated part)
unstated_named = section_cases (λ part. IsNamed (part_unstated part)) tt (λ device. is_stated_named device.at device.base device.size) (λ volume. tt) (λ rule. tt)

-- sizes of volumes
size_named : (at : Place) (size : Option ℕ) → IsNamed (size_fault at size)
size_named at (Some size) = if_named (nat_le size size_limit) None (Some (fault_of SIZE_TOO_LARGE at (decimal size))) tt size_too_large_named
size_named at None = tt

large_named : (regions : List HeldRegion) (again : Bool) (part : FdfSection) → IsNamed (part_too_large regions again part)
large_named regions again = section_cases (λ part. IsNamed (part_too_large regions again part)) tt (λ device. tt) (λ volume. size_named volume.at (size_of volume (held_first regions again volume))) (λ rule. tt)

-- volumes that hold themselves
loop_at_named : (volume : Option StatedVolume) → IsNamed (loop_at volume)
loop_at_named None = tt
loop_at_named (Some volume) = volume_loop_named

loop_of_named : (volumes : List StatedVolume) (place : Option ℕ) → IsNamed (loop_named volumes place)
loop_of_named volumes None = tt
loop_of_named volumes (Some p) = loop_at_named (slice_get volumes p)

-- names of volumes
unknown_named : (names : List (List ℕ)) (at : Place) (name : List ℕ) → IsNamed (unknown names at name)
unknown_named names at name = if_named (is_some (place_of names name)) None (Some (fault_of VOLUME_UNKNOWN at name)) tt volume_unknown_named

content_named : (names : List (List ℕ)) (at : Place) (stated : Content) → IsNamed (content_unknown names at stated)
content_named names at (content.Volume name) = unknown_named names at name
content_named names at (content.Tree path) = tt
content_named names at (content.Bytes bytes) = tt

body_named : (names : List (List ℕ)) (at : Place) (stated : SectionBody) → IsNamed (body_unknown names at stated)
body_named names at (body.Volume name) = unknown_named names at name
body_named names at (body.Tree path) = tt
body_named names at (body.Words text) = tt

row_named : (names : List (List ℕ)) (r : Row) → IsNamed (row_unknown names r)
row_named names (row.Content stated) = content_named names stated.at stated.content
row_named names (row.Section section) = body_named names section.at section.body
row_named names row.Ignored = tt
row_named names (row.Set x) = tt
row_named names (row.Number x) = tt
row_named names (row.Region x) = tt
row_named names (row.Pcds x) = tt
row_named names (row.Setting x) = tt
row_named names (row.Apriori x) = tt
row_named names (row.Member x) = tt
row_named names (row.Inf x) = tt
row_named names (row.File x) = tt
row_named names (row.Whole x) = tt
row_named names row.Closes = tt
row_named names (row.RuleFile x) = tt
row_named names (row.RuleSection x) = tt

line_named : (names : List (List ℕ)) (line : LineRead) → IsNamed (line_unknown names line)
line_named names (Heads at scopes) = tt
line_named names (Body rows) = first_fault_named (row_unknown names) rows (row_named names)

-- blocks
equal_named : (code : ℕ) → IsNameCode code → (at : Place) (size : ℕ) (other : Option ℕ) → IsNamed (check_equal_sizes code at size other)
equal_named code n at size (Some other) = n
equal_named code n at size None = tt

device_blocks_named : (at : Place) (blocks : ℕ) (size : Option ℕ) → IsNamed (device_blocks at blocks size)
device_blocks_named at blocks (Some size) = if_named (blocks == size) None (Some (fault_of BLOCKS_DIFFER at (unequal blocks size))) tt blocks_differ_named
device_blocks_named at blocks None = tt

whole_blocks_named : (at : Place) (block : ℕ) (size : Option ℕ) → IsNamed (whole_blocks at block size)
whole_blocks_named at block (Some size) = if_named (size % block == 0) None (Some (fault_of BLOCKS_DIFFER at (unequal size (size - size % block)))) tt blocks_differ_named
whole_blocks_named at block None = tt

blocks_with_named : (at : Place) (held : Option HeldSizes) (block : ℕ) (blocks : Option ℕ) → IsNamed (blocks_with at held block blocks)
blocks_with_named at held block (Some blocks) = equal_named BLOCKS_DIFFER blocks_differ_named at (capped (block * blocks)) (differing_size (capped (block * blocks)) held)
blocks_with_named at held block None = whole_blocks_named at block (first_size held)

blocks_named : (regions : List HeldRegion) (again : Bool) (part : FdfSection) → IsNamed (part_blocks regions again part)
blocks_named regions again =
    section_cases (λ part. IsNamed (part_blocks regions again part)) tt (λ device. device_blocks_named device.at device.blocks device.size)
    (λ volume. blocks_with_named volume.at (held_first regions again volume) (block_of volume (held_first regions again volume)) volume.blocks) (λ rule. tt)

two_named : (at : Place) (held : Option HeldSizes) → IsNamed (two_sizes at held)
two_named at None = tt
two_named at (Some held) = equal_named VOLUME_TWO_SIZES volume_two_sizes_named at held.first held.other

sizes_named : (regions : List HeldRegion) (again : Bool) (part : FdfSection) → IsNamed (part_sizes regions again part)
sizes_named regions again = section_cases (λ part. IsNamed (part_sizes regions again part)) tt (λ device. tt) (λ volume. two_named volume.at (held_first regions again volume)) (λ rule. tt)

-- names that stand twice
twice_named : (part : FdfSection) → IsNamed (named_twice part)
twice_named = section_cases (λ part. IsNamed (named_twice part)) tt (λ device. fdf_repeated_name_named) (λ volume. fdf_repeated_name_named) (λ rule. fdf_repeated_name_named)

twin_named : (again : Bool) (part : FdfSection) → IsNamed (twin again part)
twin_named again part = if_named again (named_twice part) None (twice_named part) tt

marked_named : (fault : Bool → FdfSection → Option Fault) → ((again : Bool) (part : FdfSection) → IsNamed (fault again part)) → (parts : List FdfSection) (marks : List Bool)
    → IsNamed (first_marked fault parts marks)
marked_named fault n [] marks = tt
marked_named fault n (part ∷ parts) [] = tt
marked_named fault n (part ∷ parts) (again ∷ marks) = or_else_named (fault again part) (first_marked fault parts marks) (n again part) (marked_named fault n parts marks)

-- the whole
whole_named : (lines : List LineRead) (parts : List FdfSection) → IsNamed (whole_fault lines parts)
unfolding whole_fault
whole_named lines parts =
    let marks : List Bool = twin_marks parts [] in
    let regions : List HeldRegion = all_held parts in
    first_named
    (first_fault part_unstated parts ∷ first_marked (part_too_large regions) parts marks ∷ loop_fault parts ∷ first_fault (line_unknown (names_of parts)) lines
    ∷ first_marked (part_blocks regions) parts marks ∷ first_marked (part_sizes regions) parts marks ∷ first_marked twin parts marks ∷ []) (
      first_fault_named part_unstated parts unstated_named,
      (
        marked_named (part_too_large regions) (large_named regions) parts marks,
        (
          loop_of_named (volumes_of parts) (first_loop (nests_of parts)),
          (
            first_fault_named (line_unknown (names_of parts)) lines (line_named (names_of parts)),
            (
              marked_named (part_blocks regions) (blocks_named regions) parts marks,
              (marked_named (part_sizes regions) (sizes_named regions) parts marks, (marked_named twin twin_named parts marks, tt)),
            ),
          ),
        ),
      ),
    )

lines_fail : (root : List ℕ) (lines : List LineRead) → FailsByName (flash_of_lines root lines)
unfolding flash_of_lines
lines_fail root lines = unless_fails (whole_fault lines (all_stated lines)) (document_of root lines (all_stated lines)) (whole_named lines (all_stated lines))

-- so has that of its lines
pub rows_fail : (lines : List Taken) → FailsByName (rows_of_flash lines)
unfolding rows_of_flash
rows_fail lines = reading_fails flash_grammar flash_named lines

pub flash_fails : (lines : Lines) → FailsByName (flash_of lines)
unfolding flash_of
flash_fails lines =
    then_fails (rows_of_flash lines.rows) (λ reads. flash_of_lines lines.root (map line_of reads)) (rows_fail lines.rows)
    (λ reads e. lines_fail lines.root (map line_of reads))
