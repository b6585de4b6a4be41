-- The lines of a listing; their form is this project's own.
use Rattle.std.specs.Prelude.{ℕ, ◌/◌, ◌%◌, Bool, true, if◌then◌else◌, List, [], ◌∷◌, ◌++◌, replicate, codes}
use Rattle.std.specs.Fmt.{digits, digit_glyph}
use Rattle.uuid.specs.Parts.{swap_fields}
use Rattle.uuid.specs.Text.{hyphenated_text, lower}
use Rattle.build_base.specs.declared.guid.Guid.{Guid}
use Rattle.volume_reader.specs.declared.listed.Listed.{Listed}
use Rattle.volume_reader.specs.declared.listed.ListedSection.{ListedSection}
use Rattle.volume_reader.specs.declared.listed.VolumeList.{VolumeList}

-- a number in hexadecimal, in capitals and without leading zeros
unfoldable pub hex : ℕ → List ℕ
hex n = codes "0x" ++ digits 16 true n

-- a byte as two digits
unfoldable pub two_digits : ℕ → List ℕ
two_digits b = digit_glyph true (b / 16) ∷ digit_glyph true (b % 16) ∷ []

-- a GUID as the registry writes it, in lower case
unfoldable pub guid_text : Guid → List ℕ
guid_text guid = hyphenated_text lower (swap_fields guid.0)

unfoldable pub blanks : ℕ → List ℕ
blanks count = replicate count 0x20

abbrev pub file_system_word : Bool → List ℕ
file_system_word ffs3 = if ffs3 then codes "FFS3" else codes "FFS2"

-- `volume 0xOFFSET 0xLENGTH FFS2`
unfoldable pub volume_line : ℕ → ℕ → VolumeList → List ℕ
volume_line indent offset list =
    blanks indent ++ codes "volume " ++ hex offset ++ codes " " ++ hex list.length ++ codes " "
    ++ file_system_word list.ffs3 ++ codes "\n"

-- `pad 0xPLACE 0xSIZE`
unfoldable pub pad_line : ℕ → Listed → List ℕ
pad_line indent file = blanks indent ++ codes "pad " ++ hex file.place ++ codes " " ++ hex file.size
    ++ codes "\n"

-- `file 0xPLACE GUID TT 0xSIZE`
unfoldable pub file_line : ℕ → Listed → List ℕ
file_line indent file =
    blanks indent ++ codes "file " ++ hex file.place ++ codes " " ++ guid_text file.guid
    ++ codes " " ++ two_digits file.file_type ++ codes " "
    ++ hex file.size ++ codes "\n"

-- `section KK 0xSIZE`
unfoldable pub section_line : ℕ → ListedSection → List ℕ
section_line indent section = blanks indent ++ codes "section " ++ two_digits section.kind
    ++ codes " " ++ hex section.size ++ codes "\n"

-- `free 0xSIZE`
unfoldable pub free_line : ℕ → ℕ → List ℕ
free_line indent free = blanks indent ++ codes "free " ++ hex free ++ codes "\n"
