-- The keys of a line `KEY = VALUE` in a device and in a volume (EDK II FDF specification, sections
-- 3.5 and 3.7; UEFI PI specification, volume 3, section 3.2.1.1 for the attributes).
use Rattle.std.specs.Prelude.{ℕ, ◌+◌, Bool, ◌&&◌, not, nat_lt, ◌==◌, if◌then◌else◌, List, [], ◌∷◌, length, take, drop, Option, Some, None, codes}
use Rattle.std.specs.List.{list_all, position_or_len}
use Rattle.meta_lexer.specs.Lines.{without_blanks}
use Rattle.meta_lexer.specs.Lookup.{lookup}
use Rattle.meta_lexer.specs.Tokens.{is_word_byte}
use Rattle.meta_lexer.specs.Words.{same_word}
use Rattle.fdf_words.specs.Words.{begins_with, word_of, after_word}
use Rattle.fdf_words.specs.declared.keys.DeviceWord.{DeviceWord}
use Rattle.fdf_words.specs.declared.keys.DeviceWord.TheVariants as device
use Rattle.fdf_words.specs.declared.keys.VolumeWord.{VolumeWord}
use Rattle.fdf_words.specs.declared.keys.VolumeWord.TheVariants as volume
use Rattle.fdf_words.specs.declared.rows.DeviceKey.TheVariants as device_key
use Rattle.fdf_words.specs.declared.rows.VolumeKey.TheVariants as volume_key

-- letters, digits and `_`
unfoldable pub is_key : List ℕ → Bool
is_key text = nat_lt 0 (length text) && list_all is_word_byte text

-- what follows `=` doesn't begin with another `=`
abbrev pub key_and_value : List ℕ → List ℕ → Option (List ℕ × List ℕ)
key_and_value key value = if is_key key && not (begins_with 61 value)
    then Some (key, without_blanks value) else None

-- `KEY = VALUE`, at the first `=`
unfoldable pub key_pair : List ℕ → Option (List ℕ × List ℕ)
key_pair text =
    let i = position_or_len (λ b. b == 61) text in
    if nat_lt i (length text) then key_and_value (without_blanks (take i text)) (drop (i + 1) text)
    else None

abbrev pub device_words : List (List ℕ × DeviceWord)
device_words =
    (codes "BaseAddress", device.Number device_key.BaseAddress)
    ∷ (codes "Size", device.Number device_key.Size)
    ∷ (codes "ErasePolarity", device.Number device_key.ErasePolarity)
    ∷ (codes "BlockSize", device.Number device_key.BlockSize)
    ∷ (codes "NumBlocks", device.Number device_key.NumBlocks)
    ∷ (codes "FV", device.Volume)
    ∷ (codes "FILE", device.Tree)
    ∷ (codes "DATA", device.Bytes)
    ∷ []

unfoldable pub device_word : List ℕ → Option DeviceWord
device_word word = lookup device_words word

abbrev pub volume_words : List (List ℕ × VolumeWord)
volume_words =
    (codes "BlockSize", volume.Number volume_key.BlockSize)
    ∷ (codes "NumBlocks", volume.Number volume_key.NumBlocks)
    ∷ (codes "FvBaseAddress", volume.Number volume_key.FvBaseAddress)
    ∷ (codes "FvAlignment", volume.Number volume_key.FvAlignment)
    ∷ (codes "ERASE_POLARITY", volume.Number volume_key.ErasePolarity)
    ∷ (codes "FvNameGuid", volume.NameGuid)
    ∷ (codes "FileSystemGuid", volume.FileSystem)
    ∷ (codes "FvForceRebase", volume.ForceRebase)
    ∷ (codes "READ_DISABLED_CAP", volume.Attribute 0x1)
    ∷ (codes "READ_ENABLED_CAP", volume.Attribute 0x2)
    ∷ (codes "READ_STATUS", volume.Attribute 0x4)
    ∷ (codes "WRITE_DISABLED_CAP", volume.Attribute 0x8)
    ∷ (codes "WRITE_ENABLED_CAP", volume.Attribute 0x10)
    ∷ (codes "WRITE_STATUS", volume.Attribute 0x20)
    ∷ (codes "LOCK_CAP", volume.Attribute 0x40)
    ∷ (codes "LOCK_STATUS", volume.Attribute 0x80)
    ∷ (codes "STICKY_WRITE", volume.Attribute 0x200)
    ∷ (codes "MEMORY_MAPPED", volume.Attribute 0x400)
    ∷ (codes "READ_LOCK_CAP", volume.Attribute 0x1000)
    ∷ (codes "READ_LOCK_STATUS", volume.Attribute 0x2000)
    ∷ (codes "WRITE_LOCK_CAP", volume.Attribute 0x4000)
    ∷ (codes "WRITE_LOCK_STATUS", volume.Attribute 0x8000)
    ∷ (codes "WEAK_ALIGNMENT", volume.Attribute 0x8000_0000)
    ∷ []

unfoldable pub volume_word : List ℕ → Option VolumeWord
volume_word word = lookup volume_words word

-- the word SET, behind which no `=` stands
unfoldable pub is_set : List ℕ → Bool
is_set text = same_word (word_of text) (codes "SET") && not (begins_with 61 (after_word text))
