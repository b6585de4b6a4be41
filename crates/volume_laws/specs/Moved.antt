-- What is read of a volume whose modules are moved: what is read of the volume as it stands, but
-- for the sections.
use Rattle.std.specs.Prelude.{◌≡◌, ℕ, ◌^◌, ◌<◌, ◌==◌, true, if◌then◌else◌, List, [], length, map, bit_and, All, Some, IfSome, Ok}
use Rattle.doc_types.specs.declared.volume_head.VolumeHead.{VolumeHead}
use Rattle.fv_compose.specs.Volume.{HasShape}
use Rattle.volume_reader.specs.declared.listed.Listed.{Listed}
use Rattle.volume_reader.specs.declared.listed.VolumeList.{VolumeList}
use Rattle.volume_reader.specs.Head.{is_head, volume_from}
use Rattle.volume_reader.specs.Volume.{volume_list}
use Rattle.volume_reader.specs.Written.{Made, IsMade, written_list}

-- a file without its sections
abbrev pub bare : Listed → Listed
bare row =
    record {
      place = row.place;
      guid = row.guid;
      file_type = row.file_type;
      size = row.size;
      sections = [];
    }

-- two volumes have the same length, file system, free space and files, but for the sections
pub record IsAlike (a b : VolumeList) : Type 0 where
  pub length : a.length ≡ b.length
  pub ffs3 : a.ffs3 ≡ b.ffs3
  pub files : map bare a.files ≡ map bare b.files
  pub free : a.free ≡ b.free

-- these are files for a volume of this head, which has its shape
pub record AreBuilt (head : VolumeHead) (made : List Made) : Type 0 where
  pub shape : HasShape head
  pub attributes : head.attributes < 2 ^ 32
  pub erased : bit_and head.attributes 0x800 ≡ (if head.erase == 0 then 0 else 0x800)
  pub name : IfSome head.name_guid (λ name. length name.0 ≡ 16)
  pub files : All (IsMade head) made

-- What is read of an image is what is read of a volume that is written with these files, but for
-- the sections.
pub record IsReadAlike (head : VolumeHead) (made : List Made) (image : List ℕ) : Type 0 where
  pub head_is : is_head image ≡ true
  pub found : volume_from image 0 ≡ Some 0
  pub list : VolumeList
  pub read : volume_list image ≡ Ok list
  pub alike : IsAlike list (written_list head made (length image))
