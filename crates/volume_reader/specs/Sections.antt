-- The sections of a file that is read (UEFI PI specification, volume 3, section 3.2.4). They are
-- those that a file is made with: in FFS3 a section whose size doesn't fit has that size behind its
-- kind.
use Rattle.std.specs.Prelude.{◌≤◌, ◌<◌, IsTrue, ℕ, zero, suc, ◌+◌, ◌-◌, ◌==◌, ◌&&◌, Bool, nat_lt, nat_le, if◌then◌else◌, List, [], ◌∷◌, length, take, drop, slice_index, Option, Some, None}
use Rattle.std.specs.List.{list_all}
use Rattle.std.specs.Option.{option_map}
use Rattle.byteorder.specs.Endian.{little_from}
use Rattle.doc_types.specs.Standard.{EFI_SECTION_FREEFORM_SUBTYPE_GUID}
use Rattle.ffs_sections.specs.Standard.{EXTENDED_SIZE, SECTION_LIMIT}
use Rattle.ffs_sections.specs.Sections.{up4}
use Rattle.volume_reader.specs.declared.listed.ListedSection.{ListedSection}

-- fields of the section that some bytes begin with
unfoldable pub short_size : List ℕ → ℕ
short_size bytes = little_from 0 3 bytes

unfoldable pub section_kind : List ℕ → ℕ
section_kind bytes = slice_index bytes 3

unfoldable pub extended_size : List ℕ → ℕ
extended_size bytes = little_from 4 4 bytes

-- whether its size stands behind its kind
unfoldable pub is_extended : Bool → List ℕ → Bool
is_extended ffs3 bytes = ffs3 && short_size bytes == EXTENDED_SIZE

unfoldable pub section_size : Bool → List ℕ → ℕ
section_size ffs3 bytes = if is_extended ffs3 bytes then extended_size bytes else short_size bytes

-- where its content stands in it: behind the header, and in a SUBTYPE_GUID section behind a GUID
unfoldable pub content_at : Bool → List ℕ → ℕ
content_at ffs3 bytes =
    (if is_extended ffs3 bytes then 8 else 4)
    + (if section_kind bytes == EFI_SECTION_FREEFORM_SUBTYPE_GUID then 16 else 0)

-- a size stands behind the kind where with the header of 4 bytes it would be over the limit, and
-- there alone
unfoldable pub has_size_form : Bool → List ℕ → Bool
has_size_form ffs3 bytes = if is_extended ffs3 bytes
    then nat_lt SECTION_LIMIT (extended_size bytes - 4) else nat_le (short_size bytes) SECTION_LIMIT

-- whether these bytes begin with a section
unfoldable pub is_section : Bool → List ℕ → Bool
is_section ffs3 bytes = has_size_form ffs3 bytes
    && nat_le (content_at ffs3 bytes) (section_size ffs3 bytes)
    && nat_le (section_size ffs3 bytes) (length bytes)

-- the fields that tell a section's size lie within these bytes
pub record HasFields (ffs3 : Bool) (bytes : List ℕ) : Type 0 where
  pub short : 4 ≤ length bytes
  pub long : IsTrue (is_extended ffs3 bytes) → 8 ≤ length bytes

-- the section that stands at a place of the volume
abbrev pub listed_section : Bool → ℕ → List ℕ → ListedSection
listed_section ffs3 place bytes =
    record {
      kind = section_kind bytes;
      size = section_size ffs3 bytes;
      start =
          place + content_at ffs3 bytes;
    }

-- whether a section follows on this end of the one before: at the next multiple of 4, behind zeros
unfoldable pub follows : Bool → List ℕ → ℕ → Bool
follows ffs3 body at = list_all (λ b. b == 0) (take (up4 at - at) (drop at body))
    && is_section ffs3 (drop (up4 at) body)

-- a section that follows lies within the body
pub record IsNext (ffs3 : Bool) (body : List ℕ) (at : ℕ) : Type 0 where
  pub fields : HasFields ffs3 (drop (up4 at) body)
  pub inside : up4 at + section_size ffs3 (drop (up4 at) body) ≤ length body
  pub some : at < up4 at + section_size ffs3 (drop (up4 at) body)

-- The sections of a body, which stands at a place of the volume, from an end on, where they are at
-- most so many less one; None where what is left is no list of sections.
unfoldable pub sections_from : ℕ → Bool → ℕ → List ℕ → ℕ → Option (List ListedSection)
sections_from zero ffs3 place body at = None
sections_from (suc n) ffs3 place body at =
    if at == length body then Some []
    else if follows ffs3 body at then
    option_map (λ more. listed_section ffs3 (place + up4 at) (drop (up4 at) body) ∷ more)
    (sections_from n ffs3 place body (up4 at + section_size ffs3 (drop (up4 at) body)))
    else None

-- those of the whole body, of which each has at least four bytes
abbrev pub sections_of : Bool → ℕ → List ℕ → Option (List ListedSection)
sections_of ffs3 place body = sections_from (length body + 1) ffs3 place body 0
