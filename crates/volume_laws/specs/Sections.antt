-- The sections of a file that is read, as a relation on its body (UEFI PI specification, volume 3,
-- section 3.2.4).
use Rattle.std.specs.Prelude.{◌≡◌, ℕ, ◌+◌, Bool, true, List, [], ◌∷◌, length, drop}
use Rattle.ffs_sections.specs.Sections.{up4}
use Rattle.volume_reader.specs.declared.listed.ListedSection.{ListedSection}
use Rattle.volume_reader.specs.Sections.{section_size, listed_section, follows}

-- A section follows on this end in a body that stands at a place of a volume, and this row tells it.
pub record IsSectionAt (ffs3 : Bool) (place : ℕ) (body : List ℕ) (end : ℕ) (row : ListedSection)
    : Type 0 where
  pub section : follows ffs3 body end ≡ true
  pub told : row ≡ listed_section ffs3 (place + up4 end) (drop (up4 end) body)

-- These are a body's sections from an end on. Each starts at the least multiple of 4 from the end
-- before it on, behind zeros. The body ends with the last one.
pub data AreSectionsFrom (ffs3 : Bool) (place : ℕ) (body : List ℕ)
    : ℕ → List ListedSection → Type 0 where
  last : (end : ℕ) → end ≡ length body → AreSectionsFrom ffs3 place body end []
  next : (end : ℕ) (row : ListedSection) (rows : List ListedSection)
      → IsSectionAt ffs3 place body end row
      → AreSectionsFrom ffs3 place body (up4 end + section_size ffs3 (drop (up4 end) body)) rows
      → AreSectionsFrom ffs3 place body end (row ∷ rows)
