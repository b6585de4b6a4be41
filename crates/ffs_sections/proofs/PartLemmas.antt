-- Sections added one after another.
use Rattle.std.proofs.Common.{◌≡◌, ℕ, ◌+◌, ◌<◌, ◌≤◌, Bool, List, length, get_or, drop, Ok, refl}
use Rattle.std.proofs.lemmas.List.{drop_more, drop_all}
use Rattle.build_base.specs.First.{unless, and_then}
use Rattle.build_base.specs.declared.fault.Place.{Place}
use Rattle.doc_types.specs.declared.image.Part.{Part}
use Rattle.ffs_sections.specs.Sections.{with_part, with_parts, part_fault}

-- a turn: the part's own outcome, and then the parts after it
pub parts_more : (ffs3 : Bool) (place : Place) (body : List ℕ) (parts : List Part) (i : ℕ) (part : Part) → i < length parts → part ≡ get_or parts i part
    → with_parts ffs3 place body (drop i parts) ≡ and_then (unless (part_fault ffs3 place (length body) part) (with_part ffs3 body part)) (λ more. with_parts ffs3 place more (drop (i + 1) parts))
unfolding with_parts
parts_more ffs3 place body parts i part h e = rw (drop_more parts i part h, ← e) refl

pub parts_end : (ffs3 : Bool) (place : Place) (body : List ℕ) (parts : List Part) (i : ℕ) → length parts ≤ i → with_parts ffs3 place body (drop i parts) ≡ Ok body
unfolding with_parts
parts_end ffs3 place body parts i h = rw (drop_all i parts h) refl
