-- The length of a file's header, which a move of its modules leaves.
use Rattle.std.proofs.Common.{◌≡◌, ℕ, ◌-◌, ◌%◌, ◌≤◌, ◌==◌, ◌&&◌, ◌||◌, Bool, true, false, if◌then◌else◌, nat_le, List, get_or, refl, ap, arith}
use Rattle.build_base.specs.declared.fault.Place.{Place}
use Rattle.ffs_sections.specs.File.{header_len}
use Rattle.volume_reader.specs.Sections.{sections_of}
use Rattle.image_rebase.specs.Changes.{sections_change, file_changes}
use Rattle.image_rebase.specs.Files.{has_checksum, has_sections, file_head, file_body}

none_of : (a b c : Bool) → ((a && false) || (b && false && c)) ≡ false
none_of true true c = refl
none_of true false c = refl
none_of false true c = refl
none_of false false c = refl

head_past : (bytes : List ℕ) → nat_le (header_len bytes) 19 ≡ false
unfolding header_len
head_past bytes = elim (get_or bytes 19 0 % 2 == 1) as (λ b. nat_le (if b then 32 else 24) 19 ≡ false) [ true ↦ refl | false ↦ refl ]

pub head_long : (bytes : List ℕ) → 24 ≤ header_len bytes
unfolding header_len
head_long bytes = elim (get_or bytes 19 0 % 2 == 1) as (λ b. 24 ≤ (if b then 32 else 24)) [ true ↦ omega arith | false ↦ omega arith ]

pub nineteen_stays : (ffs3 : Bool) (place : Place) (bytes : List ℕ) → file_changes ffs3 place bytes 19 ≡ false
unfolding file_changes
nineteen_stays ffs3 place bytes =
    rw (head_past bytes) (none_of (has_checksum (file_head bytes)) (has_sections bytes) (sections_change place (file_body bytes) (19 - header_len bytes) (sections_of ffs3 0 (file_body bytes))))

pub head_same : (old new : List ℕ) → get_or new 19 0 ≡ get_or old 19 0 → header_len new ≡ header_len old
unfolding header_len
head_same old new e = ap (λ z. if z % 2 == 1 then 32 else 24) e
