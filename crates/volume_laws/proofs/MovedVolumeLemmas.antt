-- The files of a volume whose modules are moved.
use Rattle.std.proofs.Common.{◌≡◌, ℕ, Bool, List, [], ◌∷◌, Result, Ok, ap, ◌∙◌, subst}
use Rattle.build_base.specs.First.{with_front}
use Rattle.build_base.specs.declared.fault.Fault.{Fault}
use Rattle.doc_types.specs.declared.image.FileImage.{FileImage}
use Rattle.doc_types.specs.declared.volume_head.VolumeHead.{VolumeHead}
use Rattle.fv_compose.specs.Header.{header_end}
use Rattle.fv_compose.specs.Turns.{next_end}
use Rattle.fv_compose.specs.Volume.{volume_of}
use Rattle.fv_compose.specs.Places.{placed_at, placed_from, places_of}
use Rattle.image_rebase.specs.Files.{moved_file, moved_files}
use Rattle.image_rebase.specs.Rebase.{base_of, moved_volume, rebased_bytes}
use Rattle.image_rebase.proofs.SameLemmas.{through}
use Rattle.image_rebase.proofs.BodyLemmas.{fronted}
use Rattle.volume_laws.specs.MovedBytes.{AreMovedFiles, IsMovedVolume}
use Rattle.volume_laws.proofs.MovedLemmas.{some_size}
use Rattle.volume_laws.proofs.MovedFileLemmas.{file_moved}

files_moved : (ffs3 : Bool) (base size at : ℕ) (files moved : List FileImage) → moved_files ffs3 base files (placed_from size at files) ≡ Ok moved
    → AreMovedFiles ffs3 base files (placed_from size at files) moved
unfolding moved_files placed_from AreMovedFiles
files_moved ffs3 base size at [] moved e = let s : [] ≡ moved = cc in subst (AreMovedFiles ffs3 base [] []) s tt
files_moved ffs3 base size at (file ∷ files) moved e =
    let start : ℕ = placed_at size at file in
    let starts : List ℕ = placed_from size (next_end at file) files in
    let rest : Result (List FileImage) Fault = moved_files ffs3 base files starts in
    through (moved_file ffs3 base start file) (λ one. with_front (one ∷ []) rest) moved e
    (λ one a b.
    fronted (one ∷ []) rest moved b
    (λ more c j. subst (AreMovedFiles ffs3 base (file ∷ files) (start ∷ starts)) j (file_moved ffs3 base start file one a, files_moved ffs3 base size (next_end at file) files more c)))

pub volume_moved : (head : VolumeHead) (files : List FileImage) (image : List ℕ) → rebased_bytes head files ≡ Ok image → IsMovedVolume head files image
unfolding rebased_bytes moved_volume
volume_moved head files image e =
    through (places_of head files) (moved_volume head files) image e
    (λ starts o b.
    through (moved_files head.ffs3 (base_of head) files starts) (volume_of head) image b
    (λ moved m v.
    some_size head files starts o
    (λ size s.
    let first : ℕ = header_end head.name_guid in
    let each : AreMovedFiles head.ffs3 (base_of head) files (placed_from size first files) moved =
    files_moved head.ffs3 (base_of head) size first files moved (ap (moved_files head.ffs3 (base_of head) files) s ∙ m) in
    record {
      starts = starts;
      places = o;
      moved = moved;
      each = subst (λ z. AreMovedFiles head.ffs3 (base_of head) files z moved) s each;
      whole = v;
    })))
