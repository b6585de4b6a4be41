-- What of the files stays when their modules are moved.
use Rattle.std.proofs.Common.{◌≡◌, ℕ, ◌+◌, Bool, List, [], ◌∷◌, Result, Ok, Err, refl, subst}
use Rattle.std.proofs.lemmas.List.Elements.{All-nil, All-cons, All-head, All-tail}
use Rattle.build_base.specs.First.{and_then, with_front}
use Rattle.build_base.specs.declared.fault.Fault.{Fault}
use Rattle.doc_types.specs.declared.image.FileImage.{FileImage}
use Rattle.ffs_sections.specs.Alignment.{IsAlignment}
use Rattle.fv_compose.specs.Files.{AreAligned}
use Rattle.image_rebase.specs.Files.{moved_bytes, with_file_bytes, moved_file, moved_files}

abbrev Aligned : FileImage → Type 0
Aligned file = IsAlignment file.align

kept_align : (file moved : FileImage) (outcome : Result (List ℕ) Fault) → and_then outcome (λ bytes. Ok (with_file_bytes file bytes)) ≡ Ok moved → Aligned file → Aligned moved
kept_align file moved (Ok bytes) e a = let k : with_file_bytes file bytes ≡ moved = cc in subst Aligned k a
kept_align file moved (Err fault) e a = absurd cc

aligned_file : (ffs3 : Bool) (base start : ℕ) (file moved : FileImage) → moved_file ffs3 base start file ≡ Ok moved → Aligned file → Aligned moved
unfolding moved_file
aligned_file ffs3 base start file moved e a = kept_align file moved (moved_bytes ffs3 file.at base (base + start) file.bytes) e a

aligned_front : (file : FileImage) (rest : Result (List FileImage) Fault) (moved : List FileImage) → Aligned file → ((files : List FileImage) → rest ≡ Ok files → AreAligned files)
    → with_front (file ∷ []) rest ≡ Ok moved → AreAligned moved
unfolding AreAligned
aligned_front file (Ok files) moved a r e = let k : file ∷ files ≡ moved = cc in subst AreAligned k (All-cons Aligned file files a (r files refl))
aligned_front file (Err fault) moved a r e = absurd cc

aligned_step : (first : Result FileImage Fault) (rest : Result (List FileImage) Fault) (moved : List FileImage) → ((file : FileImage) → first ≡ Ok file → Aligned file)
    → ((files : List FileImage) → rest ≡ Ok files → AreAligned files) → and_then first (λ file. with_front (file ∷ []) rest) ≡ Ok moved → AreAligned moved
aligned_step (Ok file) rest moved a r e = aligned_front file rest moved (a file refl) r e
aligned_step (Err fault) rest moved a r e = absurd cc

-- the files have their alignments
pub aligned_moved : (ffs3 : Bool) (base : ℕ) (files : List FileImage) (starts : List ℕ) (moved : List FileImage) → AreAligned files → moved_files ffs3 base files starts ≡ Ok moved → AreAligned moved
unfolding moved_files AreAligned
aligned_moved ffs3 base [] starts moved a e = let k : [] ≡ moved = cc in subst AreAligned k (All-nil Aligned)
aligned_moved ffs3 base (file ∷ files) [] moved a e = let k : [] ≡ moved = cc in subst AreAligned k (All-nil Aligned)
aligned_moved ffs3 base (file ∷ files) (start ∷ starts) moved a e =
    aligned_step (moved_file ffs3 base start file) (moved_files ffs3 base files starts) moved
    (λ x k. aligned_file ffs3 base start file x k (All-head Aligned file files a))
    (λ xs k. aligned_moved ffs3 base files starts xs (All-tail Aligned file files a) k) e
