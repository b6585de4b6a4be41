-- The top file among the files of a volume.
use Rattle.std.proofs.Common.{List, [], ◌∷◌, drop, Some, IfSome, Bool, true, false, cond, arith}
use Rattle.std.proofs.lemmas.List.Elements.{All-tail}
use Rattle.doc_types.specs.declared.image.FileImage.{FileImage}
use Rattle.ffs_sections.specs.Alignment.{IsAlignment}
use Rattle.fv_compose.specs.Files.{is_top, top_of, AreAligned}

-- the top files after the first, where one was found before these or wasn't
abbrev pub later : Bool → List FileImage → List FileImage
later true files = files
later false files = drop 1 files

pub aligned_top : (files : List FileImage) → AreAligned files → IfSome (top_of files) (λ file. IsAlignment file.align)
unfolding AreAligned
aligned_top [] a = tt
aligned_top (file ∷ files) a =
    elim (is_top file) as (λ b. IfSome (cond b (Some file) (top_of files)) (λ f. IsAlignment f.align)) [
      | true ↦ a 0 file (omega arith)
      | false ↦ aligned_top files (All-tail (λ f. IsAlignment f.align) file files a)
    ]
