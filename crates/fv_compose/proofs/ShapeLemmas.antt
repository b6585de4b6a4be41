-- The test of files says what the fact says.
use Rattle.std.specs.List.{list_all}
use Rattle.std.proofs.Common.{◌≡◌, ◌↔◌, ◌==◌, Bool, true, IsTrue, sym, ◌∙◌, List, get_or, eq-eqb}
use Rattle.std.proofs.lemmas.Bool.{eqb-true}
use Rattle.std.proofs.lemmas.List.Folds.{list_any_at}
use Rattle.std.proofs.lemmas.List.Sums.{AllPass-from_list_all, list_all-from_AllPass}
use Rattle.std.proofs.lemmas.Map.Views.{Contains-from_any}
use Rattle.doc_types.specs.declared.image.FileImage.{FileImage}
use Rattle.ffs_sections.specs.Alignment.{alignments, IsAlignment}
use Rattle.fv_compose.specs.Files.{is_stated, AreAligned}

stated_is : (file : FileImage) → is_stated file ≡ true → IsAlignment file.align
unfolding is_stated
stated_is file e = Contains-from_any (λ x y h. sym (eqb-true y x h)) file.align alignments e

is_so : (file : FileImage) → IsAlignment file.align → is_stated file ≡ true
unfolding is_stated
is_so file c = list_any_at (λ stated. stated == file.align) alignments c.0 file.align c.1 (eq-eqb _ file.align c.2)

pub files_shape : (files : List FileImage) (b : Bool) → b ≡ list_all is_stated files → IsTrue b ↔ AreAligned files
unfolding AreAligned
files_shape files b e = (
  λ h k d l. stated_is (get_or files k d) (AllPass-from_list_all is_stated files (sym e ∙ h) k d l),
  λ a. e ∙ list_all-from_AllPass is_stated files (λ k d l. is_so (get_or files k d) (a k d l)),
)
