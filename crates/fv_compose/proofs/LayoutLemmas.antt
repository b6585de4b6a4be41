-- Where the files of a volume stand, gone through in order.
use Rattle.std.proofs.Common.{◌≡◌, ℕ, ◌+◌, ◌<◌, ◌≤◌, inl, inr, true, false, if◌then◌else◌, List, [], ◌∷◌, length, get_or, drop, refl, sym, ◌∙◌, arith}
use Rattle.std.proofs.lemmas.List.{drop_more, drop_all}
use Rattle.std.proofs.lemmas.Bool.{cases_lt}
use Rattle.doc_types.specs.declared.image.FileImage.{FileImage}
use Rattle.ffs_sections.specs.Alignment.{IsAlignment}
use Rattle.fv_compose.specs.Files.{is_top, file_start, file_end, plain_files, end_of, AreAligned}
use Rattle.fv_compose.specs.Place.{align_up}
use Rattle.fv_compose.specs.Turns.{own_start, own_starts, next_end}
use Rattle.fv_compose.specs.Places.{placed_at, placed_from}
use Rattle.fv_compose.proofs.FileLemmas.{end_more, end_left, Spaced, spaced_start}

pub starts_more : (at : ℕ) (files : List FileImage) (i : ℕ) (file : FileImage) → i < length files → file ≡ get_or files i file
    → own_starts at (drop i files) ≡ own_start at file ∷ own_starts (next_end at file) (drop (i + 1) files)
unfolding own_starts
starts_more at files i file h e = rw (drop_more files i file h, ← e) refl

pub starts_all : (at : ℕ) (files : List FileImage) (i : ℕ) → length files ≤ i → own_starts at (drop i files) ≡ []
unfolding own_starts
starts_all at files i h = rw (drop_all i files h) refl

pub placed_more : (size at : ℕ) (files : List FileImage) (i : ℕ) (file : FileImage) → i < length files → file ≡ get_or files i file
    → placed_from size at (drop i files) ≡ placed_at size at file ∷ placed_from size (next_end at file) (drop (i + 1) files)
unfolding placed_from
placed_more size at files i file h e = rw (drop_more files i file h, ← e) refl

pub placed_all : (size at : ℕ) (files : List FileImage) (i : ℕ) → length files ≤ i → placed_from size at (drop i files) ≡ []
unfolding placed_from
placed_all size at files i h = rw (drop_all i files h) refl

-- what is left of the starts begins with that of the file
pub record Here (starts : List ℕ) (at : ℕ) (files : List FileImage) (i : ℕ) (file : FileImage) : Type 0 where
  pub inside : i < length starts
  pub start : (d : ℕ) → get_or starts i d ≡ own_start at file
  pub rest : drop (i + 1) starts ≡ own_starts (next_end at file) (drop (i + 1) files)

pub start_here : (starts : List ℕ) (at : ℕ) (files : List FileImage) (i : ℕ) (file : FileImage) → i < length files → file ≡ get_or files i file
    → drop i starts ≡ own_starts at (drop i files) → Here starts at files i file
start_here starts at files i file h e s =
    let left : List ℕ = own_starts (next_end at file) (drop (i + 1) files) in
    let k : drop i starts ≡ own_start at file ∷ left = s ∙ starts_more at files i file h e in
    elim (cases_lt i (length starts)) [
      | inl lt ↦
          record {
            inside = lt;
            start = λ d. let m : get_or starts i d ∷ drop (i + 1) starts ≡ own_start at file ∷ left = sym (drop_more starts i d lt) ∙ k in cc;
            rest = let m : get_or starts i 0 ∷ drop (i + 1) starts ≡ own_start at file ∷ left = sym (drop_more starts i 0 lt) ∙ k in cc;
          }
      | inr le ↦ let m : [] ≡ own_start at file ∷ left = sym (drop_all i starts le) ∙ k in absurd cc
    ]

own_after : (at : ℕ) (file : FileImage) → own_start at file ≤ next_end at file
own_after at file = elim (is_top file) as (λ b. (if b then at else file_start at file) ≤ (if b then at else file_end at file)) [ true ↦ omega arith | false ↦ omega arith ]

-- a start lies before the last end
pub start_below : (at : ℕ) (files : List FileImage) (i : ℕ) (file : FileImage) → AreAligned files → i < length files → file ≡ get_or files i file
    → own_start at file ≤ end_of at (plain_files (drop i files))
start_below at files i file a h e = omega (arith, own_after at file, end_more at files i file h e, end_left (next_end at file) files (i + 1) a)

-- a start leaves no space behind the end before it, or that of a pad file
pub spaced_own : (at : ℕ) (file : FileImage) → IsAlignment file.align → is_top file ≡ false → Spaced at (own_start at file)
spaced_own at file a t = rw t (spaced_start at file a)

pub spaced_after : (at start : ℕ) → Spaced at start → align_up 8 at ≤ start
spaced_after at start (inl e) = omega arith
spaced_after at start (inr h) = omega arith
