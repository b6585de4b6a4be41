-- What is read of volumes of files that differ in modules' contents alone: the same.
use Rattle.std.proofs.Common.{◌≡◌, ℕ, ◌+◌, ◌-◌, ◌==◌, Bool, true, false, not, cond, if◌then◌else◌, List, [], ◌∷◌, ◌++◌, length, Option, Some, None, refl, ap, sym, ◌∙◌, subst}
use Rattle.std.specs.Str.{bytes_eq}
use Rattle.build_base.specs.declared.guid.Guid.{Guid}
use Rattle.doc_types.specs.declared.volume_head.VolumeHead.{VolumeHead}
use Rattle.ffs_sections.specs.File.{header_len}
use Rattle.fv_compose.specs.Place.{align_up, start_of}
use Rattle.fv_compose.specs.Header.{header_end}
use Rattle.fv_compose.specs.Files.{is_top, top_name, top_start, file_start, file_end, end_of}
use Rattle.volume_reader.specs.declared.listed.Listed.{Listed}
use Rattle.volume_reader.specs.declared.listed.ListedSection.{ListedSection}
use Rattle.volume_reader.specs.Written.{Made, files_of, made_sections, made_row, pad_row, placed_rows, files_rows, extended_rows, plain_made, top_made, top_rows, plain_end, free_behind, written_rows, written_list}

-- a file with another body of the same length, with the same sections
pub record Like (ffs3 : Bool) (old new : Made) : Type 0 where
  pub name : new.plan.guid ≡ old.plan.guid
  pub kind : new.plan.file_type ≡ old.plan.file_type
  pub guid : new.file.guid ≡ old.file.guid
  pub align : new.file.align ≡ old.file.align
  pub size : length new.file.bytes ≡ length old.file.bytes
  pub head : header_len new.file.bytes ≡ header_len old.file.bytes
  pub sections : (place : ℕ) → made_sections ffs3 place new ≡ made_sections ffs3 place old

-- files, one by one
unfoldable pub AreLike : Bool → List Made → List Made → Type 0
AreLike ffs3 [] [] = Unit {0}
AreLike ffs3 [] (new ∷ news) = ⊥
AreLike ffs3 (old ∷ olds) [] = ⊥
AreLike ffs3 (old ∷ olds) (new ∷ news) = Like ffs3 old new × AreLike ffs3 olds news

like_top : (ffs3 : Bool) (old new : Made) → Like ffs3 old new → is_top new.file ≡ is_top old.file
unfolding is_top
like_top ffs3 old new l = ap (λ g. bytes_eq g.0 top_name) l.guid

like_start : (ffs3 : Bool) (at : ℕ) (old new : Made) → Like ffs3 old new → file_start at new.file ≡ file_start at old.file
like_start ffs3 at old new l = ap (λ n. start_of at n (header_len new.file.bytes)) l.align ∙ ap (λ n. start_of at old.file.align n) l.head

like_end : (ffs3 : Bool) (at : ℕ) (old new : Made) → Like ffs3 old new → file_end at new.file ≡ file_end at old.file
like_end ffs3 at old new l = ap (λ n. n + length new.file.bytes) (like_start ffs3 at old new l) ∙ ap (λ n. file_start at old.file + n) l.size

abbrev row_with : ℕ → Guid → ℕ → ℕ → List ListedSection → Listed
row_with place guid kind size sections = record { place = place; guid = guid; file_type = kind; size = size; sections = sections }

like_row : (ffs3 : Bool) (place : ℕ) (old new : Made) → Like ffs3 old new → made_row ffs3 place new ≡ made_row ffs3 place old
unfolding made_row
like_row ffs3 place old new l =
    ap (λ z. row_with place new.plan.guid new.plan.file_type (length new.file.bytes) z) (l.sections place)
    ∙ ap (λ z. row_with place z new.plan.file_type (length new.file.bytes) (made_sections ffs3 place old)) l.name
    ∙ ap (λ z. row_with place old.plan.guid z (length new.file.bytes) (made_sections ffs3 place old)) l.kind
    ∙ ap (λ z. row_with place old.plan.guid old.plan.file_type z (made_sections ffs3 place old)) l.size

like_placed : (ffs3 : Bool) (at start : ℕ) (old new : Made) → Like ffs3 old new → placed_rows ffs3 at start new ≡ placed_rows ffs3 at start old
unfolding placed_rows
like_placed ffs3 at start old new l =
    let pad : Listed = pad_row (align_up 8 at) (start - align_up 8 at) in
    ap (λ r. if start == align_up 8 at then r ∷ [] else pad ∷ r ∷ []) (like_row ffs3 start old new l)

like_rows : (ffs3 : Bool) (at : ℕ) (olds news : List Made) → AreLike ffs3 olds news → files_rows ffs3 at news ≡ files_rows ffs3 at olds
unfolding AreLike files_rows
like_rows ffs3 at [] [] l = refl
like_rows ffs3 at [] (new ∷ news) l = absurd l
like_rows ffs3 at (old ∷ olds) [] l = absurd l
like_rows ffs3 at (old ∷ olds) (new ∷ news) l =
    let first : List Listed = placed_rows ffs3 at (file_start at old.file) old in
    ap (λ s. placed_rows ffs3 at s new ++ files_rows ffs3 (file_end at new.file) news) (like_start ffs3 at old new l.0)
    ∙ ap (λ r. r ++ files_rows ffs3 (file_end at new.file) news) (like_placed ffs3 at (file_start at old.file) old new l.0)
    ∙ ap (λ n. first ++ files_rows ffs3 n news) (like_end ffs3 at old new l.0) ∙ ap (λ r. first ++ r) (like_rows ffs3 (file_end at old.file) olds news l.1)

-- the files but the top file, and where they end
plain_turn : (ffs3 : Bool) (top : Bool) (old new : Made) (olds news : List Made) → Like ffs3 old new → AreLike ffs3 olds news → AreLike ffs3 (cond (not top) (old ∷ olds) olds) (cond (not top) (new ∷ news) news)
unfolding AreLike
plain_turn ffs3 true old new olds news l r = r
plain_turn ffs3 false old new olds news l r = (l, r)

like_plain : (ffs3 : Bool) (olds news : List Made) → AreLike ffs3 olds news → AreLike ffs3 (plain_made olds) (plain_made news)
unfolding AreLike plain_made
like_plain ffs3 [] [] l = tt
like_plain ffs3 [] (new ∷ news) l = absurd l
like_plain ffs3 (old ∷ olds) [] l = absurd l
like_plain ffs3 (old ∷ olds) (new ∷ news) l =
    subst (λ b. AreLike ffs3 (cond (not (is_top old.file)) (old ∷ plain_made olds) (plain_made olds)) (cond (not b) (new ∷ plain_made news) (plain_made news))) (sym (like_top ffs3 old new l.0))
    (plain_turn ffs3 (is_top old.file) old new (plain_made olds) (plain_made news) l.0 (like_plain ffs3 olds news l.1))

like_last : (ffs3 : Bool) (at : ℕ) (olds news : List Made) → AreLike ffs3 olds news → end_of at (files_of news) ≡ end_of at (files_of olds)
unfolding AreLike end_of
like_last ffs3 at [] [] l = refl
like_last ffs3 at [] (new ∷ news) l = absurd l
like_last ffs3 at (old ∷ olds) [] l = absurd l
like_last ffs3 at (old ∷ olds) (new ∷ news) l = ap (λ n. end_of n (files_of news)) (like_end ffs3 at old new l.0) ∙ like_last ffs3 (file_end at old.file) olds news l.1

-- the top file
abbrev TopLike : Bool → Option Made → Option Made → Type 0
TopLike ffs3 None None = Unit {0}
TopLike ffs3 None (Some new) = ⊥
TopLike ffs3 (Some old) None = ⊥
TopLike ffs3 (Some old) (Some new) = Like ffs3 old new

top_turn : (ffs3 : Bool) (top : Bool) (old new : Made) (olds news : Option Made) → Like ffs3 old new → TopLike ffs3 olds news → TopLike ffs3 (cond top (Some old) olds) (cond top (Some new) news)
top_turn ffs3 true old new olds news l r = l
top_turn ffs3 false old new olds news l r = r

like_tops : (ffs3 : Bool) (olds news : List Made) → AreLike ffs3 olds news → TopLike ffs3 (top_made olds) (top_made news)
unfolding AreLike
like_tops ffs3 [] [] l = tt
like_tops ffs3 [] (new ∷ news) l = absurd l
like_tops ffs3 (old ∷ olds) [] l = absurd l
like_tops ffs3 (old ∷ olds) (new ∷ news) l =
    subst (λ b. TopLike ffs3 (cond (is_top old.file) (Some old) (top_made olds)) (cond b (Some new) (top_made news))) (sym (like_top ffs3 old new l.0))
    (top_turn ffs3 (is_top old.file) old new (top_made olds) (top_made news) l.0 (like_tops ffs3 olds news l.1))

like_top_rows : (ffs3 : Bool) (at size : ℕ) (old new : Option Made) → TopLike ffs3 old new → top_rows ffs3 at size new ≡ top_rows ffs3 at size old
like_top_rows ffs3 at size None None l = refl
like_top_rows ffs3 at size None (Some new) l = absurd l
like_top_rows ffs3 at size (Some old) None l = absurd l
like_top_rows ffs3 at size (Some old) (Some new) l = ap (λ n. placed_rows ffs3 at (size - n) new) l.size ∙ like_placed ffs3 at (top_start old.file size) old new l

like_free : (ffs3 : Bool) (at size : ℕ) (old new : Option Made) → TopLike ffs3 old new → free_behind at size new ≡ free_behind at size old
like_free ffs3 at size None None l = refl
like_free ffs3 at size None (Some new) l = absurd l
like_free ffs3 at size (Some old) None l = absurd l
like_free ffs3 at size (Some old) (Some new) l = refl

-- rows behind those of the extended header
like_written : (head : VolumeHead) (olds news : List Made) (size : ℕ) → AreLike head.ffs3 olds news → written_rows head news size ≡ written_rows head olds size
unfolding written_rows
like_written head olds news size l =
    let ffs3 : Bool = head.ffs3 in
    let first : ℕ = header_end head.name_guid in
    let p : AreLike ffs3 (plain_made olds) (plain_made news) = like_plain ffs3 olds news l in
    let front : List Listed = extended_rows head.name_guid in
    let old : List Listed = files_rows ffs3 first (plain_made olds) in
    let new_top : List Listed = top_rows ffs3 (plain_end head news) size (top_made news) in
    let tops : new_top ≡ top_rows ffs3 (plain_end head olds) size (top_made olds) =
    ap (λ n. top_rows ffs3 n size (top_made news)) (like_last ffs3 first (plain_made olds) (plain_made news) p)
    ∙ like_top_rows ffs3 (plain_end head olds) size (top_made olds) (top_made news) (like_tops ffs3 olds news l) in
    ap (λ r. front ++ (r ++ new_top)) (like_rows ffs3 first (plain_made olds) (plain_made news) p) ∙ ap (λ r. front ++ (old ++ r)) tops

-- what is read of one volume is what is read of the other
pub like_list : (head : VolumeHead) (olds news : List Made) (size : ℕ) → AreLike head.ffs3 olds news → written_list head news size ≡ written_list head olds size
unfolding written_list
like_list head olds news size l =
    let free : free_behind (plain_end head news) size (top_made news) ≡ free_behind (plain_end head olds) size (top_made olds) =
    ap (λ n. free_behind n size (top_made news)) (like_last head.ffs3 (header_end head.name_guid) (plain_made olds) (plain_made news) (like_plain head.ffs3 olds news l))
    ∙ like_free head.ffs3 (plain_end head olds) size (top_made olds) (top_made news) (like_tops head.ffs3 olds news l) in
    ap (λ r. record { length = size; ffs3 = head.ffs3; files = r; free = free_behind (plain_end head news) size (top_made news) }) (like_written head olds news size l)
    ∙ ap (λ n. record { length = size; ffs3 = head.ffs3; files = written_rows head olds size; free = n }) free
