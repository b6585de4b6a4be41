-- The region that stands last above a line.
use Rattle.std.proofs.Common.{◌≡◌, ◌∙◌, ℕ, ◌+◌, ◌<◌, List, [], ◌∷◌, ◌++◌, length, get_or, take, Option, Some, None, refl, sym, ap}
use Rattle.std.proofs.lemmas.Grind.{flat_map-append}
use Rattle.std.proofs.lemmas.List.{take_more}
use Rattle.doc_reading.specs.Reading.{last_or, last_of}
use Rattle.doc_reading.proofs.Turns.{last_or-append}
use Rattle.fdf_words.specs.declared.rows.LineRead.{LineRead}
use Rattle.fdf_words.specs.declared.rows.RegionStart.{RegionStart}
use Rattle.fdf_words.specs.declared.rows.Row.{Row}
use Rattle.fdf_words.specs.declared.rows.Row.TheVariants as row
use Rattle.flash_document.specs.Columns.{row_at, in_row, column}
use Rattle.flash_document.specs.Sets.{starts, region_above}

pub region_taken : (k : ℕ) (xs : List LineRead) (i : ℕ) (line : LineRead) → i < length xs → line ≡ get_or xs i line
    → region_above k (take (i + 1) xs) ≡ last_or (region_above k (take i xs)) (in_row starts (row_at k line))
region_taken k xs i line l e =
    ap (region_above k) (take_more xs i line l)
    ∙ ap (λ x. region_above k (take i xs ++ x ∷ [])) (sym e)
    ∙ ap last_of (flat_map-append (λ x. in_row starts (row_at k x)) (take i xs) (line ∷ []))
    ∙ last_or-append None (column starts k (take i xs)) (in_row starts (row_at k line) ++ [])
    ∙ one (row_at k line)
  where
    one : (o : Option Row) → last_or (region_above k (take i xs)) (in_row starts o ++ []) ≡ last_or (region_above k (take i xs)) (in_row starts o)
    one None = refl
    one (Some (row.Region start)) = refl
    one (Some other) = refl

pub region_here : (k : ℕ) (xs : List LineRead) (i n : ℕ) (line : LineRead) (start : RegionStart) → i + 1 ≡ n → i < length xs → line ≡ get_or xs i line → row_at k line ≡ Some (row.Region start)
    → region_above k (take n xs) ≡ Some start
region_here k xs i n line start m l e here =
    ap (λ j. region_above k (take j xs)) (sym m) ∙ region_taken k xs i line l e ∙ ap (λ o. last_or (region_above k (take i xs)) (in_row starts o)) here
