-- A flash description put together.
use Rattle.std.proofs.Common.{◌≡◌, ◌∙◌, ℕ, List, [], ◌∷◌, ◌++◌, map, Option, Some, None, refl, sym, ap, subst, Bor}
use Rattle.std.specs.Prelude.{slice_get, Result, Ok, Err, IfOk}
use Rattle.std.specs.List.{flat_map}
use Rattle.std.proofs.lemmas.Option.{slice_get-map}
use Rattle.std.proofs.lemmas.Simd.{map-map}
use Rattle.build_base.specs.Answer.{Answers, Refused}
use Rattle.build_base.specs.First.{and_then}
use Rattle.build_base.specs.declared.fault.Fault.{Fault}
use Rattle.build_base.specs.declared.lines.Lines.{Lines}
use Rattle.build_base.specs.declared.refusal.Refusal.{Refusal}
use Rattle.build_base.specs.declared.refusal.Refusal.TheVariants.{Bad, WantOfMemory}
use Rattle.doc_types.specs.declared.flash.FlashDoc.{FlashDoc}
use Rattle.fdf_lines.specs.Grammar.{rows_of_flash}
use Rattle.fdf_lines.specs.Reads.{read_as, reads_as}
use Rattle.fdf_words.specs.declared.rows.LineRead.{LineRead}
use Rattle.fdf_words.specs.declared.rows.LineRead.TheVariants.{Heads, Body}
use Rattle.flash_document.specs.Document.{plan_at, plan_in, flash_of_lines}
use Rattle.flash_document.specs.Flash.{line_of, flash_of}
use Rattle.flash_document.specs.Tables.{loop_in}
use Rattle.flash_document.specs.Whole.{nest_in, loop_at, loop_named}
use Rattle.flash_document.specs.declared.held.HeldRegion.{HeldRegion}
use Rattle.flash_document.specs.declared.stated.StatedVolume.{StatedVolume}

-- volumes that are lent
pub names_lent : (volumes : List (Bor StatedVolume)) (all : List StatedVolume) → map (λ v. v.now) volumes ≡ all → map (λ v. v.now.name) volumes ≡ map (λ v. v.name) all
names_lent volumes all h = sym (map-map (λ v. v.name) (λ v. v.now) volumes) ∙ ap (map (λ v. v.name)) h

pub nests_lent : (names : List (List ℕ)) (volumes : List (Bor StatedVolume)) (all : List StatedVolume) → map (λ v. v.now) volumes ≡ all
    → map (λ v. nest_in names v.now) volumes ≡ map (nest_in names) all
nests_lent names volumes all h = sym (map-map (nest_in names) (λ v. v.now) volumes) ∙ ap (map (nest_in names)) h

pub plans_lent : (names : List (List ℕ)) (regions : List HeldRegion) (volumes : List (Bor StatedVolume)) (all : List StatedVolume) → map (λ v. v.now) volumes ≡ all → (order : List ℕ)
    → flat_map (plan_in names regions volumes) order ≡ flat_map (λ p. plan_at names regions (slice_get all p)) order
unfolding plan_in
plans_lent names regions volumes all h [] = refl
plans_lent names regions volumes all h (p ∷ order) =
    ap (λ o. plan_at names regions o ++ flat_map (plan_in names regions volumes) order) (sym (slice_get-map (λ v. v.now) volumes p) ∙ ap (λ xs. slice_get xs p) h)
    ∙ ap (λ rest. plan_at names regions (slice_get all p) ++ rest) (plans_lent names regions volumes all h order)

pub loop_lent : (volumes : List (Bor StatedVolume)) (all : List StatedVolume) → map (λ v. v.now) volumes ≡ all → (o : Option ℕ) → loop_in volumes o ≡ loop_named all o
unfolding loop_in
loop_lent volumes all h None = refl
loop_lent volumes all h (Some p) = ap loop_at (sym (slice_get-map (λ v. v.now) volumes p) ∙ ap (λ xs. slice_get xs p) h)

-- what lines came to, told as the shared reader tells it
line_again : (line : LineRead) → line_of (read_as line) ≡ line
line_again (Heads at scopes) = refl
line_again (Body rows) = refl

lines_again : (lines : List LineRead) → map line_of (reads_as lines) ≡ lines
lines_again [] = refl
lines_again (line ∷ lines) = ap (λ l. l ∷ map line_of (reads_as lines)) (line_again line) ∙ ap (λ ls. line ∷ ls) (lines_again lines)

pub flash_read : (lines : Lines) (reads : List LineRead) → rows_of_flash lines.rows ≡ Ok (reads_as reads) → flash_of lines ≡ flash_of_lines lines.root reads
unfolding flash_of
flash_read lines reads h = ap (λ r. and_then r (λ rs. flash_of_lines lines.root (map line_of rs))) h ∙ ap (flash_of_lines lines.root) (lines_again reads)

pub flash_answers : (lines : Lines) (reads : List LineRead) (result : Result FlashDoc Refusal) → rows_of_flash lines.rows ≡ Ok (reads_as reads)
    → Answers result (flash_of_lines lines.root reads) → Answers result (flash_of lines)
flash_answers lines reads result told h = subst (Answers result) (sym (flash_read lines reads told)) h

pub flash_refused : (lines : Lines) (fault : Fault) → rows_of_flash lines.rows ≡ Err fault → flash_of lines ≡ Err fault
unfolding flash_of
flash_refused lines fault h = ap (λ r. and_then r (λ rs. flash_of_lines lines.root (map line_of rs))) h

pub flash_stopped : (lines : Lines) (refusal : Refusal) → Refused refusal (rows_of_flash lines.rows) → Refused refusal (flash_of lines)
flash_stopped lines (Bad fault) h = flash_refused lines fault h
flash_stopped lines WantOfMemory h = tt

-- what holds in any case holds where there is a document
pub where_ok : {T : Type 0} {P : Type 0} (r : Result T Refusal) → P → IfOk r (λ x. P)
where_ok (Ok x) p = p
where_ok (Err refusal) p = tt
