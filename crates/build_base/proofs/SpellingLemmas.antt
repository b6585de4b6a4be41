-- Emissions, one after another.
use Rattle.std.proofs.Common.{◌≡◌, refl, sym, ap, ◌∙◌, ◌++◌, List, [], ◌∷◌, ℕ, Option, None, Some, Result, Ok, Err, append_assoc, append-nil, inl, inr, ◌<◌, ◌≤◌, length, All, arith, length-append}
use Rattle.std.proofs.lemmas.List.Elements.{All-push}
use Rattle.std.specs.List.{concat}
use Rattle.std.proofs.lemmas.List.Folds.{concat-append}
use Rattle.build_base.specs.declared.outside.Target.{Target}
use Rattle.build_base.specs.declared.outside.Target.TheVariants.{Start, More}
use Rattle.build_base.specs.Outside.{Emission, Grew, GrewCut, Emits}
use Rattle.build_base.specs.Spelling.{Output, file, text, more_of, SpellsPart, SpellsFile, SpelledPart, SpelledFile, Spells, SpellsCut, Spelled, SpelledCut, Writes}

pub Grew-then : (a b c : Option (List Emission)) (xs ys : List Emission) → Grew a b xs → Grew b c ys → Grew a c (xs ++ ys)
Grew-then a b None xs ys g h = tt
Grew-then a None (Some now) xs ys g h = absurd (cc (h.1))
Grew-then a (Some mid) (Some now) xs ys g h =
    let same : mid ≡ h.0 = cc (h.1) in
    (g.0, g.1, h.2 ∙ ap (λ z. z ++ ys) (sym same ∙ g.2) ∙ append_assoc g.0 xs ys)

more_of-append : (path : List ℕ) (xs ys : List (List ℕ)) → more_of path (xs ++ ys) ≡ more_of path xs ++ more_of path ys
more_of-append path [] ys = refl
more_of-append path (x ∷ xs) ys = ap (λ z. (More path, x) ∷ z) (more_of-append path xs ys)

abbrev part_start : (path first : List ℕ) → length first ≤ 65536 → SpellsPart path first ((Start path, first) ∷ [])
part_start path first l = record { first = first; pieces = []; bytes_are = sym (append-nil first); emissions_are = refl; short = All-push (λ piece. length piece ≤ 65536) [] first (λ k d h. absurd (omega arith)) l }

abbrev part_more : (path bytes piece : List ℕ) (emissions : List Emission) → SpellsPart path bytes emissions → length piece ≤ 65536 → SpellsPart path (bytes ++ piece) (emissions ++ (More path, piece) ∷ [])
part_more path bytes piece emissions s l = record {
  first = s.first;
  pieces = s.pieces ++ piece ∷ [];
  bytes_are =
      ap (λ z. z ++ piece) s.bytes_are ∙ append_assoc s.first (concat s.pieces) piece
      ∙ ap (λ z. s.first ++ z) (sym (concat-append s.pieces (piece ∷ []) ∙ ap (λ z. concat s.pieces ++ z) (append-nil piece)));
  emissions_are = ap (λ z. z ++ (More path, piece) ∷ []) s.emissions_are ∙ ap (λ z. (Start path, s.first) ∷ z) (sym (more_of-append path s.pieces (piece ∷ [])));
  short = All-push (λ x. length x ≤ 65536) (s.first ∷ s.pieces) piece s.short l;
}

SpelledPart-start : (a b : Option (List Emission)) (path first : List ℕ) → length first ≤ 65536 → Grew a b ((Start path, first) ∷ []) → SpelledPart a b path first
SpelledPart-start a b path first l g = ((Start path, first) ∷ [], part_start path first l, g)

SpelledPart-more : (a b c : Option (List Emission)) (path bytes piece : List ℕ) → SpelledPart a b path bytes → length piece ≤ 65536 → Grew b c ((More path, piece) ∷ []) → SpelledPart a c path (bytes ++ piece)
SpelledPart-more a b c path bytes piece s l g =
    (s.0 ++ (More path, piece) ∷ [], part_more path bytes piece s.0 s.1 l, Grew-then a b c s.0 ((More path, piece) ∷ []) s.2 g)

pub SpelledFile-start : (a b : Option (List Emission)) (path first : List ℕ) → length first ≤ 65536 → Grew a b ((Start path, first) ∷ []) → SpelledFile a b path first
SpelledFile-start a b path first l g = (
  (Start path, first) ∷ [],
  record {
    part = part_start path first l;
    some = λ k d h. absurd (omega arith);
    none = λ e. refl;
  },
  g,
)

-- a whole file of some bytes has a first piece of some
first_some : (path bytes : List ℕ) (emissions : List Emission) (s : SpellsFile path bytes emissions) → (bytes ≡ [] → ⊥) → s.part.first ≡ [] → ⊥
first_some path bytes emissions s some e = some (s.part.bytes_are ∙ ap (λ z. z ++ concat s.part.pieces) e ∙ ap concat (s.none e))

-- a further piece of some bytes behind some
pub SpelledFile-more : (a b c : Option (List Emission)) (path bytes piece : List ℕ) → SpelledFile a b path bytes → (bytes ≡ [] → ⊥) → 0 < length piece → length piece ≤ 65536 → Grew b c ((More path, piece) ∷ []) → SpelledFile a c path (bytes ++ piece)
SpelledFile-more a b c path bytes piece s behind some l g = (
  s.0 ++ (More path, piece) ∷ [],
  record {
    part = part_more path bytes piece s.0 s.1.part l;
    some = All-push (λ x. 0 < length x) s.1.part.pieces piece s.1.some some;
    none = λ e. absurd (first_some path bytes s.0 s.1 behind e);
  },
  Grew-then a b c s.0 ((More path, piece) ∷ []) s.2 g,
)

pub Spelled-file : (a b : Option (List Emission)) (path bytes : List ℕ) → SpelledFile a b path bytes → Spelled a b (file path bytes ∷ [])
Spelled-file a b path bytes s = (s.0, (s.0, [], sym (append-nil s.0), s.1, refl), s.2)

pub SpelledCut-file : (a b : Option (List Emission)) (path bytes kept rest : List ℕ) → bytes ≡ kept ++ rest → SpelledPart a b path kept → SpelledCut a b (file path bytes ∷ [])
SpelledCut-file a b path bytes kept rest e s = (s.0, inr (inl (file path kept, (refl, (rest, e)), s.1)), s.2)

pub Spelled-text : (a b : Option (List Emission)) (target : Target) (bytes : List ℕ) → Grew a b ((target, bytes) ∷ []) → Spelled a b (text target bytes ∷ [])
Spelled-text a b target bytes g = ((target, bytes) ∷ [], ((target, bytes) ∷ [], [], refl, refl, refl), g)

pub SpelledCut-text : (a b : Option (List Emission)) (target : Target) (bytes kept rest : List ℕ) → bytes ≡ kept ++ rest → Grew a b ((target, kept) ∷ []) → SpelledCut a b (text target bytes ∷ [])
SpelledCut-text a b target bytes kept rest e g = ((target, kept) ∷ [], inr (inl (text target kept, (refl, (rest, e)), refl)), g)

prefix_short : (xs ys zs : List ℕ) → zs ≡ xs ++ ys → length zs ≤ 65536 → length xs ≤ 65536
prefix_short xs ys zs e l = omega (arith, ap length e ∙ length-append xs ys)

-- what a failed start leaves of a file
pub first_cut : (a b : Option (List Emission)) (path bytes front tail : List ℕ) → bytes ≡ front ++ tail → length front ≤ 65536 → GrewCut a b (Start path) front
    → (kept : List ℕ) × (rest : List ℕ) × (bytes ≡ kept ++ rest) × SpelledPart a b path kept
first_cut a b path bytes front tail e l g = (
  g.0,
  g.1 ++ tail,
  e ∙ ap (λ z. z ++ tail) g.2 ∙ append_assoc g.0 g.1 tail,
  SpelledPart-start a b path g.0 (prefix_short g.0 g.1 front g.2 l) g.3,
)

-- what a failed further piece leaves of it
pub later_cut : (a b c : Option (List Emission)) (path bytes front piece tail : List ℕ) → bytes ≡ front ++ (piece ++ tail) → SpelledFile a b path front → length piece ≤ 65536 → GrewCut b c (More path) piece
    → (kept : List ℕ) × (rest : List ℕ) × (bytes ≡ kept ++ rest) × SpelledPart a c path kept
later_cut a b c path bytes front piece tail e s l g = (
  front ++ g.0,
  g.1 ++ tail,
  e ∙ ap (λ z. front ++ (z ++ tail)) g.2 ∙ ap (λ z. front ++ z) (append_assoc g.0 g.1 tail) ∙ sym (append_assoc front g.0 (g.1 ++ tail)),
  SpelledPart-more a b c path front g.0 (s.0, s.1.part, s.2) (prefix_short g.0 g.1 piece g.2 l) g.3,
)

pub Writes-text : (E : Type 0) (a b : Option (List Emission)) (target : Target) (bytes : List ℕ) (r : Result (Unit {0}) E) → Emits a b target bytes r → Writes a b (text target bytes ∷ []) r
Writes-text E a b target bytes (Ok x) w = Spelled-text a b target bytes w
Writes-text E a b target bytes (Err e) w = SpelledCut-text a b target bytes w.0 w.1 w.2 w.3

pub Spells-append : (xs ys : List Output) (es fs : List Emission) → Spells xs es → Spells ys fs → Spells (xs ++ ys) (es ++ fs)
Spells-append [] ys es fs s t = rw s t
Spells-append (x ∷ xs) ys es fs s t =
    (s.0, s.1 ++ fs, ap (λ z. z ++ fs) s.2 ∙ append_assoc s.0 s.1 fs, s.3, Spells-append xs ys s.1 fs s.4 t)

pub SpellsCut-append : (xs ys : List Output) (es fs : List Emission) → Spells xs es → SpellsCut ys fs → SpellsCut (xs ++ ys) (es ++ fs)
SpellsCut-append [] ys es fs s t = rw s t
SpellsCut-append (x ∷ xs) ys es fs s t =
    inr (inr (s.0, s.1 ++ fs, ap (λ z. z ++ fs) s.2 ∙ append_assoc s.0 s.1 fs, s.3, SpellsCut-append xs ys s.1 fs s.4 t))

-- what is cut may be followed by more that is not written
pub SpellsCut-more : (xs ys : List Output) (es : List Emission) → SpellsCut xs es → SpellsCut (xs ++ ys) es
SpellsCut-more [] [] es c = c
SpellsCut-more [] (y ∷ ys) es c = inl c
SpellsCut-more (x ∷ xs) ys es (inl n) = inl n
SpellsCut-more (x ∷ xs) ys es (inr (inl c)) = inr (inl c)
SpellsCut-more (x ∷ xs) ys es (inr (inr c)) = inr (inr (c.0, c.1, c.2, c.3, SpellsCut-more xs ys c.1 c.4))

pub Spelled-then : (a b c : Option (List Emission)) (xs ys : List Output) → Spelled a b xs → Spelled b c ys → Spelled a c (xs ++ ys)
Spelled-then a b c xs ys s t = (s.0 ++ t.0, Spells-append xs ys s.0 t.0 s.1 t.1, Grew-then a b c s.0 t.0 s.2 t.2)

pub SpelledCut-then : (a b c : Option (List Emission)) (xs ys more : List Output) → Spelled a b xs → SpelledCut b c ys → SpelledCut a c (xs ++ (ys ++ more))
SpelledCut-then a b c xs ys more s t =
    (s.0 ++ t.0, SpellsCut-append xs (ys ++ more) s.0 t.0 s.1 (SpellsCut-more ys more t.0 t.1), Grew-then a b c s.0 t.0 s.2 t.2)
