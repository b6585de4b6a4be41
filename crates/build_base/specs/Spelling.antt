-- Lists of emissions that spell lists of outputs.
use Rattle.std.specs.Prelude.{◌≡◌, ◌<◌, ◌≤◌, ◌⊎◌, ◌++◌, ℕ, length, All, Result, Ok, Err, List, [], ◌∷◌, Option}
use Rattle.std.specs.List.{concat}
use Rattle.build_base.specs.declared.outside.Target.{Target}
use Rattle.build_base.specs.declared.outside.Target.TheVariants.{Start, More}
use Rattle.build_base.specs.Outside.{Emission, Grew}

-- one output: a file with its bytes, or a text to a stream
pub data Output : Type 0 where
  file : List ℕ → List ℕ → Output
  text : Target → List ℕ → Output

abbrev pub more_of : List ℕ → List (List ℕ) → List Emission
more_of path [] = []
more_of path (piece ∷ pieces) = (More path, piece) ∷ more_of path pieces

-- a part of a file in pieces of at most 65,536 bytes: one start, and any number of further pieces
pub record SpellsPart (path bytes : List ℕ) (emissions : List Emission) : Type 0 where
  pub first : List ℕ
  pub pieces : List (List ℕ)
  pub bytes_are : bytes ≡ first ++ concat pieces
  pub emissions_are : emissions ≡ (Start path, first) ∷ more_of path pieces
  pub short : All (λ piece. length piece ≤ 65536) (first ∷ pieces)

-- a whole file: no further piece is empty, and behind a start of no bytes there is none
pub record SpellsFile (path bytes : List ℕ) (emissions : List Emission) : Type 0 where
  pub part : SpellsPart path bytes emissions
  pub some : All (λ piece. 0 < length piece) part.pieces
  pub none : part.first ≡ [] → part.pieces ≡ []

abbrev pub SpellsOne : Output → List Emission → Type 0
SpellsOne (file path bytes) emissions = SpellsFile path bytes emissions
SpellsOne (text target bytes) emissions = emissions ≡ (target, bytes) ∷ []

-- the same of an output that may have lost its end
abbrev pub SpellsOneCut : Output → List Emission → Type 0
SpellsOneCut (file path bytes) emissions = SpellsPart path bytes emissions
SpellsOneCut (text target bytes) emissions = emissions ≡ (target, bytes) ∷ []

-- the outputs in order, one after another
abbrev pub Spells : List Output → List Emission → Type 0
Spells [] emissions = emissions ≡ []
Spells (output ∷ outputs) emissions =
    (front : List Emission) × (back : List Emission) × (emissions ≡ front ++ back)
    × SpellsOne output front × Spells outputs back

-- What is told grew by a spelling of these outputs.
abbrev pub Spelled : Option (List Emission) → Option (List Emission) → List Output → Type 0
Spelled old new outputs = (emissions : List Emission) × Spells outputs emissions
    × Grew old new emissions

-- What is told grew by one file in pieces.
abbrev pub SpelledFile : Option (List Emission) → Option (List Emission) → List ℕ → List ℕ → Type 0
SpelledFile old new path bytes = (emissions : List Emission) × SpellsFile path bytes emissions
    × Grew old new emissions

-- What is told grew by a part of one file in pieces.
abbrev pub SpelledPart : Option (List Emission) → Option (List Emission) → List ℕ → List ℕ → Type 0
SpelledPart old new path bytes = (emissions : List Emission) × SpellsPart path bytes emissions
    × Grew old new emissions

-- an output that may have lost its end
abbrev pub IsCut : Output → Output → Type 0
IsCut (file path bytes) (file cut_path kept) = (cut_path ≡ path)
    × ((rest : List ℕ) × (bytes ≡ kept ++ rest))
IsCut (text target bytes) (text cut_target kept) = (cut_target ≡ target)
    × ((rest : List ℕ) × (bytes ≡ kept ++ rest))
IsCut _ _ = ⊥

-- a prefix of the outputs, whose last may have lost its end
abbrev pub SpellsCut : List Output → List Emission → Type 0
SpellsCut [] emissions = emissions ≡ []
SpellsCut (output ∷ outputs) emissions =
    (emissions ≡ [])
    ⊎ ((cut : Output) × IsCut output cut × SpellsOneCut cut emissions)
    ⊎ ((front : List Emission) × (back : List Emission) × (emissions ≡ front ++ back)
    × SpellsOne output front × SpellsCut outputs back)

abbrev pub SpelledCut : Option (List Emission) → Option (List Emission) → List Output → Type 0
SpelledCut old new outputs = (emissions : List Emission) × SpellsCut outputs emissions
    × Grew old new emissions

-- what a write of outputs does
abbrev pub Writes : {E : Type 0} → Option (List Emission) → Option (List Emission) → List Output
    → Result (Unit {0}) E → Type 0
Writes old new outputs (Ok x) = Spelled old new outputs
Writes old new outputs (Err e) = SpelledCut old new outputs

-- what a write of one file in pieces does
abbrev pub WritesFile : {E : Type 0} → Option (List Emission) → Option (List Emission) → List ℕ
    → List ℕ → Result (Unit {0}) E → Type 0
WritesFile old new path bytes (Ok x) = SpelledFile old new path bytes
WritesFile old new path bytes (Err e) = (kept : List ℕ) × (rest : List ℕ) × (bytes ≡ kept ++ rest)
    × SpelledPart old new path kept
