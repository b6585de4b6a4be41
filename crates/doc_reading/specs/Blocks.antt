-- Blocks of lines: sections between heads, statements and components between the lines that begin
-- them.
use Rattle.std.specs.Prelude.{Bool, true, false, List, [], ◌∷◌, ◌++◌, Option, Some, None, if◌then◌else◌}
use Rattle.doc_reading.specs.Grammar.{Read, entered, gave}
use Rattle.doc_reading.specs.Reading.{last_of}

-- the line that begins a block, and those down to the next one
pub record Block (L : Type 0) : Type 0 where
  pub first : L
  pub rest : List L

-- the lines down to the first that begins a block
abbrev pub lines_until : {L : Type 0} → (L → Bool) → List L → List L
lines_until begins [] = []
lines_until begins (l ∷ ls) = if begins l then [] else l ∷ lines_until begins ls

-- the blocks; lines before the first of them are in none
abbrev pub blocks : {L : Type 0} → (L → Bool) → List L → List (Block L)
blocks begins [] = []
blocks begins (l ∷ ls) = if begins l then record { first = l; rest = lines_until begins ls }
    ∷ blocks begins ls else blocks begins ls

-- a block with one line more
abbrev pub with_line : {L : Type 0} → Block L → L → Block L
with_line block l = record { first = block.first; rest = block.rest ++ l ∷ [] }

abbrev pub are_heads : {S R : Type 0} → Read S R → Bool
are_heads (entered at scopes) = true
are_heads (gave rows) = false

-- a section is its heads and the lines down to the next ones
abbrev pub sections_of : {S R : Type 0} → List (Read S R) → List (Block (Read S R))
sections_of reads = blocks are_heads reads

-- all but the last
abbrev pub without_last : {T : Type 0} → List T → List T
without_last [] = []
without_last (x ∷ []) = []
without_last (x ∷ y ∷ ys) = x ∷ without_last (y ∷ ys)

-- the blocks that another one has ended
abbrev pub ended_blocks : {L : Type 0} → (L → Bool) → List L → List (Block L)
ended_blocks begins lines = without_last (blocks begins lines)

-- the block that the next line goes on with
abbrev pub last_block : {L : Type 0} → (L → Bool) → List L → Option (Block L)
last_block begins lines = last_of (blocks begins lines)

-- what a block makes, where there is one
abbrev pub made_of : {L T : Type 0} → (Block L → List T) → Option (Block L) → List T
made_of made None = []
made_of made (Some block) = made block
