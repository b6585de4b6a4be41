-- Blocks with one line more.
use Rattle.std.proofs.Common.{◌≡◌, ◌∙◌, Bool, true, false, if◌then◌else◌, List, [], ◌∷◌, ◌++◌, Some, None, option_map, refl, sym, ap, append-nil}
use Rattle.std.specs.List.{flat_map}
use Rattle.std.proofs.lemmas.Grind.{flat_map-append}
use Rattle.doc_reading.specs.Blocks.{Block, lines_until, blocks, with_line, without_last, ended_blocks, last_block, made_of}
use Rattle.doc_reading.specs.Reading.{last_of}
use Rattle.doc_reading.proofs.Turns.{last_or-append}

until_end : {L : Type 0} (begins : L → Bool) (xs : List L) (l : L) → begins l ≡ true → lines_until begins (xs ++ l ∷ []) ≡ lines_until begins xs
until_end begins [] l b = ap (λ t. if t then [] else l ∷ []) b
until_end begins (x ∷ xs) l b = ap (λ ls. if begins x then [] else x ∷ ls) (until_end begins xs l b)

in_front : {T : Type 0} (t : Bool) (x : T) (xs ys : List T) → (if t then x ∷ (xs ++ ys) else xs ++ ys) ≡ (if t then x ∷ xs else xs) ++ ys
in_front true x xs ys = refl
in_front false x xs ys = refl

-- with one that begins a block
pub blocks_begin : {L : Type 0} (begins : L → Bool) (xs : List L) (l : L) → begins l ≡ true
    → blocks begins (xs ++ l ∷ []) ≡ blocks begins xs ++ record { first = l; rest = [] } ∷ []
blocks_begin begins [] l b = ap (λ t. if t then record { first = l; rest = [] } ∷ [] else []) b
blocks_begin begins (x ∷ xs) l b =
    ap (λ ls. if begins x then record { first = x; rest = ls } ∷ blocks begins (xs ++ l ∷ []) else blocks begins (xs ++ l ∷ [])) (until_end begins xs l b)
    ∙ ap (λ bs. if begins x then record { first = x; rest = lines_until begins xs } ∷ bs else bs) (blocks_begin begins xs l b)
    ∙ in_front (begins x) (record { first = x; rest = lines_until begins xs }) (blocks begins xs) (record { first = l; rest = [] } ∷ [])

no_cons : {T X : Type 0} (x : T) (xs : List T) → (x ∷ xs) ≡ [] → X
no_cons x xs e = absurd cc

first_is : {T : Type 0} (x y : T) (xs ys : List T) → (x ∷ xs) ≡ (y ∷ ys) → x ≡ y
first_is x y xs ys e = cc

rest_is : {T : Type 0} (x y : T) (xs ys : List T) → (x ∷ xs) ≡ (y ∷ ys) → xs ≡ ys
rest_is x y xs ys e = cc

if_none : {T : Type 0} (t : Bool) (x : T) (xs : List T) → (if t then x ∷ xs else xs) ≡ [] → t ≡ false
if_none true x xs e = no_cons x xs e
if_none false x xs e = refl

if_rest : {T : Type 0} (t : Bool) (x : T) (xs : List T) → (if t then x ∷ xs else xs) ≡ [] → xs ≡ []
if_rest true x xs e = no_cons x xs e
if_rest false x xs e = e

-- where none begins one
until_all : {L : Type 0} (begins : L → Bool) (xs : List L) (l : L) → begins l ≡ false → blocks begins xs ≡ [] → lines_until begins (xs ++ l ∷ []) ≡ lines_until begins xs ++ l ∷ []
until_all begins [] l b e = ap (λ t. if t then [] else l ∷ []) b
until_all begins (x ∷ xs) l b e =
    let none : begins x ≡ false = if_none (begins x) (record { first = x; rest = lines_until begins xs }) (blocks begins xs) e in
    let more : blocks begins xs ≡ [] = if_rest (begins x) (record { first = x; rest = lines_until begins xs }) (blocks begins xs) e in
    ap (λ t. if t then [] else x ∷ lines_until begins (xs ++ l ∷ [])) none
    ∙ ap (λ ls. x ∷ ls) (until_all begins xs l b more)
    ∙ sym (ap (λ t. (if t then [] else x ∷ lines_until begins xs) ++ l ∷ []) none)

pub blocks_none : {L : Type 0} (begins : L → Bool) (xs : List L) (l : L) → begins l ≡ false → blocks begins xs ≡ [] → blocks begins (xs ++ l ∷ []) ≡ []
blocks_none begins [] l b e = ap (λ t. if t then record { first = l; rest = [] } ∷ [] else []) b
blocks_none begins (x ∷ xs) l b e =
    let none : begins x ≡ false = if_none (begins x) (record { first = x; rest = lines_until begins xs }) (blocks begins xs) e in
    let more : blocks begins xs ≡ [] = if_rest (begins x) (record { first = x; rest = lines_until begins xs }) (blocks begins xs) e in
    ap (λ t. if t then record { first = x; rest = lines_until begins (xs ++ l ∷ []) } ∷ blocks begins (xs ++ l ∷ []) else blocks begins (xs ++ l ∷ [])) none
    ∙ blocks_none begins xs l b more

kept : {T U : Type 0} (t : Bool) (x : T) (ls old : List T) (b : U) (bs all : List U) → (if t then b ∷ bs else bs) ≡ all → (bs ≡ all → ls ≡ old)
    → (if t then [] else x ∷ ls) ≡ (if t then [] else x ∷ old)
kept true x ls old b bs all e same = refl
kept false x ls old b bs all e same = ap (λ ys. x ∷ ys) (same e)

-- where another does
until_kept : {L : Type 0} (begins : L → Bool) (xs : List L) (l : L) (block : Block L) (more : List (Block L)) → blocks begins xs ≡ block ∷ more
    → lines_until begins (xs ++ l ∷ []) ≡ lines_until begins xs
until_kept begins [] l block more e = absurd cc
until_kept begins (x ∷ xs) l block more e =
    kept (begins x) x (lines_until begins (xs ++ l ∷ [])) (lines_until begins xs) (record { first = x; rest = lines_until begins xs }) (blocks begins xs) (block ∷ more) e
    (λ same. until_kept begins xs l block more same)

kept_where : {L : Type 0} (begins : L → Bool) (xs : List L) (l : L) (front : List (Block L)) (last : Block L) → blocks begins xs ≡ front ++ last ∷ []
    → lines_until begins (xs ++ l ∷ []) ≡ lines_until begins xs
kept_where begins xs l [] last e = until_kept begins xs l last [] e
kept_where begins xs l (f ∷ front) last e = until_kept begins xs l f (front ++ last ∷ []) e

one_more : {L : Type 0} (begins : L → Bool) (x : L) (xs : List L) (l : L) (t : Bool) (front : List (Block L)) (last : Block L)
    → begins l ≡ false
    → ((front : List (Block L)) → blocks begins xs ≡ front ++ last ∷ [] → blocks begins (xs ++ l ∷ []) ≡ front ++ with_line last l ∷ [])
    → (if t then record { first = x; rest = lines_until begins xs } ∷ blocks begins xs else blocks begins xs) ≡ front ++ last ∷ []
    → (if t then record { first = x; rest = lines_until begins (xs ++ l ∷ []) } ∷ blocks begins (xs ++ l ∷ []) else blocks begins (xs ++ l ∷ [])) ≡ front ++ with_line last l ∷ []
one_more begins x xs l false front last b more e = more front e
one_more begins x xs l true [] last b more e =
    let here : Block _ = record { first = x; rest = lines_until begins xs } in
    let is : here ≡ last = first_is here last (blocks begins xs) [] e in
    let none : blocks begins xs ≡ [] = rest_is here last (blocks begins xs) [] e in
    ap (λ ls. record { first = x; rest = ls } ∷ blocks begins (xs ++ l ∷ [])) (until_all begins xs l b none)
    ∙ ap (λ bs. with_line here l ∷ bs) (blocks_none begins xs l b none)
    ∙ ap (λ block. with_line block l ∷ []) is
one_more begins x xs l true (f ∷ front) last b more e =
    let here : Block _ = record { first = x; rest = lines_until begins xs } in
    let is : here ≡ f = first_is here f (blocks begins xs) (front ++ last ∷ []) e in
    let rest : blocks begins xs ≡ front ++ last ∷ [] = rest_is here f (blocks begins xs) (front ++ last ∷ []) e in
    ap (λ ls. record { first = x; rest = ls } ∷ blocks begins (xs ++ l ∷ [])) (kept_where begins xs l front last rest)
    ∙ ap (λ bs. here ∷ bs) (more front rest)
    ∙ ap (λ block. block ∷ front ++ with_line last l ∷ []) is

-- with one that doesn't, which the last block takes
pub blocks_more : {L : Type 0} (begins : L → Bool) (xs : List L) (l : L) (front : List (Block L)) (last : Block L)
    → begins l ≡ false → blocks begins xs ≡ front ++ last ∷ [] → blocks begins (xs ++ l ∷ []) ≡ front ++ with_line last l ∷ []
blocks_more begins [] l [] last b e = absurd cc
blocks_more begins [] l (f ∷ front) last b e = absurd cc
blocks_more begins (x ∷ xs) l front last b e =
    one_more begins x xs l (begins x) front last b (λ front e. blocks_more begins xs l front last b e) e

last_is : {T : Type 0} (xs : List T) (x : T) → last_of (xs ++ x ∷ []) ≡ Some x
last_is xs x = last_or-append None xs (x ∷ [])

before_last : {T : Type 0} (xs : List T) (x : T) → without_last (xs ++ x ∷ []) ≡ xs
before_last [] x = refl
before_last (y ∷ []) x = refl
before_last (y ∷ z ∷ zs) x = ap (λ ys. y ∷ ys) (before_last (z ∷ zs) x)

-- a list has no last entry, or one with the others before it
data Ends {T : Type 0} (xs : List T) : Type 0 where
  none : xs ≡ [] → Ends xs
  some : (front : List T) (last : T) → xs ≡ front ++ last ∷ [] → Ends xs

ends_more : {T : Type 0} (x : T) (xs : List T) → Ends xs → Ends (x ∷ xs)
ends_more x xs (none e) = some [] x (ap (λ ys. x ∷ ys) e)
ends_more x xs (some front last e) = some (x ∷ front) last (ap (λ ys. x ∷ ys) e)

ends : {T : Type 0} (xs : List T) → Ends xs
ends [] = none refl
ends (x ∷ xs) = ends_more x xs (ends xs)

made_last : {L T : Type 0} (made : Block L → List T) (bs : List (Block L)) → Ends bs → flat_map made (without_last bs) ++ made_of made (last_of bs) ≡ flat_map made bs
made_last made bs (none e) = ap (λ cs. flat_map made (without_last cs) ++ made_of made (last_of cs)) e ∙ sym (ap (flat_map made) e)
made_last made bs (some front last e) =
    ap (λ cs. flat_map made (without_last cs) ++ made_of made (last_of cs)) e
    ∙ ap (λ cs. flat_map made cs ++ made_of made (last_of (front ++ last ∷ []))) (before_last front last)
    ∙ ap (λ b. flat_map made front ++ made_of made b) (last_is front last)
    ∙ ap (λ xs. flat_map made front ++ xs) (sym (append-nil (made last)))
    ∙ sym (flat_map-append made front (last ∷ []))
    ∙ sym (ap (flat_map made) e)

-- what all blocks make, from what is made of those that are ended and of the last
pub blocks_made : {L T : Type 0} (begins : L → Bool) (made : Block L → List T) (xs : List L)
    → flat_map made (ended_blocks begins xs) ++ made_of made (last_block begins xs) ≡ flat_map made (blocks begins xs)
blocks_made begins made xs = made_last made (blocks begins xs) (ends (blocks begins xs))

-- a line that begins a block ends the one above
pub block_begun : {L T : Type 0} (begins : L → Bool) (made : Block L → List T) (xs : List L) (l : L) (done new : List T) → begins l ≡ true
    → done ≡ flat_map made (ended_blocks begins xs) → new ≡ done ++ made_of made (last_block begins xs) → new ≡ flat_map made (ended_blocks begins (xs ++ l ∷ []))
block_begun begins made xs l done new b d n =
    n ∙ ap (λ ms. ms ++ made_of made (last_block begins xs)) d ∙ blocks_made begins made xs
    ∙ ap (flat_map made) (sym (ap without_last (blocks_begin begins xs l b) ∙ before_last (blocks begins xs) (record { first = l; rest = [] })))

-- and is the last of them
pub block_first : {L : Type 0} (begins : L → Bool) (xs : List L) (l : L) → begins l ≡ true → last_block begins (xs ++ l ∷ []) ≡ Some (record { first = l; rest = [] })
block_first begins xs l b = ap last_of (blocks_begin begins xs l b) ∙ last_is (blocks begins xs) (record { first = l; rest = [] })

last_taken : {L : Type 0} (begins : L → Bool) (xs : List L) (l : L) → begins l ≡ false → Ends (blocks begins xs)
    → last_block begins (xs ++ l ∷ []) ≡ option_map (λ block. with_line block l) (last_block begins xs)
last_taken begins xs l b (none e) = ap last_of (blocks_none begins xs l b e) ∙ sym (ap (λ bs. option_map (λ block. with_line block l) (last_of bs)) e)
last_taken begins xs l b (some front last e) =
    ap last_of (blocks_more begins xs l front last b e) ∙ last_is front (with_line last l)
    ∙ sym (ap (λ bs. option_map (λ block. with_line block l) (last_of bs)) e ∙ ap (option_map (λ block. with_line block l)) (last_is front last))

-- another line goes to the last block
pub block_taken : {L : Type 0} (begins : L → Bool) (xs : List L) (l : L) → begins l ≡ false
    → last_block begins (xs ++ l ∷ []) ≡ option_map (λ block. with_line block l) (last_block begins xs)
block_taken begins xs l b = last_taken begins xs l b (ends (blocks begins xs))

ended_kept : {L : Type 0} (begins : L → Bool) (xs : List L) (l : L) → begins l ≡ false → Ends (blocks begins xs) → ended_blocks begins (xs ++ l ∷ []) ≡ ended_blocks begins xs
ended_kept begins xs l b (none e) = ap without_last (blocks_none begins xs l b e) ∙ sym (ap without_last e)
ended_kept begins xs l b (some front last e) =
    ap without_last (blocks_more begins xs l front last b e) ∙ before_last front (with_line last l) ∙ sym (ap without_last e ∙ before_last front last)

-- and ends none
pub block_kept : {L : Type 0} (begins : L → Bool) (xs : List L) (l : L) → begins l ≡ false → ended_blocks begins (xs ++ l ∷ []) ≡ ended_blocks begins xs
block_kept begins xs l b = ended_kept begins xs l b (ends (blocks begins xs))

-- the end of the document ends the last block
pub block_ended : {L T : Type 0} (begins : L → Bool) (made : Block L → List T) (xs : List L) (done new : List T)
    → done ≡ flat_map made (ended_blocks begins xs) → new ≡ done ++ made_of made (last_block begins xs) → new ≡ flat_map made (blocks begins xs)
block_ended begins made xs done new d n = n ∙ ap (λ ms. ms ++ made_of made (last_block begins xs)) d ∙ blocks_made begins made xs
