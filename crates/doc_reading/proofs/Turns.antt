-- One line more.
use Rattle.std.proofs.Common.{◌≡◌, ℕ, ◌+◌, ◌-◌, ◌<◌, Bool, ◌==◌, List, [], ◌∷◌, ◌++◌, length, length-drop, get_or, take, drop, fold, Option, Some, None, append-nil, append_assoc, refl, sym, ap, ◌∙◌, arith}
use Rattle.std.proofs.lemmas.List.{take_more, at_drop_more}
use Rattle.std.proofs.lemmas.Bool.{ne_eqb}
use Rattle.std.proofs.lemmas.Bool.Decides.{nat_tests}
use Rattle.build_base.specs.First.{or_else}
use Rattle.doc_reading.specs.Reading.{is_empty, lines_fault, each, last_or, last_of}

empty-length : {L : Type 0} (ls : List L) → is_empty ls ≡ (length ls == 0)
empty-length [] = refl
empty-length (l ∷ ls) = sym (ne_eqb (length (l ∷ ls)) 0 (λ e. omega arith))

same_test : (i n : ℕ) → i < n → (n - (i + 1) == 0) ≡ (i + 1 == n)
same_test i n l = grind (arith, nat_tests)

last-seen : {L : Type 0} (ls : List L) (i : ℕ) → i < length ls → is_empty (drop (i + 1) ls) ≡ (i + 1 == length ls)
last-seen ls i l = empty-length (drop (i + 1) ls) ∙ ap (λ m. m == 0) (length-drop (i + 1) ls) ∙ same_test i (length ls) l

-- a line's fault, and then those of the lines below it
pub faults_more : {L F : Type 0} (fault : List L → L → Bool → Option F) (ls : List L) (i : ℕ) (x : L) → i < length ls → x ≡ get_or ls i x
    → lines_fault fault (take i ls) (drop i ls) ≡ or_else (fault (take i ls) x (i + 1 == length ls)) (lines_fault fault (take (i + 1) ls) (drop (i + 1) ls))
faults_more fault ls i x l e =
    let ys = drop (i + 1) ls in
    let above = take i ls in
    at_drop_more (λ zs. lines_fault fault above zs) ls i x l
    ∙ ap (λ z. lines_fault fault above (z ∷ ys)) (sym e)
    ∙ ap (λ b. or_else (fault above x b) (lines_fault fault (above ++ x ∷ []) ys)) (last-seen ls i l)
    ∙ ap (λ t. or_else (fault above x (i + 1 == length ls)) (lines_fault fault t ys)) (ap (λ z. above ++ z ∷ []) e ∙ sym (take_more ls i x l))

-- what each line gives, with one line more
pub each_push : {C L R : Type 0} (enter : C → L → C) (gives : C → L → List R) (c : C) (ls : List L) (l : L) → each enter gives c (ls ++ l ∷ []) ≡ each enter gives c ls ++ gives (fold enter c ls) l
each_push enter gives c [] l = append-nil (gives c l)
each_push enter gives c (x ∷ ls) l =
    ap (λ ys. gives c x ++ ys) (each_push enter gives (enter c x) ls l) ∙ sym (append_assoc (gives c x) (each enter gives (enter c x) ls) (gives (fold enter (enter c x) ls) l))

-- the last of what comes after
pub last_or-append : {R : Type 0} (o : Option R) (xs ys : List R) → last_or o (xs ++ ys) ≡ last_or (last_or o xs) ys
last_or-append o [] ys = refl
last_or-append o (x ∷ xs) ys = last_or-append (Some x) xs ys

-- the last that the lines give, with one line more
pub last_push : {C L R : Type 0} (enter : C → L → C) (gives : C → L → List R) (c : C) (ls : List L) (l : L)
    → last_of (each enter gives c (ls ++ l ∷ [])) ≡ last_or (last_of (each enter gives c ls)) (gives (fold enter c ls) l)
last_push enter gives c ls l = ap last_of (each_push enter gives c ls l) ∙ last_or-append None (each enter gives c ls) (gives (fold enter c ls) l)

-- a table of what the lines give, with one line more, where c is what the lines above come to
pub list_more : {C L R : Type 0} (enter : C → L → C) (gives : C → L → List R) (start : C) (above : List L) (line : L) (c : C) (old new : List R)
    → c ≡ fold enter start above → old ≡ each enter gives start above → new ≡ old ++ gives c line → new ≡ each enter gives start (above ++ line ∷ [])
list_more enter gives start above line c old new k o n =
    n ∙ ap (λ rows. rows ++ gives c line) o ∙ ap (λ d. each enter gives start above ++ gives d line) k ∙ sym (each_push enter gives start above line)

-- the last of what the lines give, with one line more
pub last_more : {C L R : Type 0} (enter : C → L → C) (gives : C → L → List R) (start : C) (above : List L) (line : L) (c : C) (old new : Option R)
    → c ≡ fold enter start above → old ≡ last_of (each enter gives start above) → new ≡ last_or old (gives c line) → new ≡ last_of (each enter gives start (above ++ line ∷ []))
last_more enter gives start above line c old new k o n =
    n ∙ ap (λ r. last_or r (gives c line)) o ∙ ap (λ d. last_or (last_of (each enter gives start above)) (gives d line)) k ∙ sym (last_push enter gives start above line)
