-- The results in the places of their numbers.
use Rattle.std.proofs.Common.{◌≡◌, ◌≢◌, ℕ, zero, suc, ◌+◌, ◌<◌, ◌≤◌, eqb, cond, List, [], ◌∷◌, ◌++◌, map, length, set, replicate, get_or, fold, sym, refl, ap, ◌∙◌, subst, ⊎_elim, arith, Option, Some, None, Result, Ok, Err, IfOk, All, sum_by, length-set}
use lib.ListN.{length-replicate, length-map}
use Rattle.std.specs.Prelude.{slice_get, IsSome}
use Rattle.std.specs.List.{AllZip}
use Rattle.std.proofs.lemmas.Bool.Decides.{eqb_tells}
use Rattle.std.proofs.lemmas.List.Sums.{sum_by-cons}
use Rattle.std.proofs.lemmas.Option.{none-some, same_Some, slice_get_within, get_or_from_slice_get}
use Rattle.drawn_waves.specs.declared.pieces.Piece.{Piece}
use Rattle.drawn_waves.specs.Drawing.{upto}
use Rattle.drawn_waves.specs.Pieces.{number_of, IsPiece, AreAll, put, placed}
use Rattle.drawn_waves.proofs.Sums.{upto_more}

-- 1 at k
abbrev at : ℕ → ℕ → ℕ
at k x = cond (eqb x k) 1 0

at_is : (k : ℕ) → at k k ≡ 1
at_is k = ⊎_elim (λ t. ap (λ b. cond b 1 0) t.0) (λ t. absurd (t.1 refl)) (eqb_tells k k)

at_other : (k x : ℕ) → x ≢ k → at k x ≡ 0
at_other k x other = ⊎_elim (λ t. absurd (other t.1)) (λ t. ap (λ b. cond b 1 0) t.0) (eqb_tells x k)

-- each number below n stands there
upto_has : (k n : ℕ) → k < n → 0 < sum_by (at k) (upto n)
upto_has k zero l = absurd (omega arith)
upto_has k (suc n) l = let a = upto_more (at k) n in
    ⊎_elim (λ (t : (eqb n k ≡ Rattle.std.proofs.Common.true) × (n ≡ k)). let b : at k n ≡ 1 = ap (λ v. cond v 1 0) t.0 in omega arith)
    (λ (t : (eqb n k ≡ Rattle.std.proofs.Common.false) × (n ≢ k)). let other = t.1 in let b = upto_has k n (omega arith) in omega arith) (eqb_tells n k)

module _ {X : Type 0} where
  pub get_set_here : (xs : List X) (k : ℕ) (y : X) → k < length xs → slice_get (set xs k y) k ≡ Some y
  get_set_here [] k y l = absurd (omega arith)
  get_set_here (x ∷ xs) zero y l = refl
  get_set_here (x ∷ xs) (suc k) y l = get_set_here xs k y (omega arith)

  pub get_set_else : (xs : List X) (j k : ℕ) (y : X) → k ≢ j → slice_get (set xs j y) k ≡ slice_get xs k
  get_set_else [] j k y other = refl
  get_set_else (x ∷ xs) zero zero y other = absurd (other refl)
  get_set_else (x ∷ xs) zero (suc k) y other = refl
  get_set_else (x ∷ xs) (suc j) zero y other = refl
  get_set_else (x ∷ xs) (suc j) (suc k) y other = get_set_else xs j k y (λ e. other (ap suc e))

  get_mapped : (xs : List X) (k : ℕ) (x : X) → slice_get xs k ≡ Some x → slice_get (map Some xs) k ≡ Some (Some x)
  get_mapped [] k x e = absurd (none-some x e)
  get_mapped (y ∷ ys) zero x e = ap (λ (o : Option X). Some o) e
  get_mapped (y ∷ ys) (suc k) x e = get_mapped ys k x e

  get_replicated : (n k : ℕ) (x : X) → slice_get (replicate n None) k ≢ Some (Some x)
  get_replicated zero k x e = none-some (Some x) e
  get_replicated (suc n) zero x e = none-some x (same_Some None (Some x) e)
  get_replicated (suc n) (suc k) x e = get_replicated n k x e

-- two lists side by side, from what holds at each place
pub zip_from : {X Y : Type 0} (Q : X → Y → Type 0) (xs : List X) (ys : List Y) → length ys ≡ length xs → ((k : ℕ) (x : X) (y : Y) → slice_get xs k ≡ Some x → slice_get ys k ≡ Some y → Q x y) → AllZip Q xs ys
zip_from Q [] [] same each = tt
zip_from Q [] (y ∷ ys) same each = absurd (omega arith)
zip_from Q (x ∷ xs) [] same each = absurd (omega arith)
zip_from Q (x ∷ xs) (y ∷ ys) same each = (each 0 x y refl refl, zip_from Q xs ys (omega arith) (λ k u v a b. each (suc k) u v a b))

module _ {R : Type 0} where
  pub length_placed : (base : List (Option R)) (pieces : List (Piece R)) → length (fold put base pieces) ≡ length base
  length_placed base [] = refl
  length_placed base (p ∷ ps) = length_placed (put base p) ps ∙ length-set base p.number (Some p.result)

  pub length_all_placed : (count : ℕ) (pieces : List (Piece R)) → length (placed count pieces) ≡ count
  length_all_placed count pieces = length_placed (replicate count None) pieces ∙ length-replicate count None

  abbrev Full : List (Option R) → ℕ → Type 0
  Full places k = (r : R) × (slice_get places k ≡ Some (Some r))

  put_here : (base : List (Option R)) (p : Piece R) (k : ℕ) → p.number ≡ k → k < length base → Full (put base p) k
  put_here base p k is l = (p.result, ap (λ (j : ℕ). slice_get (set base j (Some p.result)) k) is ∙ get_set_here base k (Some p.result) l)

  still_full : (base : List (Option R)) (p : Piece R) (k : ℕ) → Full base k → Full (put base p) k
  still_full base p k f = ⊎_elim (λ t. put_here base p k t.1 (slice_get_within base k (Some f.0) f.1))
      (λ t. (f.0, get_set_else base p.number k (Some p.result) (λ e. t.1 (sym e)) ∙ f.1)) (eqb_tells p.number k)

  stays_full : (base : List (Option R)) (pieces : List (Piece R)) (k : ℕ) → Full base k → Full (fold put base pieces) k
  stays_full base [] k f = f
  stays_full base (p ∷ ps) k f = stays_full (put base p) ps k (still_full base p k f)

  gets_full : (base : List (Option R)) (pieces : List (Piece R)) (k : ℕ) → k < length base → 0 < sum_by (at k) (map number_of pieces) → Full (fold put base pieces) k
  gets_full base [] k l some = absurd (omega arith)
  gets_full base (p ∷ ps) k l some = ⊎_elim (λ t. stays_full (put base p) ps k (put_here base p k t.1 l))
      (λ t. let a = sum_by-cons (at k) p.number (map number_of ps) in let b = at_other k p.number t.1 in let same = length-set base p.number (Some p.result) in
      gets_full (put base p) ps k (omega arith) (omega arith)) (eqb_tells p.number k)

  -- where the numbers are all, each place has a result
  pub all_placed : (count : ℕ) (pieces : List (Piece R)) → AreAll count (map number_of pieces) → All IsSome (placed count pieces)
  all_placed count pieces all k d l =
      let low = subst (λ (n : ℕ). k < n) (length_all_placed count pieces) l in
      let f = gets_full (replicate count None) pieces k (subst (λ (n : ℕ). k < n) (sym (length-replicate count None)) low) (subst (λ (n : ℕ). 0 < n) (sym (all (at k))) (upto_has k count low)) in
      subst IsSome (sym (get_or_from_slice_get (placed count pieces) k (Some f.0) d f.1)) refl

module _ {F I R E : Type 0} (post : F → I → Result R E → Type 0) (work : F) (items : List I) where
  abbrev Fits : List (Option R) → Type 0
  Fits places = (k : ℕ) (r : R) → slice_get places k ≡ Some (Some r) → (item : I) × (slice_get items k ≡ Some item) × post work item (Ok r)

  put_fits : (base : List (Option R)) (p : Piece R) → Fits base → IsPiece post work items p → Fits (put base p)
  put_fits base p fits is k r e = ⊎_elim
      (λ t. let l : k < length base = subst (λ (n : ℕ). k < n) (length-set base p.number (Some p.result)) (slice_get_within (put base p) k (Some r) e) in
      let same : p.result ≡ r = same_Some _ _ (same_Some _ _ (sym (ap (λ (j : ℕ). slice_get (set base j (Some p.result)) k) t.1 ∙ get_set_here base k (Some p.result) l) ∙ e)) in
      (is.0, ap (λ (j : ℕ). slice_get items j) (sym t.1) ∙ is.1, subst (λ (x : R). post work is.0 (Ok x)) same is.2))
      (λ t. fits k r (sym (get_set_else base p.number k (Some p.result) (λ x. t.1 (sym x))) ∙ e)) (eqb_tells p.number k)

  all_fit : (base : List (Option R)) (pieces : List (Piece R)) → Fits base → All (IsPiece post work items) pieces → Fits (fold put base pieces)
  all_fit base [] fits all = fits
  all_fit base (p ∷ ps) fits all = all_fit (put base p) ps (put_fits base p fits (all 0 p (omega arith))) (λ k d l. all (suc k) d (omega arith))

  -- the results in the items' order are answers for the items
  pub in_order : (count : ℕ) (pieces : List (Piece R)) (results : List R) → count ≡ length items → All (IsPiece post work items) pieces → map Some results ≡ placed count pieces
      → AllZip (λ i r. post work i (Ok r)) items results
  in_order count pieces results whole all are = zip_from (λ i r. post work i (Ok r)) items results
      (sym (length-map results (λ (r : R). Some r)) ∙ ap length are ∙ length_all_placed count pieces ∙ whole)
      (λ k i r a b. let f = all_fit (replicate count None) pieces (λ j x e. absurd (get_replicated count j x e)) all k r (ap (λ (xs : List (Option R)). slice_get xs k) (sym are) ∙ get_mapped results k r b) in
      subst (λ (x : I). post work x (Ok r)) (same_Some _ _ (sym f.1 ∙ a)) f.2)

  -- the number of each piece is below the wave's length
  pub pieces_below : (count : ℕ) (pieces : List (Piece R)) → count ≡ length items → All (IsPiece post work items) pieces → All (λ piece. piece.number < count) pieces
  pieces_below count pieces whole all k d l = let is = all k d l in subst (λ (n : ℕ). (get_or pieces k d).number < n) (sym whole) (slice_get_within items _ is.0 is.1)

  -- pieces for the same items under another name
  pub pieces_for : (held : List I) (pieces : List (Piece R)) → held ≡ items → All (IsPiece post work held) pieces → All (IsPiece post work items) pieces
  pieces_for held pieces same all = subst (λ (is : List I). All (IsPiece post work is) pieces) same all

  -- the same of what may be refused
  pub all_answered : {Y E' : Type 0} (of : Y → List R) (result : Result Y E') (count : ℕ) (pieces : List (Piece R)) (places : List (Option R)) → count ≡ length items → All (IsPiece post work items) pieces
      → places ≡ placed count pieces → IfOk result (λ x. map Some (of x) ≡ places) → IfOk result (λ x. AllZip (λ i r. post work i (Ok r)) items (of x))
  all_answered of (Err e) count pieces places whole all laid lifted = tt
  all_answered of (Ok x) count pieces places whole all laid lifted = in_order count pieces (of x) whole all (lifted ∙ laid)
