-- What the workers of a wave drew, put together.
use Rattle.std.proofs.Common.{◌≡◌, ℕ, zero, suc, ◌+◌, ◌-◌, ◌/◌, ◌<◌, ◌≤◌, ltb, leb, cond, List, [], ◌∷◌, ◌++◌, map, filter, length, sym, refl, ap, ◌∙◌, subst, ⊎_elim, arith, Option, Some, None, Result, Ok, Err, All, sum_by, IfOk, append_assoc, append-nil}
use mathlib.Core.List.{map-append}
use mathlib.Core.Logic.{dite}
use native.Mathlib.Decide.{dec_le}
use Rattle.std.proofs.lemmas.Bool.Decides.{leb_tells}
use Rattle.std.proofs.lemmas.List.Elements.{filter-append, All-append}
use Rattle.std.proofs.lemmas.List.Sums.{sum_by-cons, sum_by-append, sum_by_push}
use Rattle.std.proofs.lemmas.Option.{slice_get_within}
use Rattle.drawn_waves.specs.declared.table.WorkerView.{WorkerView}
use Rattle.drawn_waves.specs.declared.pieces.Piece.{Piece}
use Rattle.drawn_waves.specs.Drawing.{upto, past, count_past, kept_half, given_half, joined_view, HasTaken}
use Rattle.drawn_waves.specs.Pieces.{number_of, IsPiece, Ends, AreDrawn, HasDrawn, AreAll, Both, below}
use Rattle.drawn_waves.proofs.Sums.{past_is, upto_none, upto_more}

-- the weight of a number below n, and 0 of each other one
abbrev low : ℕ → (ℕ → ℕ) → ℕ → ℕ
low n weight x = cond (ltb x n) (weight x) 0

low_is : (n : ℕ) (weight : ℕ → ℕ) (x : ℕ) → x < n → low n weight x ≡ weight x
low_is n weight x l = ⊎_elim (λ t. ap (λ b. cond b (weight x) 0) t.0) (λ t. let m = t.1 in absurd (omega arith)) (leb_tells (suc x) n)

low_none : (n : ℕ) (weight : ℕ → ℕ) (x : ℕ) → n ≤ x → low n weight x ≡ 0
low_none n weight x l = ⊎_elim (λ t. let m = t.1 in absurd (omega arith)) (λ t. ap (λ b. cond b (weight x) 0) t.0) (leb_tells (suc x) n)

sum_below : (n : ℕ) (weight : ℕ → ℕ) (xs : List ℕ) → sum_by weight (below n xs) ≡ sum_by (low n weight) xs
sum_below n weight [] = refl
sum_below n weight (x ∷ xs) = let a = sum_by-cons (low n weight) x xs in let b = sum_below n weight xs in let c = sum_by-cons weight x (below n xs) in
    ⊎_elim (λ t. let d = low_is n weight x t.1 in ap (λ v. sum_by weight (cond v (x ∷ below n xs) (below n xs))) t.0 ∙ omega arith)
    (λ t. let m = t.1 in let d = low_none n weight x (omega arith) in ap (λ v. sum_by weight (cond v (x ∷ below n xs) (below n xs))) t.0 ∙ omega arith) (leb_tells (suc x) n)

low_upto : (n : ℕ) (weight : ℕ → ℕ) (k : ℕ) → k ≤ n → sum_by (low n weight) (upto k) ≡ sum_by weight (upto k)
unfolding upto
low_upto n weight zero l = refl
low_upto n weight (suc k) l = let a = sum_by_push (low n weight) (upto k) k in let b = sum_by_push weight (upto k) k in let c = low_upto n weight k (omega arith) in let d = low_is n weight k (omega arith) in omega arith

cut_upto : (n : ℕ) (weight : ℕ → ℕ) (k : ℕ) → n ≤ k → sum_by (low n weight) (upto k) ≡ sum_by weight (upto n)
cut_upto n weight zero l = let z : 0 ≡ n = omega arith in subst (λ (m : ℕ). sum_by (low n weight) (upto 0) ≡ sum_by weight (upto m)) z (low_upto n weight 0 (omega arith))
cut_upto n weight (suc k) l = dite (dec_le n k)
    (λ le. let a = upto_more (low n weight) k in let b = cut_upto n weight k le in let c = low_none n weight k le in omega arith)
    (λ gt. let z : suc k ≡ n = omega arith in subst (λ (m : ℕ). sum_by (low n weight) (upto (suc k)) ≡ sum_by weight (upto m)) z (low_upto n weight (suc k) (omega arith)))

-- where numbers weigh what those below the word weigh, and one is at or past the length, those below the length are all of them
pub all_below : (n word : ℕ) (numbers : List ℕ) → ((weight : ℕ → ℕ) → sum_by weight numbers ≡ sum_by weight (upto word)) → 0 < count_past n numbers → AreAll n (below n numbers)
all_below n word numbers all ended weight = let a = all (past n) in
    let far : n ≤ word = dite (dec_le n word) (λ l. l) (λ g. let b = upto_none n word (omega arith) in absurd (omega arith)) in
    sum_below n weight numbers ∙ (all (low n weight) ∙ cut_upto n weight word far)

below_all : (n : ℕ) (xs : List ℕ) → All (λ x. x < n) xs → below n xs ≡ xs
below_all n [] h = refl
below_all n (x ∷ xs) h = let l = h 0 0 (omega arith) in
    ⊎_elim (λ t. ap (λ v. cond v (x ∷ below n xs) (below n xs)) t.0 ∙ ap (λ (ys : List ℕ). x ∷ ys) (below_all n xs (λ k d m. h (suc k) d (omega arith)))) (λ t. let m = t.1 in absurd (omega arith)) (leb_tells (suc x) n)

below_last : (n x : ℕ) → n ≤ x → below n (x ∷ []) ≡ []
below_last n x l = ⊎_elim (λ t. let m = t.1 in absurd (omega arith)) (λ t. ap (λ (v : Rattle.std.proofs.Common.Bool). cond v (x ∷ []) []) t.0) (leb_tells (suc x) n)

module _ {F I R E : Type 0} (post : F → I → Result R E → Type 0) (work : F) (items : List I) where
  numbers_below : (pieces : List (Piece R)) → All (IsPiece post work items) pieces → All (λ x. x < length items) (map number_of pieces)
  numbers_below [] all k d l = absurd (omega arith)
  numbers_below (p ∷ ps) all zero d l = let is = all 0 p (omega arith) in slice_get_within items p.number is.0 is.1
  numbers_below (p ∷ ps) all (suc k) d l = numbers_below ps (λ j e m. all (suc j) e (omega arith)) k d (omega arith)

  -- one worker's
  pub one_drawn : (n : ℕ) (numbers : List ℕ) (pieces : List (Piece R)) → n ≡ length items → Ends n [] (map number_of pieces) numbers → All (IsPiece post work items) pieces → HasDrawn post work items numbers pieces
  one_drawn n numbers pieces whole ends all = let ns : List ℕ = map number_of pieces in let m : ℕ = length items in
      let far : m ≤ ends.0 = subst (λ (k : ℕ). k ≤ ends.0) whole ends.1 in (
        record {
          pieces_are = sym (ap (below m) ends.2 ∙ (filter-append (λ x. ltb x m) ns (ends.0 ∷ [])
              ∙ (ap (λ (xs : List ℕ). below m ns ++ xs) (below_last m ends.0 far) ∙ (append-nil (below m ns) ∙ below_all m ns (numbers_below pieces all)))));
          ended = let a = sum_by_push (past m) ns ends.0 in let b = past_is m ends.0 far in subst (λ (xs : List ℕ). 0 < count_past m xs) (sym ends.2) (omega arith);
        },
        all,
      )

  -- those of two
  two_drawn : (ns ms : List ℕ) (ps qs : List (Piece R)) → HasDrawn post work items ns ps → HasDrawn post work items ms qs → HasDrawn post work items (ns ++ ms) (ps ++ qs)
  two_drawn ns ms ps qs a b = let m : ℕ = length items in (
    record {
      pieces_are = map-append number_of ps qs ∙ (ap (λ (xs : List ℕ). xs ++ map number_of qs) a.0.pieces_are ∙ (ap (λ (xs : List ℕ). below m ns ++ xs) b.0.pieces_are ∙ sym (filter-append (λ x. ltb x m) ns ms)));
      ended = let s = sum_by-append (past m) ns ms in let x = a.0.ended in omega arith;
    },
    All-append (IsPiece post work items) ps qs a.1 b.1,
  )

-- the same of what may be refused
module _ {F I R E Y E' : Type 0} (post : F → I → Result R E → Type 0) (work : F) (items : List I) (of : Y → List (Piece R)) where
  pub one_came : (result : Result Y E') (n : ℕ) (before numbers : List ℕ) → before ≡ [] → n ≡ length items → IfOk result (λ x. Ends n before (map number_of (of x)) numbers)
      → IfOk result (λ x. All (IsPiece post work items) (of x)) → IfOk result (λ x. HasDrawn post work items numbers (of x))
  one_came (Err e) n before numbers none whole ends all = tt
  one_came (Ok x) n before numbers none whole ends all = one_drawn post work items n numbers (of x) whole (subst (λ (xs : List ℕ). Ends n xs (map number_of (of x)) numbers) none ends) all

  pub both_came : (first second result : Result Y E') (theirs ours : List I) (ns ms numbers : List ℕ) → theirs ≡ items → ours ≡ items → numbers ≡ ns ++ ms → IfOk first (λ x. HasDrawn post work theirs ns (of x))
      → IfOk second (λ x. HasDrawn post work ours ms (of x)) → IfOk result (λ all. Both of first second (of all)) → IfOk result (λ all. HasDrawn post work items numbers (of all))
  both_came first second (Err e) theirs ours ns ms numbers s t u a b h = tt
  both_came first second (Ok all) theirs ours ns ms numbers s t u a b h =
      let x = subst (λ (is : List I). HasDrawn post work is ns (of h.0)) s (subst (λ r. IfOk r (λ x. HasDrawn post work theirs ns (of x))) h.2 a) in
      let y = subst (λ (is : List I). HasDrawn post work is ms (of h.1)) t (subst (λ r. IfOk r (λ x. HasDrawn post work ours ms (of x))) h.3 b) in
      subst (λ (z : List ℕ × List (Piece R)). HasDrawn post work items z.0 z.1) (λ i. (sym u i, sym h.4 i)) (two_drawn post work items ns ms (of h.0) (of h.1) x y)

pub all_in : {R Y E : Type 0} (of : Y → List (Piece R)) (result : Result Y E) (n word : ℕ) (numbers : List ℕ) → IfOk result (λ x. AreDrawn n numbers (of x)) → ((weight : ℕ → ℕ) → sum_by weight numbers ≡ sum_by weight (upto word))
    → IfOk result (λ x. AreAll n (map number_of (of x)))
all_in of (Err e) n word numbers h all = tt
all_in of (Ok x) n word numbers h all = subst (AreAll n) (sym h.pieces_are) (all_below n word numbers all h.ended)

-- none are below every bound
pub none_below : (n : ℕ) (xs : List ℕ) → xs ≡ [] → All (λ x. x < n) xs
none_below n [] e k d l = absurd (omega arith)
none_below n (x ∷ xs) e k d l = absurd cc

-- what two halves took, put together
pub both_taken : {I : Type 0} (v k g a b r : WorkerView I) → k ≡ kept_half v → g ≡ given_half v → HasTaken k a → HasTaken g b → r ≡ joined_view a b → HasTaken v r
both_taken {I} v k g a b r kept given first second joined = record {
  share = let x = ap (λ (w : WorkerView I). w.share) kept in let y = ap (λ (w : WorkerView I). w.share) given in let z = ap (λ (w : WorkerView I). w.share) joined in
      let s = first.share in let t = second.share in omega arith;
  items = ap (λ (w : WorkerView I). w.items) joined ∙ (first.items ∙ ap (λ (w : WorkerView I). w.items) kept);
  workers = ap (λ (w : WorkerView I). w.workers) joined ∙ (first.workers ∙ ap (λ (w : WorkerView I). w.workers) kept);
  numbers = (
    first.numbers.0 ++ b.numbers,
    ap (λ (w : WorkerView I). w.numbers) joined ∙ (ap (λ (xs : List ℕ). xs ++ b.numbers) (first.numbers.1 ∙ ap (λ (w : WorkerView I). w.numbers ++ first.numbers.0) kept) ∙ append_assoc v.numbers first.numbers.0 b.numbers),
  );
}
