-- A worker's turns, one after another.
use Rattle.std.proofs.Common.{◌≡◌, ℕ, suc, ◌+◌, ◌<◌, ◌≤◌, List, [], ◌∷◌, ◌++◌, map, length, sym, refl, ap, ◌∙◌, subst, arith, Some, None, Result, Ok, All, append_assoc, append-nil}
use mathlib.Core.List.{map-append}
use Rattle.std.proofs.lemmas.List.{length-map}
use Rattle.std.proofs.lemmas.List.Elements.{All-push}
use Rattle.std.specs.Prelude.{slice_get}
use Rattle.std.proofs.lemmas.Option.{slice_get_within, get_or_from_slice_get}
use Rattle.drawn_waves.specs.declared.table.WorkerView.{WorkerView}
use Rattle.drawn_waves.specs.declared.pieces.Piece.{Piece}
use Rattle.drawn_waves.specs.Drawing.{upto, longer_view, HasTaken}
use Rattle.drawn_waves.specs.Pieces.{number_of, IsPiece, Ends, Rising, WorkedOn}
use Rattle.drawn_waves.proofs.Homes.{get_past}
use Rattle.drawn_waves.proofs.Sums.{upto_past, past_none_all}

-- the view was v, and is w; the next number that is drawn is not below `next`
pub record Going {F I R E : Type 0} (post : F → I → Result R E → Type 0) (work : F) (pieces : ℕ) (v w : WorkerView I) (results : List (Piece R)) (next : ℕ) : Type 0 where
  pub share : w.share ≡ v.share
  pub items : w.items ≡ v.items
  pub workers : w.workers ≡ v.workers
  pub numbers : w.numbers ≡ v.numbers ++ map number_of results
  pub below : All (λ number. number < pieces) w.numbers
  pub results_are : All (IsPiece post work v.items) results
  pub later : (x : ℕ) → All (λ number. number < x) w.numbers → next ≤ x
  pub rising : Rising v.numbers → Rising w.numbers
  pub whole : v.share ≡ v.workers → v.numbers ≡ [] → map number_of results ≡ upto (length results)

-- one more number, greater than all before
rising_more : (xs : List ℕ) (n : ℕ) → Rising xs → All (λ x. x < n) xs → Rising (xs ++ n ∷ [])
rising_more [] n r l = ((λ k d m. absurd (omega arith)), tt)
rising_more (x ∷ xs) n r l = (All-push (λ y. x < y) xs n r.0 (l 0 0 (omega arith)), rising_more xs n r.1 (λ k d m. l (suc k) d (omega arith)))

len_more : {A : Type 0} (xs : List A) (x : A) → length (xs ++ x ∷ []) ≡ suc (length xs)
len_more [] x = refl
len_more (y ∷ ys) x = ap suc (len_more ys x)

upto_next : (n : ℕ) → upto (suc n) ≡ upto n ++ n ∷ []
unfolding upto
upto_next n = refl

-- numbers below one from 0 on are at most as many
few_below : (n k : ℕ) → All (λ x. x < n) (upto k) → k ≤ n
few_below n k h = let a = upto_past n k in let b = past_none_all n (upto k) h in omega arith

module _ {F I R E : Type 0} (post : F → I → Result R E → Type 0) (work : F) (pieces : ℕ) (v : WorkerView I) where
  going_first : All (λ number. number < pieces) v.numbers → Going post work pieces v v [] 0
  unfolding upto
  going_first below = record {
    share = refl;
    items = refl;
    workers = refl;
    numbers = sym (append-nil v.numbers);
    below = below;
    results_are = λ k d l. absurd (omega arith);
    later = λ x h. omega arith;
    rising = λ r. r;
    whole = λ s none. refl;
  }

  pub going_start : (results : List (Piece R)) → results ≡ [] → All (λ number. number < pieces) v.numbers → Going post work pieces v v results 0
  going_start results none below = subst (λ (rs : List (Piece R)). Going post work pieces v v rs 0) (sym none) (going_first below)

  module _ (w : WorkerView I) (results : List (Piece R)) (next number : ℕ) (was : Going post work pieces v w results next) where
    gains : (w' : WorkerView I) → w' ≡ longer_view w number → w'.numbers ≡ v.numbers ++ (map number_of results ++ number ∷ [])
    gains w' is = ap (λ u. u.numbers) is ∙ ap (λ (xs : List ℕ). xs ++ number ∷ []) was.numbers ∙ append_assoc v.numbers (map number_of results) (number ∷ [])

    pub more : (w' : WorkerView I) → w' ≡ longer_view w number → HasTaken v w'
    more w' is = record {
      share = ap (λ u. u.share) is ∙ was.share;
      items = ap (λ u. u.items) is ∙ was.items;
      workers = ap (λ u. u.workers) is ∙ was.workers;
      numbers = (map number_of results ++ number ∷ [], gains w' is);
    }

    pub ends : (w' : WorkerView I) → w' ≡ longer_view w number → pieces ≡ length v.items → slice_get w.items number ≡ None → Ends pieces v.numbers (map number_of results) w'.numbers
    ends w' is whole none = (
      number,
      subst (λ (n : ℕ). n ≤ number) (sym whole) (get_past v.items number (ap (λ (xs : List I). slice_get xs number) (sym was.items) ∙ none)),
      gains w' is,
    )

    -- the view after the draw
    pub rises : (w' : WorkerView I) → w' ≡ longer_view w number → All (λ x. x < number) w.numbers → Rising v.numbers → Rising w'.numbers
    rises w' is greater r = subst (λ (u : WorkerView I). Rising u.numbers) (sym is) (rising_more w.numbers number (was.rising r) greater)

    pub stays_near : (w' : WorkerView I) → w' ≡ longer_view w number → pieces ≡ length v.items → number < length w.items + 64 → All (λ x. x < pieces + 64) w'.numbers
    stays_near w' is whole near = let e : length w.items ≡ length v.items = ap length was.items in
        subst (λ (u : WorkerView I). All (λ x. x < pieces + 64) u.numbers) (sym is) (All-push (λ x. x < pieces + 64) w.numbers number (λ k d l. let b = was.below k d l in omega arith) (omega arith))

    -- all numbers so far are those of the results, where there were none before
    numbers_so_far : v.numbers ≡ [] → w.numbers ≡ map number_of results
    numbers_so_far none = was.numbers ∙ ap (λ (xs : List ℕ). xs ++ map number_of results) none

    next_is : (v.share ≡ v.workers → number ≡ length w.numbers) → v.share ≡ v.workers → v.numbers ≡ [] → number ≡ length results
    next_is next all none = next all ∙ ap length (numbers_so_far none) ∙ length-map results number_of

    pub ends_whole : pieces ≡ length v.items → (w.share ≡ w.workers → number ≡ length w.numbers) → slice_get w.items number ≡ None → v.share ≡ v.workers → v.numbers ≡ [] → map number_of results ≡ upto pieces
    ends_whole whole next none all empty = let n = next_is (λ e. next (was.share ∙ e ∙ sym was.workers)) all empty in
        let far = get_past v.items number (ap (λ (xs : List I). slice_get xs number) (sym was.items) ∙ none) in
        let few = few_below pieces (length results) (subst (λ (xs : List ℕ). All (λ x. x < pieces) xs) (numbers_so_far empty ∙ was.whole all empty) was.below) in
        let is : length results ≡ pieces = omega arith in was.whole all empty ∙ ap upto is

    last_below : (xs : List ℕ) (x : ℕ) → All (λ y. y < x) (xs ++ number ∷ []) → number < x
    last_below [] x h = h 0 0 (omega arith)
    last_below (y ∷ ys) x h = last_below ys x (λ k d l. h (suc k) d (omega arith))

    -- the numbers of one result more
    more_whole : (piece : Piece R) → piece.number ≡ number → (w.share ≡ w.workers → number ≡ length w.numbers) → v.share ≡ v.workers → v.numbers ≡ [] → map number_of (results ++ piece ∷ []) ≡ upto (length (results ++ piece ∷ []))
    more_whole piece is next all empty = let n = next_is (λ e. next (was.share ∙ e ∙ sym was.workers)) all empty in
        map-append number_of results (piece ∷ []) ∙ ap (λ (xs : List ℕ). xs ++ piece.number ∷ []) (was.whole all empty) ∙ ap (λ (k : ℕ). upto (length results) ++ k ∷ []) (is ∙ n)
        ∙ sym (upto_next (length results)) ∙ ap upto (sym (len_more results piece))

    goes_with : (w' : WorkerView I) (result : R) (item : I) → w' ≡ longer_view w number → number < pieces → slice_get w.items number ≡ Some item → post work item (Ok result) → All (λ x. x < number) w.numbers → (w.share ≡ w.workers → number ≡ length w.numbers)
        → Going post work pieces v w' (results ++ record { number = number; result = result } ∷ []) (number + 1)
    goes_with w' result item is low there done greater next = let piece : Piece R = record { number = number; result = result } in record {
      share = ap (λ u. u.share) is ∙ was.share;
      items = ap (λ u. u.items) is ∙ was.items;
      workers = ap (λ u. u.workers) is ∙ was.workers;
      numbers = gains w' is ∙ ap (λ (xs : List ℕ). v.numbers ++ xs) (sym (map-append number_of results (piece ∷ [])));
      below = subst (λ (u : WorkerView I). All (λ x. x < pieces) u.numbers) (sym is) (All-push (λ x. x < pieces) w.numbers number was.below low);
      results_are = All-push (IsPiece post work v.items) results piece was.results_are (item, ap (λ (xs : List I). slice_get xs number) (sym was.items) ∙ there, done);
      later = λ x h. let l = last_below w.numbers x (subst (λ (u : WorkerView I). All (λ y. y < x) u.numbers) is h) in omega arith;
      rising = rises w' is greater;
      whole = more_whole piece refl next;
    }

    -- after one more turn
    pub goes_on : (w' : WorkerView I) (item : I) (results' : List (Piece R)) → w' ≡ longer_view w number → pieces ≡ length v.items → slice_get w.items number ≡ Some item
        → WorkedOn post work number item results results' → All (λ x. x < number) w.numbers → (w.share ≡ w.workers → number ≡ length w.numbers) → Going post work pieces v w' results' (number + 1)
    goes_on w' item results' is whole there done greater next = let low = slice_get_within v.items number item (ap (λ (xs : List I). slice_get xs number) (sym was.items) ∙ there) in
        subst (λ (xs : List (Piece R)). Going post work pieces v w' xs (number + 1)) (sym done.1) (goes_with w' done.0 item is (subst (λ (n : ℕ). number < n) (sym whole) low) there done.2 greater next)

    pub nearer : (item : I) → pieces ≡ length v.items → slice_get w.items number ≡ Some item → All (λ x. x < number) w.numbers → (number < pieces) × (next ≤ number)
    nearer item whole there greater = let low = slice_get_within v.items number item (ap (λ (xs : List I). slice_get xs number) (sym was.items) ∙ there) in
        (subst (λ (n : ℕ). number < n) (sym whole) low, was.later number greater)

-- what holds of all holds of the one at a place
pub all_at : {X : Type 0} (P : X → Type 0) (xs : List X) (k : ℕ) (x : X) → All P xs → slice_get xs k ≡ Some x → P x
all_at P xs k x h e = subst P (get_or_from_slice_get xs k x x e) (h k x (slice_get_within xs k x e))
