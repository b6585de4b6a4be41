-- Where a text is found.
use Rattle.std.proofs.Common.{◌≡◌, ◌∙◌, ◌++◌, ◌<◌, ◌≤◌, ℕ, zero, suc, Bool, true, false, ◌||◌, cond, nat_eq, List, [], ◌∷◌, length, Option, Some, None, refl, sym, ap, append_assoc, append-nil, arith, rules}
use Rattle.std.specs.Prelude.{slice_get, slice_index_or, unwrap_or}
use Rattle.std.specs.List.{list_any}
use Rattle.std.specs.Cmp.Lexicographic.{pointwise}
use Rattle.std.specs.HashMap.{HashMap, get}
use Rattle.step_cache.specs.Places.{digest, span_text, texts_at, is_some_text, first_at, found_in, numbers_at, IsPlaced}
use Rattle.step_cache.specs.Pools.{text_is, has_text, number_in}
use Rattle.step_cache.specs.declared.places.Span.{Span}
use Rattle.step_cache.proofs.PoolLemmas.{text_is-true, number_more, number_last}
use Rattle.step_cache.proofs.OnceLemmas.{number_end, get_middle}

abbrev pub some_text : List ℕ → Option Span → Option (List ℕ)
some_text bytes None = None
some_text bytes (Some span) = Some (span_text bytes span)

pub get_text : (bytes : List ℕ) (spans : List Span) (n : ℕ)
    → slice_get (texts_at bytes spans) n ≡ some_text bytes (slice_get spans n)
get_text bytes [] n = refl
get_text bytes (s ∷ spans) zero = refl
get_text bytes (s ∷ spans) (suc n) = get_text bytes spans n

get_here : (spans : List Span) (n : ℕ) (d : Span) → n < length spans → slice_get spans n ≡ Some (slice_index_or spans n d)
get_here [] n d h = absurd (omega (arith, h))
get_here (s ∷ spans) zero d h = refl
get_here (s ∷ spans) (suc n) d h = get_here spans n d (omega (arith, h))

get_beyond : (spans : List Span) (n : ℕ) → length spans ≤ n → slice_get spans n ≡ None
get_beyond [] n h = refl
get_beyond (s ∷ spans) zero h = absurd (omega (arith, h))
get_beyond (s ∷ spans) (suc n) h = get_beyond spans n (omega (arith, h))

pub text_stands : (bytes : List ℕ) (spans : List Span) (text : List ℕ) (n : ℕ) (span : Span) (r : Bool) → n < length spans
    → span ≡ slice_index_or spans n span → r ≡ pointwise nat_eq text (span_text bytes span)
    → r ≡ is_some_text text (slice_get (texts_at bytes spans) n)
unfolding text_is
text_stands bytes spans text n span r below at is =
    is ∙ sym (ap (is_some_text text) (get_text bytes spans n ∙ ap (some_text bytes) (get_here spans n span below ∙ ap Some (sym at))))

pub text_lacks : (bytes : List ℕ) (spans : List Span) (text : List ℕ) (n : ℕ) → length spans ≤ n
    → false ≡ is_some_text text (slice_get (texts_at bytes spans) n)
text_lacks bytes spans text n beyond = sym (ap (is_some_text text) (get_text bytes spans n ∙ ap (some_text bytes) (get_beyond spans n beyond)))

-- the first in a table's list
pub found_first : {S : Type 0} (texts : List (List ℕ)) (table : HashMap ℕ (List ℕ) S) (text : List ℕ) → IsPlaced texts table
    → first_at texts text (numbers_at table (digest text)) ≡ found_in texts text
found_first texts table text placed =
    ap (λ (all : List (List ℕ)). first_at all text (numbers_at table (digest text))) (sym (append-nil texts)) ∙ placed text []

pub found_among : {S : Type 0} (texts : List (List ℕ)) (table : HashMap ℕ (List ℕ) S) (text numbers : List ℕ) → IsPlaced texts table
    → get nat_eq table (digest text) ≡ Some numbers → first_at texts text numbers ≡ found_in texts text
found_among texts table text numbers placed at =
    ap (λ (o : Option (List ℕ)). first_at texts text (unwrap_or o [])) (sym at) ∙ found_first texts table text placed

pub found_nowhere : {S : Type 0} (texts : List (List ℕ)) (table : HashMap ℕ (List ℕ) S) (text : List ℕ) → IsPlaced texts table
    → get nat_eq table (digest text) ≡ None → None ≡ found_in texts text
unfolding first_at
found_nowhere texts table text placed none =
    ap (λ (o : Option (List ℕ)). first_at texts text (unwrap_or o [])) (sym none) ∙ found_first texts table text placed

or_else : Option ℕ → Option ℕ → Option ℕ
or_else None next = next
or_else (Some n) next = Some n

-- a number more at the end
first_push : (texts : List (List ℕ)) (text numbers : List ℕ) (n : ℕ)
    → first_at texts text (numbers ++ n ∷ []) ≡ or_else (first_at texts text numbers) (cond (is_some_text text (slice_get texts n)) (Some n) None)
unfolding first_at or_else
first_push texts text [] n = refl
first_push texts text (m ∷ numbers) n = step (is_some_text text (slice_get texts m)) (first_push texts text numbers n)
  where
    step : (b : Bool) → first_at texts text (numbers ++ n ∷ []) ≡ or_else (first_at texts text numbers) (cond (is_some_text text (slice_get texts n)) (Some n) None)
        → cond b (Some m) (first_at texts text (numbers ++ n ∷ [])) ≡ or_else (cond b (Some m) (first_at texts text numbers)) (cond (is_some_text text (slice_get texts n)) (Some n) None)
    step true more = refl
    step false more = more

or_false : (b : Bool) → (b || false) ≡ b
or_false true = refl
or_false false = refl

-- whether a text is there once another stands at the end
has_pushed : (texts : List (List ℕ)) (added text : List ℕ) → has_text (texts ++ added ∷ []) text ≡ (has_text texts text || text_is text added)
unfolding has_text
has_pushed [] added text = or_false (text_is text added)
has_pushed (t ∷ texts) added text = step (text_is text t) (has_pushed texts added text)
  where
    step : (b : Bool) → list_any (text_is text) (texts ++ added ∷ []) ≡ (list_any (text_is text) texts || text_is text added)
        → (b || list_any (text_is text) (texts ++ added ∷ [])) ≡ ((b || list_any (text_is text) texts) || text_is text added)
    step true more = refl
    step false more = more

-- what is found once another text stands at the end
found_pushed : (texts : List (List ℕ)) (added text : List ℕ)
    → found_in (texts ++ added ∷ []) text ≡ or_else (found_in texts text) (cond (text_is text added) (Some (length texts)) None)
unfolding found_in or_else
found_pushed texts added text =
    ap (λ (b : Bool). cond b (Some (number_in (texts ++ added ∷ []) text)) None) (has_pushed texts added text)
    ∙ step (has_text texts text) refl (text_is text added) refl
  where
    step : (b : Bool) → has_text texts text ≡ b → (c : Bool) → text_is text added ≡ c
        → cond (b || c) (Some (number_in (texts ++ added ∷ []) text)) None ≡ or_else (cond b (Some (number_in texts text)) None) (cond c (Some (length texts)) None)
    step true h c e = ap Some (number_more texts (added ∷ []) text h)
    step false h true e =
        let same : text ≡ added = text_is-true text added e in
        ap Some (ap (λ (t : List ℕ). number_in (texts ++ t ∷ []) text) (sym same) ∙ number_last texts text h ∙ number_end texts text h)
    step false h false e = refl

module _ {S : Type 0} (texts : List (List ℕ)) (text numbers : List ℕ) (number : ℕ) (old mid new : HashMap ℕ (List ℕ) S)
    (at : length texts ≡ number)
    (taken : (d : ℕ) → get nat_eq mid d ≡ cond (nat_eq (digest text) d) None (get nat_eq old d))
    (put : (d : ℕ) → get nat_eq new d ≡ cond (nat_eq (digest text) d) (Some numbers) (get nat_eq mid d))
    (is : numbers ≡ numbers_at old (digest text) ++ number ∷ []) (placed : IsPlaced texts old) where
  here : (t : List ℕ) (more : List (List ℕ)) → nat_eq (digest text) (digest t) ≡ true
      → first_at ((texts ++ text ∷ []) ++ more) t numbers ≡ found_in (texts ++ text ∷ []) t
  here t more e =
      let same : digest text ≡ digest t = search (rules, e) in
      let all : List (List ℕ) = (texts ++ text ∷ []) ++ more in
      let joined : all ≡ texts ++ text ∷ more = append_assoc texts (text ∷ []) more in
      let before : first_at all t (numbers_at old (digest text)) ≡ found_in texts t =
      ap (λ (a : List (List ℕ)). first_at a t (numbers_at old (digest text))) joined
      ∙ ap (λ (d : ℕ). first_at (texts ++ text ∷ more) t (numbers_at old d)) same ∙ placed t (text ∷ more) in
      let last : slice_get all number ≡ Some text =
      ap (λ (a : List (List ℕ)). slice_get a number) joined ∙ ap (slice_get (texts ++ text ∷ more)) (sym at) ∙ get_middle texts text more in
      ap (first_at all t) is ∙ first_push all t (numbers_at old (digest text)) number
      ∙ ap (λ (o : Option ℕ). or_else o (cond (is_some_text t (slice_get all number)) (Some number) None)) before
      ∙ ap (λ (o : Option (List ℕ)). or_else (found_in texts t) (cond (is_some_text t o) (Some number) None)) last
      ∙ ap (λ (n : ℕ). or_else (found_in texts t) (cond (text_is t text) (Some n) None)) (sym at)
      ∙ sym (found_pushed texts text t)

  there : (t : List ℕ) (more : List (List ℕ)) → nat_eq (digest text) (digest t) ≡ false
      → first_at ((texts ++ text ∷ []) ++ more) t (numbers_at old (digest t)) ≡ found_in (texts ++ text ∷ []) t
  unfolding or_else
  there t more e =
      ap (λ (a : List (List ℕ)). first_at a t (numbers_at old (digest t))) (append_assoc texts (text ∷ []) more) ∙ placed t (text ∷ more)
      ∙ step (text_is t text) refl ∙ sym (found_pushed texts text t)
    where
      step : (b : Bool) → text_is t text ≡ b → found_in texts t ≡ or_else (found_in texts t) (cond b (Some (length texts)) None)
      step true same =
          let eq : digest text ≡ digest t = ap digest (sym (text_is-true t text same)) in
          absurd (search (rules, e, eq))
      step false same = none (found_in texts t)
        where
          none : (o : Option ℕ) → o ≡ or_else o None
          none None = refl
          none (Some n) = refl

  -- with the number of a new text at its digest
  pub placed_push : IsPlaced (texts ++ text ∷ []) new
  placed_push t more =
      ap (λ (o : Option (List ℕ)). first_at ((texts ++ text ∷ []) ++ more) t (unwrap_or o [])) (put (digest t) ∙ ap (cond (nat_eq (digest text) (digest t)) (Some numbers)) (taken (digest t)))
      ∙ step (nat_eq (digest text) (digest t)) refl
    where
      step : (b : Bool) → nat_eq (digest text) (digest t) ≡ b
          → first_at ((texts ++ text ∷ []) ++ more) t (unwrap_or (cond b (Some numbers) (cond b None (get nat_eq old (digest t)))) []) ≡ found_in (texts ++ text ∷ []) t
      step true e = here t more e
      step false e = there t more e
