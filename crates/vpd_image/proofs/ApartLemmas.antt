-- No two entries at their places have a byte in common.
use Rattle.std.proofs.Common.{arith, append_assoc, ◌≡◌, ℕ, ◌+◌, not, Bool, true, false, ◌||◌, cond, List, [], ◌∷◌, ◌++◌, Option, Some, None, Result, Ok, Err, map, refl, sym, ap, subst, ◌∙◌}
use Rattle.std.specs.Prelude.{filter, find, nat_le}
use Rattle.std.specs.List.{AllByRecursion, list_any}
use Rattle.std.specs.Option.{option_map}
use Rattle.std.proofs.lemmas.Bool.Decides.{nat_tests}
use Rattle.std.proofs.lemmas.List.{append-nil}
use Rattle.std.proofs.lemmas.List.Elements.{filter-append, All-from_recursion}
use Rattle.std.proofs.lemmas.List.Folds.{list_any-append}
use Rattle.std.proofs.lemmas.List.Kept.{AllPairs-cons}
use Rattle.build_base.specs.declared.fault.Fault.{Fault}
use Rattle.build_base.specs.First.{or_else, or_fault, unless}
use Rattle.doc_types.specs.declared.vpd.Vpd.{Vpd}
use Rattle.vpd_image.specs.Entries.{Entry}
use Rattle.vpd_image.specs.Orders.{Apart, apart}
use Rattle.vpd_image.specs.Places.{Placed, share, shares, end_of, size_of, align_of, written_entries, written_offset, placed_if, offset_by, is_starred, least_place, placed_before, placed_next, placed_from, placed, placed_by, all_ended, long_fault, overlap_of, overlap_with, overlap_fault, in_order, put_in_order}
use Rattle.vpd_image.specs.Vpd.{place_of, vpd_from, AreApart}
use Rattle.vpd_image.proofs.OrderLemmas.{all_put}
use Rattle.vpd_image.proofs.PlaceLemmas.{first_false, second_false, least_free, align_some}

share_flip : (start end first last : ℕ) → share start end first last ≡ false → share first last start end ≡ false
unfolding share
share_flip start end first last h = grind (arith, nat_tests, h)

all_between : (P : Placed → Type 0) (above rest : List Placed) (p : Placed) → AllByRecursion P (above ++ rest) → P p → AllByRecursion P ((above ++ p ∷ []) ++ rest)
all_between P [] rest p a h = (h, a)
all_between P (q ∷ above) rest p a h = (a.0, all_between P above rest p a.1 h)

-- one more, apart from all
apart_between : (above rest : List Placed) (p : Placed) → Apart (above ++ rest) → AllByRecursion (apart p) (above ++ rest) → Apart ((above ++ p ∷ []) ++ rest)
unfolding Apart
apart_between [] rest p a h = (h, a)
apart_between (q ∷ above) rest p a h =
    (all_between (apart q) above rest p a.0 (share_flip p.offset (end_of p) q.offset (end_of q) h.0), apart_between above rest p a.1 h.1)

all_apart : (p : Placed) (qs : List Placed) → list_any (shares p.offset (end_of p)) qs ≡ false → AllByRecursion (apart p) qs
all_apart p [] h = tt
all_apart p (q ∷ qs) h =
    (first_false (shares p.offset (end_of p) q) (list_any (shares p.offset (end_of p)) qs) h, all_apart p qs (second_false (shares p.offset (end_of p) q) (list_any (shares p.offset (end_of p)) qs) h))

-- written entries without a fault
none_found : (f : Placed → Bool) (g : Placed → Fault) (b : Bool) (x : Placed) (xs : List Placed) → option_map g (cond b (Some x) (find f xs)) ≡ None → (option_map g (find f xs) ≡ None → list_any f xs ≡ false) → (b || list_any f xs) ≡ false
none_found f g true x xs h rest = absurd cc
none_found f g false x xs h rest = rest h

none_any : (f : Placed → Bool) (g : Placed → Fault) (xs : List Placed) → option_map g (find f xs) ≡ None → list_any f xs ≡ false
none_any f g [] h = refl
none_any f g (x ∷ xs) h = none_found f g (f x) x xs h (none_any f g xs)

none_first : {T : Type 0} (a b : Option T) → or_else a b ≡ None → a ≡ None
none_first None b h = refl
none_first (Some x) b h = h

none_second : {T : Type 0} (a b : Option T) → or_else a b ≡ None → b ≡ None
none_second None b h = h
none_second (Some x) b h = absurd cc

apart_push : (above : List Placed) (p : Placed) → Apart above → overlap_with above p ≡ None → Apart (above ++ p ∷ [])
apart_push above p a h =
    let whole : Apart (above ++ []) = subst (λ z. Apart z) (sym (append-nil above)) a in
    let all : AllByRecursion (apart p) (above ++ []) = all_apart p (above ++ []) (ap (list_any (shares p.offset (end_of p))) (append-nil above) ∙ none_any (shares p.offset (end_of p)) (overlap_of p) above h) in
    subst (λ z. Apart z) (append-nil (above ++ p ∷ [])) (apart_between above [] p whole all)

pub apart_fixed : (above fixed : List Placed) → Apart above → overlap_fault above fixed ≡ None → Apart (above ++ fixed)
unfolding overlap_fault
apart_fixed above [] a h = subst (λ z. Apart z) (sym (append-nil above)) a
apart_fixed above (p ∷ fixed) a h =
    let first : overlap_with above p ≡ None = none_first (overlap_with above p) (overlap_fault (above ++ p ∷ []) fixed) h in
    let rest : overlap_fault (above ++ p ∷ []) fixed ≡ None = none_second (overlap_with above p) (overlap_fault (above ++ p ∷ []) fixed) h in
    subst (λ z. Apart z) (append_assoc above (p ∷ []) fixed) (apart_fixed (above ++ p ∷ []) fixed (apart_push above p a first) rest)

-- an entry has a written offset or `*`
abbrev is_fixed : Placed → Bool
is_fixed p = not (is_starred p)

any_split : (f : Placed → Bool) (ps : List Placed) → list_any f (filter is_fixed ps) ≡ false → list_any f (filter is_starred ps) ≡ false → list_any f ps ≡ false
any_split f [] a b = refl
any_split f (p ∷ ps) a b = by_kind (is_starred p) a b (any_split f ps)
  where
    both : (x y : Bool) → x ≡ false → y ≡ false → (x || y) ≡ false
    both true y h k = h
    both false y h k = k

    by_kind : (c : Bool) → list_any f (cond (not c) (p ∷ filter is_fixed ps) (filter is_fixed ps)) ≡ false → list_any f (cond c (p ∷ filter is_starred ps) (filter is_starred ps)) ≡ false
        → (list_any f (filter is_fixed ps) ≡ false → list_any f (filter is_starred ps) ≡ false → list_any f ps ≡ false) → (f p || list_any f ps) ≡ false
    by_kind true a b rest = both (f p) (list_any f ps) (first_false (f p) (list_any f (filter is_starred ps)) b) (rest a (second_false (f p) (list_any f (filter is_starred ps)) b))
    by_kind false a b rest = both (f p) (list_any f ps) (first_false (f p) (list_any f (filter is_fixed ps)) a) (rest (second_false (f p) (list_any f (filter is_fixed ps)) a) b)

-- what is free of those that are placed before is free of those above and of the written ones below
free_of_all : (f : Placed → Bool) (fixed above rest : List Placed) → fixed ≡ filter is_fixed above ++ rest → list_any f (fixed ++ filter is_starred above) ≡ false → list_any f (above ++ rest) ≡ false
free_of_all f fixed above rest is h =
    let parts : (list_any f fixed || list_any f (filter is_starred above)) ≡ false = sym (list_any-append f fixed (filter is_starred above)) ∙ h in
    let first : list_any f (filter is_fixed above ++ rest) ≡ false = ap (list_any f) (sym is) ∙ first_false (list_any f fixed) (list_any f (filter is_starred above)) parts in
    let both : (list_any f (filter is_fixed above) || list_any f rest) ≡ false = sym (list_any-append f (filter is_fixed above) rest) ∙ first in
    let upper : list_any f above ≡ false = any_split f above (first_false (list_any f (filter is_fixed above)) (list_any f rest) both) (second_false (list_any f fixed) (list_any f (filter is_starred above)) parts) in
    list_any-append f above rest ∙ ap (λ b. b || list_any f rest) upper ∙ second_false (list_any f (filter is_fixed above)) (list_any f rest) both

not_true : (b : Bool) → not b ≡ true → b ≡ false
not_true false h = refl
not_true true h = absurd cc

-- all that is known of entries that are placed so far, and of the written ones below them
record Goes (fixed above : List Placed) (entries : List Entry) : Type 0 where
  is : fixed ≡ filter is_fixed above ++ written_entries entries
  clear : Apart (above ++ written_entries entries)

kept_filter : (above rest : List Placed) (p : Placed) → filter is_fixed (above ++ p ∷ []) ++ rest ≡ filter is_fixed above ++ (filter is_fixed (p ∷ []) ++ rest)
kept_filter above rest p = ap (λ z. z ++ rest) (filter-append is_fixed above (p ∷ [])) ∙ append_assoc (filter is_fixed above) (filter is_fixed (p ∷ [])) rest

goes_on : (fixed above : List Placed) (entry : Entry) (entries : List Entry) (offset : Option ℕ) → written_offset entry ≡ offset
    → fixed ≡ filter is_fixed above ++ (placed_if entry offset ++ written_entries entries) → Apart (above ++ (placed_if entry offset ++ written_entries entries))
    → Goes fixed (above ++ record { entry = entry; offset = offset_by fixed above entry offset } ∷ []) entries
unfolding end_of
goes_on fixed above entry entries (Some offset) e is a =
    let p : Placed = record { entry = entry; offset = offset } in
    record {
      is = is ∙ sym (kept_filter above (written_entries entries) p ∙ ap (λ z. filter is_fixed above ++ (z ++ written_entries entries)) (one_fixed offset e));
      clear = subst (λ z. Apart z) (sym (append_assoc above (p ∷ []) (written_entries entries))) a;
    }
  where
    one_fixed : (offset : ℕ) → written_offset entry ≡ Some offset → filter is_fixed (record { entry = entry; offset = offset } ∷ []) ≡ record { entry = entry; offset = offset } ∷ []
    one_fixed offset e = cc
goes_on fixed above entry entries None e is a =
    let size : ℕ = size_of entry.row in
    let at : ℕ = least_place (placed_before fixed above) (align_of entry.row.datum) size in
    let p : Placed = record { entry = entry; offset = at } in
    let free : list_any (shares at (at + size)) (placed_before fixed above) ≡ false = not_true (list_any (shares at (at + size)) (placed_before fixed above)) (least_free (placed_before fixed above) (align_of entry.row.datum) size (align_some entry.row.datum)) in
    record {
      is = is ∙ sym (kept_filter above (written_entries entries) p ∙ ap (λ z. filter is_fixed above ++ (z ++ written_entries entries)) (none_fixed at e));
      clear = apart_between above (written_entries entries) p a (all_apart p (above ++ written_entries entries) (free_of_all (shares at (at + size)) fixed above (written_entries entries) is free));
    }
  where
    none_fixed : (offset : ℕ) → written_offset entry ≡ None → filter is_fixed (record { entry = entry; offset = offset } ∷ []) ≡ []
    none_fixed offset e = cc

apart_from : (fixed above : List Placed) (entries : List Entry) → Goes fixed above entries → Apart (placed_from fixed above entries)
unfolding placed_from placed_next written_entries
apart_from fixed above [] g = subst (λ z. Apart z) (append-nil above) g.clear
apart_from fixed above (entry ∷ entries) g =
    apart_from fixed (above ++ placed_next fixed above entry ∷ []) entries (goes_on fixed above entry entries (written_offset entry) refl g.is g.clear)

apart_nil : Apart []
unfolding Apart
apart_nil = tt

pub apart_placed : (entries : List Entry) → overlap_fault [] (written_entries entries) ≡ None → Apart (placed entries)
unfolding placed
apart_placed entries h = apart_from (written_entries entries) [] entries (record { is = refl; clear = apart_fixed [] (written_entries entries) apart_nil h })

-- in the order of their offsets too
apart_put : (p : Placed) (qs : List Placed) → AllByRecursion (apart p) qs → Apart qs → Apart (put_in_order p qs)
unfolding Apart put_in_order
apart_put p [] h a = (tt, tt)
apart_put p (q ∷ qs) h a = by_place (nat_le p.offset q.offset) (apart_put p qs h.1 a.1)
  where
    by_place : (b : Bool) → Apart (put_in_order p qs) → Apart (cond b (p ∷ q ∷ qs) (q ∷ put_in_order p qs))
    by_place true rest = (h, a)
    by_place false rest = (all_put (apart q) p qs (share_flip p.offset (end_of p) q.offset (end_of q) h.0) a.0, rest)

all_in_order : (P : Placed → Type 0) (ps : List Placed) → AllByRecursion P ps → AllByRecursion P (in_order ps)
unfolding in_order
all_in_order P [] h = tt
all_in_order P (p ∷ ps) h = all_put P p (in_order ps) h.0 (all_in_order P ps h.1)

pub apart_in_order : (ps : List Placed) → Apart ps → Apart (in_order ps)
unfolding Apart in_order
apart_in_order [] a = tt
apart_in_order (p ∷ ps) a = apart_put p (in_order ps) (all_in_order (apart p) ps a.0) (apart_in_order ps a.1)

-- as places of the image
all_places : (p : Placed) (qs : List Placed) → AllByRecursion (apart p) qs → AllByRecursion (λ q. share p.offset (p.offset + size_of p.entry.row) q.offset (q.offset + q.size) ≡ false) (map place_of qs)
unfolding end_of
all_places p [] h = tt
all_places p (q ∷ qs) h = (h.0, all_places p qs h.1)

pub places_apart : (ps : List Placed) → Apart ps → AreApart (map place_of ps)
unfolding Apart
places_apart [] a = λ i j d lt within. absurd (omega (arith, within))
places_apart (p ∷ ps) a = AllPairs-cons (λ p q. share p.offset (p.offset + p.size) q.offset (q.offset + q.size) ≡ false) (place_of p) (map place_of ps) (All-from_recursion _ (map place_of ps) (all_places p ps a.0)) (places_apart ps a.1)

-- entries that are placed without a fault
ended_is : (all ps : List Placed) (fault : Option Fault) → unless fault all ≡ Ok ps → all ≡ ps
ended_is all ps None h = ap (or_none all) h
  where
    or_none : List Placed → Result (List Placed) Fault → List Placed
    or_none d (Ok x) = x
    or_none d (Err e) = d
ended_is all ps (Some f) h = absurd cc

pub apart_result : (entries : List Entry) (fixed ps : List Placed) → fixed ≡ written_entries entries → overlap_fault [] fixed ≡ None → all_ended (placed_from fixed [] entries) ≡ Ok ps → Apart ps
unfolding placed
apart_result entries fixed ps is none ended =
    subst (λ z. Apart z) (ap (λ f. placed_from f [] entries) (sym is) ∙ ended_is (placed_from fixed [] entries) ps (long_fault (placed_from fixed [] entries)) ended) (apart_placed entries (ap (overlap_fault []) (sym is) ∙ none))

fault_none : {T : Type 0} (fault : Option Fault) (outcome : Result T Fault) (x : T) → or_fault fault outcome ≡ Ok x → outcome ≡ Ok x
fault_none None outcome x h = h
fault_none (Some f) outcome x h = absurd cc

pub placed_is : (entries : List Entry) (ps : List Placed) → placed_by entries ≡ Ok ps → placed entries ≡ ps
unfolding placed_by
placed_is entries ps h =
    ended_is (placed entries) ps (long_fault (placed entries))
    (fault_none (long_fault (written_entries entries)) (all_ended (placed entries)) ps (fault_none (overlap_fault [] (written_entries entries)) (or_fault (long_fault (written_entries entries)) (all_ended (placed entries))) ps h))

pub made_apart : (vpd : Vpd) (ps : List Placed) → Apart ps → vpd ≡ vpd_from (in_order ps) → AreApart vpd.places
unfolding vpd_from
made_apart vpd ps a e = subst (λ v. AreApart v.places) (sym e) (places_apart (in_order ps) (apart_in_order ps a))
