-- Entries at their places.
use Rattle.std.proofs.Common.{arith, append_assoc, length, take, drop, map, get_or, ◌≡◌, ℕ, zero, suc, ◌+◌, ◌*◌, ◌<◌, ◌≤◌, not, Bool, true, false, ◌||◌, cond, List, [], ◌∷◌, ◌++◌, Option, Some, None, Ok, refl, sym, ap, ◌∙◌}
use Rattle.std.specs.Prelude.{find, filter}
use Rattle.std.specs.List.{list_any}
use Rattle.std.specs.Option.{option_map}
use Rattle.std.proofs.Math.Nat.{mul-le-mul_right}
use Rattle.std.proofs.lemmas.Bool.Decides.{nat_tests}
use Rattle.std.proofs.lemmas.List.{drop_all, append-nil}
use Rattle.std.proofs.lemmas.List.Elements.{filter-append}
use Rattle.std.proofs.lemmas.List.Folds.{list_any-append}
use Rattle.build_base.specs.declared.fault.Fault.{Fault}
use Rattle.build_base.specs.declared.refusal.Refusal.{Refusal}
use Rattle.build_base.specs.declared.refusal.Refusal.TheVariants.{Bad, WantOfMemory}
use Rattle.build_base.specs.Answer.{Finds, Refused}
use Rattle.build_base.specs.First.{or_else, unless}
use Rattle.build_base.proofs.Steps.{head_drop, map-passed}
use Rattle.doc_types.specs.declared.pcd.Datum.{Datum}
use Rattle.doc_types.specs.declared.pcd.Datum.TheVariants.{U8, U16, U32, U64, Boolean, Void}
use Rattle.vpd_image.specs.declared.lines.EntryLine.{EntryLine}
use Rattle.vpd_image.specs.declared.places.PlacedLine.{PlacedLine}
use Rattle.vpd_image.specs.Entries.{Entry}
use Rattle.vpd_image.specs.declared.free_map.FreeMap.{FreeMap}
use Rattle.vpd_image.specs.Places.{Placed, share, shares, end_of, size_of, is_free, overlap_of, overlap_with, overlap_fault, end_fault, long_fault, is_starred, placed_before, placed_next, placed_from, all_ended, align_of, first_from, greatest_end, least_place}
use Rattle.vpd_image.specs.Rooms.{Holds}
use Rattle.vpd_image.specs.Tables.{entry_view, placed_view}
use Rattle.vpd_image.proofs.ShareLemmas.{any_more}
use Rattle.vpd_image.proofs.RoomLemmas.{free_past}

-- no bytes share none
share_none : (start end first last : ℕ) → end ≤ start → share start end first last ≡ false
unfolding share
share_none start end first last h = grind (arith, nat_tests)

none_shared : (start end first last : ℕ) → last ≤ first → share start end first last ≡ false
unfolding share
none_shared start end first last h = grind (arith, nat_tests)

pub second_false : (a b : Bool) → (a || b) ≡ false → b ≡ false
second_false true b h = absurd cc
second_false false b h = h

pub first_false : (a b : Bool) → (a || b) ≡ false → a ≡ false
first_false true b h = h
first_false false b h = refl

pub find_none : {X : Type 0} (f : X → Bool) (xs : List X) → list_any f xs ≡ false → find f xs ≡ None
find_none f [] h = refl
find_none f (x ∷ xs) h = ap (λ z. cond z (Some x) (find f xs)) (first_false (f x) (list_any f xs) h) ∙ find_none f xs (second_false (f x) (list_any f xs) h)

empty_any : (start end : ℕ) (ps : List Placed) → end ≤ start → list_any (shares start end) ps ≡ false
empty_any start end [] h = refl
empty_any start end (p ∷ ps) h = rw (share_none start end p.offset (end_of p) h) (empty_any start end ps h)

-- an entry without bytes overlaps none, and takes none
pub empty_alone : (above : List Placed) (p : Placed) → size_of p.entry.row ≡ 0 → overlap_with above p ≡ None
unfolding end_of
empty_alone above p e = ap (option_map (overlap_of p)) (find_none (shares p.offset (end_of p)) above (empty_any p.offset (end_of p) above (omega (arith, e))))

pub holds_empty : (placed : List Placed) (p : Placed) (room : FreeMap) → size_of p.entry.row ≡ 0 → Holds placed room → Holds (placed ++ p ∷ []) room
unfolding end_of
holds_empty placed p room e h = record {
  sound = h.sound;
  same = λ s n.
      list_any-append (shares s (s + n)) placed (p ∷ []) ∙ ap (λ b. list_any (shares s (s + n)) placed || (b || false)) (none_shared s (s + n) p.offset (end_of p) (omega (arith, e)))
      ∙ or_false (list_any (shares s (s + n)) placed) ∙ h.same s n;
  past = λ d m lt. any_more (shares _ _) placed p (h.past d m lt);
}
  where
    or_false : (b : Bool) → (b || (false || false)) ≡ b
    or_false true = refl
    or_false false = refl

not_true : (b : Bool) → not b ≡ true → b ≡ false
not_true false h = refl
not_true true h = absurd cc

-- one that is free overlaps none
pub free_alone : (above : List Placed) (p : Placed) (start size : ℕ) → start ≡ p.offset → size ≡ size_of p.entry.row → is_free above size start ≡ true → overlap_with above p ≡ None
unfolding end_of
free_alone above p start size e f h =
    ap (option_map (overlap_of p)) (find_none (shares p.offset (end_of p)) above (ap (λ s. list_any (shares s (s + size_of p.entry.row)) above) (sym e) ∙ ap (λ n. list_any (shares start (start + n)) above) (sym f) ∙ not_true (list_any (shares start (start + size)) above) h))

some_first : (f : Placed → Bool) (g : Placed → Fault) (x : Placed) (xs : List Placed) (b : Bool) → (b || list_any f xs) ≡ true → option_map g (cond b (Some x) (find f xs)) ≡ None
    → (list_any f xs ≡ true → option_map g (find f xs) ≡ None → ⊥) → ⊥
some_first f g x xs true h none rest = absurd cc
some_first f g x xs false h none rest = rest h none

some_found : (f : Placed → Bool) (g : Placed → Fault) (xs : List Placed) → list_any f xs ≡ true → option_map g (find f xs) ≡ None → ⊥
some_found f g [] h none = absurd cc
some_found f g (x ∷ xs) h none = some_first f g x xs (f x) h none (some_found f g xs)

-- one that isn't does
pub taken_shared : (above : List Placed) (p : Placed) (start size : ℕ) → start ≡ p.offset → size ≡ size_of p.entry.row → is_free above size start ≡ false → overlap_with above p ≡ None → ⊥
unfolding end_of
taken_shared above p start size e f h none =
    some_found (shares p.offset (end_of p)) (overlap_of p) above (ap (λ s. list_any (shares s (s + size_of p.entry.row)) above) (sym e) ∙ ap (λ n. list_any (shares start (start + n)) above) (sym f) ∙ not_false (list_any (shares start (start + size)) above) h) none
  where
    not_false : (b : Bool) → not b ≡ false → b ≡ true
    not_false true h = refl
    not_false false h = absurd cc

-- the written entries one by one
pub overlap_step : (fixed : List PlacedLine) (i : ℕ) (x : PlacedLine) → i < length fixed → x ≡ get_or fixed i x
    → overlap_fault (map placed_view (take i fixed)) (map placed_view (drop i fixed))
    ≡ or_else (overlap_with (map placed_view (take i fixed)) (placed_view x)) (overlap_fault (map placed_view (take (i + 1) fixed)) (map placed_view (drop (i + 1) fixed)))
unfolding overlap_fault
overlap_step fixed i x h e =
    ap (λ z. overlap_fault (map placed_view (take i fixed)) (map placed_view z)) (head_drop fixed i x h e)
    ∙ ap (λ z. or_else (overlap_with (map placed_view (take i fixed)) (placed_view x)) (overlap_fault z (map placed_view (drop (i + 1) fixed)))) (sym (map-passed placed_view fixed i x h e))

pub overlap_end : (fixed : List PlacedLine) (i : ℕ) (above : List Placed) → length fixed ≤ i → overlap_fault above (map placed_view (drop i fixed)) ≡ None
unfolding overlap_fault
overlap_end fixed i above h = ap (λ z. overlap_fault above (map placed_view z)) (drop_all i fixed h)

-- the least place is free
passes_first : (test : ℕ → Bool) (count from : ℕ) (b : Bool) → test from ≡ b → test (first_from test count (suc from)) ≡ true → test (cond b from (first_from test count (suc from))) ≡ true
passes_first test count from true e h = e
passes_first test count from false e h = h

found_passes : (test : ℕ → Bool) (count from : ℕ) → test (from + count) ≡ true → test (first_from test count from) ≡ true
unfolding first_from
found_passes test zero from h = ap test (omega arith) ∙ h
found_passes test (suc count) from h = passes_first test count from (test from) refl (found_passes test count (suc from) (ap test (omega arith) ∙ h))

pub least_free : (placed : List Placed) (align size : ℕ) → 0 < align → is_free placed size (least_place placed align size) ≡ true
unfolding least_place
least_free placed align size pos =
    let g : ℕ = greatest_end placed in
    let up : 1 * g ≤ align * g = mul-le-mul_right g pos in
    found_passes (λ m. is_free placed size (align * m)) g 0 (ap (λ m. is_free placed size (align * m)) (omega arith) ∙ ap not (free_past placed (align * g) size (omega (arith, up))))

-- no bytes are free at once
pub least_empty : (placed : List Placed) (align size : ℕ) → size ≡ 0 → 0 ≡ least_place placed align size
unfolding least_place first_from
least_empty placed align size e = omega (arith) ∙ ap (λ n. align * n) (sym (at_once (greatest_end placed)))
  where
    at_once : (count : ℕ) → first_from (λ m. is_free placed size (align * m)) count 0 ≡ 0
    at_once zero = refl
    at_once (suc count) = ap (λ b. cond b 0 (first_from (λ m. is_free placed size (align * m)) count 1)) (ap not (empty_any (align * 0) (align * 0 + size) placed (omega (arith, e))))

pub align_some : (d : Datum) → 0 < align_of d
unfolding align_of
align_some U8 = omega arith
align_some U16 = omega arith
align_some U32 = omega arith
align_some U64 = omega arith
align_some Boolean = omega arith
align_some Void = omega arith

-- one more entry is placed
pub before_starred : (fixed above : List Placed) (p : Placed) → is_starred p ≡ true → placed_before fixed above ++ p ∷ [] ≡ placed_before fixed (above ++ p ∷ [])
before_starred fixed above p e =
    append_assoc fixed (filter is_starred above) (p ∷ [])
    ∙ ap (λ z. fixed ++ z) (ap (λ b. filter is_starred above ++ cond b (p ∷ []) []) (sym e) ∙ sym (filter-append is_starred above (p ∷ [])))

pub before_written : (fixed above : List Placed) (p : Placed) → is_starred p ≡ false → placed_before fixed above ≡ placed_before fixed (above ++ p ∷ [])
before_written fixed above p e =
    ap (λ z. fixed ++ z) (sym (append-nil (filter is_starred above)) ∙ ap (λ b. filter is_starred above ++ cond b (p ∷ []) []) (sym e) ∙ sym (filter-append is_starred above (p ∷ [])))

-- the first that ends too late
pub long_more : (above : List Placed) (p : Placed) → long_fault above ≡ None → long_fault (above ++ p ∷ []) ≡ end_fault p
unfolding long_fault
long_more [] p h = or_none (end_fault p)
  where
    or_none : (o : Option Fault) → or_else o None ≡ o
    or_none None = refl
    or_none (Some f) = refl
long_more (q ∷ above) p h = ap (λ z. or_else z (long_fault (above ++ p ∷ []))) (none_first (end_fault q) (long_fault above) h) ∙ long_more above p (none_second (end_fault q) (long_fault above) h)
  where
    none_first : (a b : Option Fault) → or_else a b ≡ None → a ≡ None
    none_first None b h = refl
    none_first (Some f) b h = h

    none_second : (a b : Option Fault) → or_else a b ≡ None → b ≡ None
    none_second None b h = h
    none_second (Some f) b h = absurd cc

long_kept : (above : List Placed) (p : Placed) (f : Fault) → long_fault above ≡ Some f → long_fault (above ++ p ∷ []) ≡ Some f
unfolding long_fault
long_kept [] p f h = absurd cc
long_kept (q ∷ above) p f h = by_first (end_fault q) h (long_kept above p f)
  where
    by_first : (o : Option Fault) → or_else o (long_fault above) ≡ Some f → (long_fault above ≡ Some f → long_fault (above ++ p ∷ []) ≡ Some f) → or_else o (long_fault (above ++ p ∷ [])) ≡ Some f
    by_first None h rest = rest h
    by_first (Some g) h rest = h

pub long_all : (fixed above : List Placed) (entries : List Entry) (f : Fault) → long_fault above ≡ Some f → long_fault (placed_from fixed above entries) ≡ Some f
unfolding placed_from
long_all fixed above [] f h = h
long_all fixed above (e ∷ es) f h = long_all fixed (above ++ placed_next fixed above e ∷ []) es f (long_kept above (placed_next fixed above e) f h)

pub next_left : (fixed above : List Placed) (entries : List EntryLine) (i : ℕ) (x : EntryLine) → i < length entries → x ≡ get_or entries i x
    → placed_from fixed above (map entry_view (drop i entries)) ≡ placed_from fixed (above ++ placed_next fixed above (entry_view x) ∷ []) (map entry_view (drop (i + 1) entries))
unfolding placed_from
next_left fixed above entries i x h e = ap (λ z. placed_from fixed above (map entry_view z)) (head_drop entries i x h e)

pub none_left : (fixed above : List Placed) (entries : List EntryLine) (i : ℕ) → length entries ≤ i → placed_from fixed above (map entry_view (drop i entries)) ≡ above
unfolding placed_from
none_left fixed above entries i h = ap (λ z. placed_from fixed above (map entry_view z)) (drop_all i entries h)

-- the fault of the next entry is that of all
pub refused_long : (e : Refusal) (fixed above : List Placed) (p : Placed) (entries : List Entry) (whole : List Placed) → Finds e (end_fault p) → long_fault above ≡ None
    → placed_from fixed (above ++ p ∷ []) entries ≡ whole → Refused e (all_ended whole)
refused_long (Bad f) fixed above p entries whole h none is =
    ap (λ o. unless o whole) (ap long_fault (sym is) ∙ long_all fixed (above ++ p ∷ []) entries f (long_more above p none ∙ h))
refused_long WantOfMemory fixed above p entries whole h none is = tt

pub ended_whole : (above whole : List Placed) → long_fault above ≡ None → above ≡ whole → all_ended whole ≡ Ok above
ended_whole above whole none is = ap all_ended (sym is) ∙ ap (λ o. unless o above) none

pub holds_nil : (fixed : List Placed) (room : FreeMap) → Holds fixed room → Holds (placed_before fixed []) room
holds_nil fixed room h = rw append-nil h

pub long_none : long_fault [] ≡ None
unfolding long_fault
long_none = refl
