-- Entries at their places, seen as names and GUIDs.
use Rattle.std.proofs.Common.{arith, Less, Equal, Greater, ◌≡◌, ◌<◌, ◌+◌, ℕ, map, List, [], ◌∷◌, length, drop, get_or, refl, ap}
use Rattle.std.specs.BTreeMap.{insert_entry}
use Rattle.std.specs.Cmp.Lexicographic.{slice_cmp}
use Rattle.std.specs.Global.{Vec}
use Rattle.std.specs.Ordering.{nat_cmp, match_ordering}
use Rattle.std.specs.declared.cmp.Ordering.{Ordering}
use Rattle.std.proofs.lemmas.List.{drop_more, drop_all}
use Rattle.build_base.specs.declared.guid.Guid.{Guid}
use Rattle.build_texts.specs.declared.names.FoundGuid.{FoundGuid}
use Rattle.build_texts.specs.Named.{by_name}
use Rattle.pcd_resolve.specs.Groups.{by_bytes}
use Rattle.build_texts.specs.Views.{entry_view, seen}

seen_by : (e : Vec ℕ × Guid) (k : Vec ℕ) (g : Guid) (es : List (Vec ℕ × Guid)) (o : Ordering)
    → map entry_view (insert_entry by_bytes es k g) ≡ insert_entry (slice_cmp nat_cmp) (map entry_view es) k.items g
    → map entry_view (match_ordering o ((k, g) ∷ e ∷ es) ((e.0, g) ∷ es) (e ∷ insert_entry by_bytes es k g))
    ≡ match_ordering o ((k.items, g) ∷ entry_view e ∷ map entry_view es) ((e.0.items, g) ∷ map entry_view es)
    (entry_view e ∷ insert_entry (slice_cmp nat_cmp) (map entry_view es) k.items g)
seen_by e k g es Less h = refl
seen_by e k g es Equal h = refl
seen_by e k g es Greater h = ap (λ xs. entry_view e ∷ xs) h

pub insert_seen : (es : List (Vec ℕ × Guid)) (k : Vec ℕ) (g : Guid)
    → map entry_view (insert_entry by_bytes es k g) ≡ insert_entry (slice_cmp nat_cmp) (map entry_view es) k.items g
insert_seen [] k g = refl
insert_seen (e ∷ es) k g = seen_by e k g es (slice_cmp nat_cmp k.items e.0.items) (insert_seen es k g)

-- one more line, from the last one on
pub by_name_step : (guids : List FoundGuid) (i : ℕ) (f : FoundGuid) → i < length guids
    → by_name (seen (drop i guids)) ≡ insert_entry (slice_cmp nat_cmp) (by_name (seen (drop (i + 1) guids))) (get_or guids i f).name.now (get_or guids i f).guid
unfolding by_name
by_name_step guids i f h = ap (λ xs. by_name (seen xs)) (drop_more guids i f h)

pub by_name_end : (guids : List FoundGuid) → by_name (seen (drop (length guids) guids)) ≡ []
unfolding by_name
by_name_end guids = ap (λ xs. by_name (seen xs)) (drop_all (length guids) guids (omega arith))
