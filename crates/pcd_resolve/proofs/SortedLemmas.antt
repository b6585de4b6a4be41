-- Names at their places, seen as bytes.
use Rattle.std.proofs.Common.{Less, Equal, Greater, ◌≡◌, ℕ, map, List, [], ◌∷◌, refl, ap}
use Rattle.std.specs.BTreeSet.{insert_key}
use Rattle.std.specs.Cmp.Lexicographic.{slice_cmp}
use Rattle.std.specs.Global.{Vec}
use Rattle.std.specs.Ordering.{nat_cmp, match_ordering}
use Rattle.std.specs.declared.cmp.Ordering.{Ordering}
use Rattle.pcd_resolve.specs.Groups.{by_bytes}

seen_by : (x k : Vec ℕ) (xs : List (Vec ℕ)) (o : Ordering)
    → map (λ n. n.items) (insert_key by_bytes xs k) ≡ insert_key (slice_cmp nat_cmp) (map (λ n. n.items) xs) k.items
    → map (λ n. n.items) (match_ordering o (k ∷ x ∷ xs) (x ∷ xs) (x ∷ insert_key by_bytes xs k))
    ≡ match_ordering o (k.items ∷ x.items ∷ map (λ n. n.items) xs) (x.items ∷ map (λ n. n.items) xs) (x.items ∷ insert_key (slice_cmp nat_cmp) (map (λ n. n.items) xs) k.items)
seen_by x k xs Less e = refl
seen_by x k xs Equal e = refl
seen_by x k xs Greater e = ap (λ ys. x.items ∷ ys) e

pub insert_seen : (xs : List (Vec ℕ)) (k : Vec ℕ)
    → map (λ n. n.items) (insert_key by_bytes xs k) ≡ insert_key (slice_cmp nat_cmp) (map (λ n. n.items) xs) k.items
insert_seen [] k = refl
insert_seen (x ∷ xs) k = seen_by x k xs (slice_cmp nat_cmp k.items x.items) (insert_seen xs k)
